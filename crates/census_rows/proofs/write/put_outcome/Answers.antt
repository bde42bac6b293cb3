use Rattle.std.proofs.Common.{◌∷◌, [], codes, decimal, subst}
use Rattle.watched.specs.Telling.{TellsAfter, sheet}
use Rattle.census_rows.specs.Kinds.{said, said_of, texts_of}
use Rattle.census_rows.proofs.Told.{field_last, field_then}
use Rattle.census_rows.proofs.write.put_outcome.Goals as goal

pub returns-in-Found : goal.returns-in-Found
returns-in-Found g c =
    let o = c.in-Found in
    let f = o.finding in
    let s0 = sheet c.args.block.now c.args.writer.now in
    let s1 = sheet c.put_field.new.block c.put_field.new.writer in
    let s2 = sheet c.put_field-in-Found.new.block c.put_field-in-Found.new.writer in
    let s3 = sheet c.put_number.new.block c.put_number.new.writer in
    let s4 = sheet c.put_finding.new.block c.put_finding.new.writer in
    let word = subst (λ word. TellsAfter (32 ∷ word) s0 s1) c.word.ensures c.put_field.ensures in
    let found = subst (λ outcome. TellsAfter (32 ∷ (said outcome).word) s0 s1) o.is word in
    rw o.is
    (field_then (said_of f).word (o.rule.now ∷ decimal o.population ∷ texts_of (said_of f).fields) s0 s1 s4 found
    (field_then o.rule.now (decimal o.population ∷ texts_of (said_of f).fields) s1 s2 s4 c.put_field-in-Found.ensures
    (field_then (decimal o.population) (texts_of (said_of f).fields) s2 s3 s4 c.put_number.ensures c.put_finding.ensures)))

pub returns-in-Bad : goal.returns-in-Bad
returns-in-Bad g c =
    let o = c.in-Bad in
    let s0 = sheet c.args.block.now c.args.writer.now in
    let s1 = sheet c.put_field.new.block c.put_field.new.writer in
    let s2 = sheet c.put_number-in-Bad.new.block c.put_number-in-Bad.new.writer in
    let word = subst (λ word. TellsAfter (32 ∷ word) s0 s1) c.word.ensures c.put_field.ensures in
    let found = subst (λ outcome. TellsAfter (32 ∷ (said outcome).word) s0 s1) o.is word in
    rw o.is (field_then (codes "bad") (decimal o.fault ∷ []) s0 s1 s2 found (field_last (decimal o.fault) s1 s2 c.put_number-in-Bad.ensures))
