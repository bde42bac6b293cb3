use Rattle.std.proofs.Common.{◌≡◌, decimal, sym, ◌∙◌}
use Rattle.std.proofs.lemmas.Fmt.{IsAscii-decimal, parse-decimal}
use Rattle.std.proofs.lemmas.Str.{IsUtf8-from_ascii}
use Rattle.std.proofs.lemmas.Slice.Eq.{slice_eq-Decides}
use Rattle.std.proofs.lemmas.Bool.Decides.{Decides-eqb}
use Rattle.census_rows.proofs.numbers.number_of.Goals as goal

pub returns-in_default-clause-all : goal.returns-in_default-clause-all
returns-in_default-clause-all c = λ n small e.
    absurd (c.in_default.ensures.cases.0 (rw e (IsUtf8-from_ascii (decimal n) (IsAscii-decimal n small))))

pub returns-in_default-parse-clause-all : goal.returns-in_default-parse-clause-all
returns-in_default-parse-clause-all c = λ n small e.
    let gives = parse-decimal 64 n c.in-Ok.text.now c.parse.result small small (c.in-Ok.ensures.cases.0 ∙ e) c.parse.ensures.value.0 in
    cc

pub returns-then-eq-clause-all : goal.returns-then-eq-clause-all
returns-then-eq-clause-all c = λ n small e.
    let gives = parse-decimal 64 n c.in-Ok.text.now c.parse.result small small (c.in-Ok.ensures.cases.0 ∙ e) c.parse.ensures.value.0 in
    cc

pub returns-else-eq-clause-all : goal.returns-else-eq-clause-all
returns-else-eq-clause-all c = λ n small e.
    let gives = parse-decimal 64 n c.in-Ok.text.now c.parse.result small small (c.in-Ok.ensures.cases.0 ∙ e) c.parse.ensures.value.0 in
    let same : c.in-Ok-parse.number ≡ n = cc in
    let told = slice_eq-Decides Decides-eqb c.as_bytes.result.now c.args.field.now c.eq.result c.eq.ensures in
    let equal : c.as_bytes.result.now ≡ c.args.field.now = c.as_bytes.ensures.value ∙ c.format.ensures.text ∙ rw same (sym e) in
    let yes = told.1 equal in
    cc
