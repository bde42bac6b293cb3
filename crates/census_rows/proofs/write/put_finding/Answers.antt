use Rattle.std.proofs.Common.{◌∷◌, [], decimal, subst}
use Rattle.std.specs.Fmt.{signed_decimal}
use Rattle.watched.specs.Telling.{TellsAfter, sheet}
use Rattle.census_rows.specs.Kinds.{texts_of}
use Rattle.census_rows.specs.Lines.{fields_text}
use Rattle.census_rows.proofs.Told.{field_last, field_then}
use Rattle.census_rows.proofs.write.put_finding.Goals as goal

pub returns-in-Ok : goal.returns-in-Ok
returns-in-Ok g c =
    let o = c.in-Ok in
    let x = signed_decimal o.dx in
    let y = signed_decimal o.dy in
    rw o.is
    (field_then (decimal o.onset) (decimal o.period ∷ x ∷ y ∷ o.code.now ∷ []) _ _ _ c.put_number.ensures
    (field_then (decimal o.period) (x ∷ y ∷ o.code.now ∷ []) _ _ _ c.put_number-in-Ok.ensures
    (field_then x (y ∷ o.code.now ∷ []) _ _ _ c.put_signed.ensures
    (field_then y (o.code.now ∷ []) _ _ _ c.put_signed-in-Ok.ensures (field_last o.code.now _ _ c.put_field.ensures)))))

pub returns-in_default : goal.returns-in_default
returns-in_default g c =
    subst (λ fields. TellsAfter (fields_text (texts_of fields)) (sheet c.args.block.now c.args.writer.now) (sheet c.put_fields.new.block c.put_fields.new.writer))
    c.said.ensures.fields c.put_fields.ensures
