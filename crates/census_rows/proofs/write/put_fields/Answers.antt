use Rattle.watched.specs.Telling.{sheet}
use Rattle.census_rows.proofs.Told.{optional_at, optional_end}
use Rattle.census_rows.proofs.write.put_fields.Goals as goal

pub loop-field-preserved : goal.loop-field-preserved
loop-field-preserved g c = λ last told.
    c.loop-field.invariant last
    (optional_at c.args.fields.now c.loop-field.field-index _ _ (sheet c.put_optional.new.block c.put_optional.new.writer) last c.loop-field-test.true c.put_optional.ensures told)

pub returns : goal.returns
returns g c =
    let now = sheet c.loop-field.block c.loop-field.writer in
    c.loop-field.invariant now (optional_end c.args.fields.now c.loop-field.field-index now c.loop-field-test.false)
