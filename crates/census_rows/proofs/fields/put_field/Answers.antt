use Rattle.census_rows.proofs.Told.{field_told}
use Rattle.census_rows.proofs.fields.put_field.Goals as goal

pub returns : goal.returns
returns g c = field_told c.args.field.now _ _ _ c.put.ensures c.put-2.ensures
