use Rattle.census_rows.proofs.Told.{field_told}
use Rattle.census_rows.proofs.fields.put_number.Goals as goal

pub returns : goal.returns
returns g c = field_told (g.I.Integer.text c.args.number) _ _ _ c.put.ensures c.put_number.ensures
