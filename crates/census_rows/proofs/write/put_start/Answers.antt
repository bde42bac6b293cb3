use Rattle.std.proofs.Common.{[], ◌∷◌, decimal}
use Rattle.watched.proofs.Telling.{tells_more}
use Rattle.census_rows.specs.Lines.{fields_text}
use Rattle.census_rows.proofs.Told.{field_last, field_then}
use Rattle.census_rows.proofs.write.put_start.Goals as goal

pub returns : goal.returns
returns g c =
    let n = decimal c.args.first in
    let k = decimal c.args.second in
    tells_more c.args.kind.now (fields_text (n ∷ k ∷ [])) _ _ _ c.put.ensures
    (field_then n (k ∷ []) _ _ _ c.put_number.ensures (field_last k _ _ c.put_number-2.ensures))
