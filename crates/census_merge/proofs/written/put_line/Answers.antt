use Rattle.std.proofs.Common.{[], ◌∷◌}
use Rattle.watched.proofs.Telling.{tells_more}
use Rattle.census_rows.specs.Lines.{row_text}
use Rattle.census_merge.proofs.written.put_line.Goals as goal

pub returns : goal.returns
returns g c = tells_more (row_text c.args.row.now) (10 ∷ []) _ _ _ c.put_row.ensures c.put.ensures
