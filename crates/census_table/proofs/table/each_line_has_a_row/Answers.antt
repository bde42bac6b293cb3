use Rattle.census_table.proofs.Patterned.{patterns-size}
use Rattle.census_table.proofs.table.each_line_has_a_row.Goals as goal

pub returns : goal.returns
returns c = patterns-size
