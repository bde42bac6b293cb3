use Rattle.std.proofs.Common.{arith}
use Rattle.std.proofs.lemmas.Result.{err_from_is_err_and}
use Rattle.census_folders.proofs.Keeps.{next_folder, stops_reading}
use Rattle.census_folders.proofs.reading.read_folders.Goals as goal

pub loop-word-preserved : goal.loop-word-preserved
loop-word-preserved g c = next_folder _ _ _ _ _ _ _ _ (omega arith) c.loop-word.invariant c.in_ok-add_folder.ensures

pub returns-in_err-add_folder : goal.returns-in_err-add_folder
returns-in_err-add_folder g c =
    let p = err_from_is_err_and c.from_residual.result c.from_residual.ensures.1 in
    rw (p.1, p.2) (stops_reading _ _ _ _ _ _ _ _ (omega arith) c.loop-word.invariant c.in_err-add_folder.ensures)
