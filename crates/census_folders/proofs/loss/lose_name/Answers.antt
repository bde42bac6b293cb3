use Rattle.std.proofs.Common.{refl}
use Rattle.census_folders.specs.Paths.{path_of}
use Rattle.census_folders.proofs.loss.lose_name.Goals as goal

pub returns-in-Err-Stop : goal.returns-in-Err-Stop
returns-in-Err-Stop c = (c.in-Err-Stop.is-1, path_of c.args.folder.now c.args.name.now, refl)
