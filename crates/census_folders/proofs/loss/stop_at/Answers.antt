use Rattle.std.proofs.Common.{refl}
use Rattle.census_folders.proofs.loss.stop_at.Goals as goal

pub returns-in-Err : goal.returns-in-Err
returns-in-Err c = (refl, c.args.path.now, refl)
