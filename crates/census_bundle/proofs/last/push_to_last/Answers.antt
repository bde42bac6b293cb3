use Rattle.std.proofs.Common.{arith}
use Rattle.census_bundle.proofs.Growth.{set-with_entry}
use Rattle.census_bundle.proofs.last.push_to_last.Goals as goal

pub returns-clause-added : goal.returns-clause-added
returns-clause-added c = set-with_entry c.args.folders.now.items c.args.entry _ _ _ (omega arith) c.index_mut-folder.ensures.value c.in_ok-push.ensures.added
