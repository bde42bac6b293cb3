use Rattle.census_format.proofs.Closings.{ended}
use Rattle.census_format.proofs.closing.push_closing.Goals as goal

pub returns : goal.returns
returns c = ended c.args.question c.args.c c.args.folder.now _ _ _ _ c.requires.found c.in_ok-push_objects.ensures c.in_ok-push_close.ensures
