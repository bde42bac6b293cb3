use Rattle.std.proofs.Common.{refl}
use Rattle.watched.specs.Telling.{sheet}
use Rattle.watched.proofs.Telling.{tells_gathered}
use Rattle.watched.proofs.putting.put.Goals as goal

pub returns-else-not-takes : goal.returns-else-not-takes
returns-else-not-takes g c =
    tells_gathered c.args.bytes.now (sheet c.args.block.now c.args.writer.now) (sheet c.takes.new.self c.args.writer.now)
    (c.takes.ensures.yes c.if-not-takes.false) refl refl
