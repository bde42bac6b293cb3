use Rattle.std.proofs.Common.{[], ◌++◌, ap, ◌∙◌, sym}
use Rattle.watched.specs.Telling.{sheet}
use Rattle.watched.proofs.Telling.{tells_more, tells_sent}
use Rattle.watched.proofs.putting.put_behind.Goals as goal

pub returns : goal.returns
returns g c =
    let middle = sheet c.send.new.block c.send.new.writer in
    let last = sheet c.send.new.block c.put_all.new.writer in
    tells_more [] c.args.bytes.now (sheet c.args.block.now c.args.writer.now) middle last c.send.ensures.tells
    (tells_sent c.args.bytes.now c.args.bytes.now middle last c.put_all.result (ap (λ p. p ++ c.args.bytes.now) (sym c.send.ensures.empty)) c.send.ensures.empty
    c.put_all.ensures.failed (λ failed. ap (λ w. w.stream.failed) (c.put_all.ensures.uncalled failed) ∙ failed) (λ failed. ap (λ w. w.stream.written) (c.put_all.ensures.uncalled failed)) c.put_all.ensures.bytes)
