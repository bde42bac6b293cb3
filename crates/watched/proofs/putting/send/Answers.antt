use Rattle.std.proofs.Common.{[], ap, ◌∙◌, sym, append-nil}
use Rattle.watched.specs.Telling.{pending_of, sheet}
use Rattle.watched.proofs.Telling.{tells_sent}
use Rattle.watched.proofs.putting.send.Goals as goal

pub returns-clause-tells : goal.returns-clause-tells
returns-clause-tells g c =
    tells_sent [] c.as_slice.result.now (sheet c.args.block.now c.args.writer.now) (sheet c.clear.new.self c.put_all-sent.new.writer)
    c.put_all-sent.result (c.as_slice.ensures ∙ sym (append-nil (pending_of c.args.block.now))) c.clear.ensures
    c.put_all-sent.ensures.failed (λ failed. ap (λ w. w.stream.failed) (c.put_all-sent.ensures.uncalled failed) ∙ failed) (λ failed. ap (λ w. w.stream.written) (c.put_all-sent.ensures.uncalled failed)) c.put_all-sent.ensures.bytes
