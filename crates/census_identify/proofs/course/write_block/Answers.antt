use Rattle.std.proofs.Common.{[], subst}
use Rattle.std.proofs.KnownBytes.{Appends-nil}
use Rattle.std.specs.Io.KnownBytes.{Appends}
use Rattle.census_facts.specs.Forms.{separator}
use Rattle.watched.proofs.Written.{writes_rest}
use Rattle.census_identify.proofs.course.write_block.Goals as goal
use Rattle.census_identify.proofs.course.write_block.Goals.{then-has_block+in_ok-put_all, else-has_block}

pub returns : goal.returns
returns g c =
    elim c.if-has_block.branch [
      | then-has_block+in_ok-put_all w ↦
          rw w.if-has_block.true
          (writes_rest c.put_all-2.result (separator c.args.form) c.args.block.now c.args.output.now.stream c.if-has_block.output.stream c.put_all-2.new.writer.stream
          (rw w.output-is (subst (λ bytes. Appends c.args.output.now.stream.written w.put_all.new.writer.stream.written bytes) w.separator.ensures w.in_ok-put_all.ensures.bytes)) c.put_all-2.ensures.failed c.put_all-2.ensures.bytes)
      | else-has_block w ↦
          rw w.if-has_block.false
          (writes_rest c.put_all-2.result [] c.args.block.now c.args.output.now.stream c.if-has_block.output.stream c.put_all-2.new.writer.stream
          (rw w.output-is (Appends-nil _)) c.put_all-2.ensures.failed c.put_all-2.ensures.bytes)
    ]
