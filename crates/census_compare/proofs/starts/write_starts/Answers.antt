use Rattle.std.proofs.Common.{List, ℕ, ap, map, subst, ◌∙◌}
use Rattle.watched.specs.Streams.{PutsMoreBytes}
use Rattle.watched.specs.Telling.{sheet}
use Rattle.census_compare.specs.StartsRead.{start_read}
use Rattle.census_compare.proofs.Put.{all_put}
use Rattle.census_compare.proofs.starts.write_starts.Goals as goal

pub returns-clause-writes : goal.returns-clause-writes
returns-clause-writes g c =
    let put = c.in_ok-found.ensures in
    record {
      tolds = put.0;
      are = put.1 ∙ ap (map start_read) c.as_slice-2.ensures.value ∙ c.in_ok-starts.ensures;
      text = put.2;
      finds = put.3;
      writes = all_put put.2 (sheet c.new-block.result c.args.output.now) (sheet c.put_starts-put.new.block c.put_starts-put.new.writer)
          (sheet c.send.new.block c.send.new.writer) c.new-block.ensures put.4 c.send.ensures.tells c.send.ensures.empty c.in_ok-send.ensures.failed;
      tells = subst (λ (t : List ℕ). PutsMoreBytes t c.args.errors.now.stream c.tell.new.self.stream) (c.as_slice-3.ensures.value ∙ c.in_ok-note.ensures) c.tell.ensures;
    }
