use Rattle.life_plane.proofs.Spans.{set_span_of_cells}
use Rattle.life_find.proofs.fingerprint.fingerprint_of.Goals as goal

pub returns : goal.returns
returns c = record {
  population = c.len.ensures;
  span = set_span_of_cells c.args.list.now c.as_slice.result.now c.span_of.result c.as_slice.ensures.cells c.span_of.ensures;
}
