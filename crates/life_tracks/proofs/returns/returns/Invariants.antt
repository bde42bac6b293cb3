use Rattle.life_tracks.specs.Frames.Frames.{classes_at, parents_at}
use Rattle.life_tracks.specs.Lines.{AreLines}
use Rattle.life_tracks.specs.Returns.{AreReturns}
use Rattle.life_tracks.proofs.returns.returns.Given as goal

abbrev pub invariant-loop-t : goal.invariant-loop-t
invariant-loop-t l = record {
  lines : AreLines (classes_at l.film) (parents_at l.film) l.t l.lines.items;
  found : AreReturns (classes_at l.film) (parents_at l.film) l.t l.found.items;
}
