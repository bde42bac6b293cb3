use Rattle.std.proofs.Common.{◌<◌, ℕ, List, get_or}
use Rattle.std.specs.List.{Contains}
use Rattle.life_model.specs.Cell.{origin}
use Rattle.life_model.specs.Generation.{Generation}
use Rattle.life_tracks.specs.Frames.Ties.{HasRootOf, IsFurther, JoinsTied}
use Rattle.life_tracks.proofs.frames.joining.join_set.Given as goal

-- each cell looked at has a bearer with the root of the first one's
abbrev pub invariant-loop-n : goal.invariant-loop-n
invariant-loop-n l = record {
  further : IsFurther l.fn.forest.items l.forest.items;
  rooted : (k : ℕ) → k < l.n → HasRootOf l.list l.forest.items (get_or l.all k origin) l.first;
  tied : (Ss : List Generation) → Contains Ss l.set → JoinsTied l.list Ss l.fn.forest.items → JoinsTied l.list Ss l.forest.items;
}
