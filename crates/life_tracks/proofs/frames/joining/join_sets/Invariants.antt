use Rattle.std.proofs.Common.{◌<◌, ℕ, List, get_or}
use Rattle.std.specs.List.{Contains}
use Rattle.life_model.specs.Generation.{Generation, empty}
use Rattle.life_tracks.specs.Frames.Ties.{IsFurther, IsJoined, JoinsTied}
use Rattle.life_tracks.proofs.frames.joining.join_sets.Given as goal

-- each set looked at is joined
abbrev pub invariant-loop-n : goal.invariant-loop-n
invariant-loop-n l = record {
  further : IsFurther l.fn.forest.items l.forest.items;
  joined : (k : ℕ) → k < l.n → IsJoined l.list l.forest.items (get_or l.sets k empty);
  tied : (Ss : List Generation) → ((S : Generation) → Contains l.sets S → Contains Ss S) →
      JoinsTied l.list Ss l.fn.forest.items → JoinsTied l.list Ss l.forest.items;
}
