use Rattle.std.proofs.Common.{◌≡◌, ℕ, ◌<◌, length, get_or}
use Rattle.life_model.specs.Generation.{empty}
use Rattle.life_tracks.specs.Frames.Frames.{IsBeside}
use Rattle.life_tracks.proofs.frames.parents.parents.Given as goal

abbrev pub invariant-loop-n : goal.invariant-loop-n
invariant-loop-n l = record {
  count : length l.places.items ≡ l.n;
  each : (j : ℕ) → j < l.n → IsBeside l.list l.classes (get_or l.later j empty) (get_or l.places.items j 0);
}
