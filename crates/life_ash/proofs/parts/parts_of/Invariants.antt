use Rattle.std.proofs.Common.{◌≡◌, ℕ, ◌<◌, length, slice_index_or}
use Rattle.std.specs.List.{All}
use Rattle.life_model.specs.Generation.{Generation}
use Rattle.life_orbit.specs.Course.{Course}
use Rattle.life_ash.specs.Parts.{IsFit, IsOnlyOne}
use Rattle.life_ash.proofs.parts.parts_of.Given as goal

-- one for each set so far, in order; and what is known has its rule and its bound still
abbrev pub invariant-loop-last : goal.invariant-loop-last
invariant-loop-last g l = record {
  fit : All (IsFit l.initial.known.rule l.initial.known.bound) l.parts.items;
  same : l.known ≡ l.initial.known;
  count : length l.parts.items ≡ l.last-index;
  only : (k : ℕ) (e : Course) (d : Generation) → k < length l.parts.items →
      IsOnlyOne l.initial.known.rule l.initial.known.bound l.ago (slice_index_or l.lasts k d) (slice_index_or l.parts.items k e);
}
