use Rattle.std.proofs.Common.{◌≡◌, ℕ, ◌<◌, length, slice_index_or}
use Rattle.std.specs.List.{All}
use Rattle.life_model.specs.Cell.{origin}
use Rattle.life_orbit.specs.Course.{Course}
use Rattle.life_apart.specs.Spans.{HasSpans, IsPlacedIn}
use Rattle.life_apart.proofs.span.spans_of.Given as goal

-- the spans of the sets so far
abbrev pub invariant-loop-n : goal.invariant-loop-n
invariant-loop-n l = record {
  placed : All (IsPlacedIn (length l.orbits)) l.spans.items;
  each : (i : ℕ) (e : Course) → i < l.n → (slice_index_or l.orbits i e).displacement ≡ origin →
      HasSpans l.spans.items (slice_index_or l.orbits i e) i;
}
