use Rattle.std.proofs.Common.{ℕ, ◌<◌, slice_index_or}
use Rattle.std.specs.List.{All}
use Rattle.life_model.specs.Rule.{Rule}
use Rattle.life_apart.specs.Sets.{IsCourseBy}
use Rattle.life_apart.specs.Spans.{ArePlacesApart, IsNext}
use Rattle.life_apart.specs.declared.span.Span.{Span}
use Rattle.life_apart.proofs.sweep.is_apart_from_later.Given as goal

-- the set is apart for ever from those of the spans so far that are near its own
abbrev pub invariant-loop-other : goal.invariant-loop-other
invariant-loop-other l =
    (R : Rule) → All (IsCourseBy R) l.orbits → (k : ℕ) (d : Span) → l.n < k → k < l.other →
    IsNext (slice_index_or l.spans l.n d) (slice_index_or l.spans k d) →
    ArePlacesApart R l.orbits (slice_index_or l.spans l.n d).place (slice_index_or l.spans k d).place
