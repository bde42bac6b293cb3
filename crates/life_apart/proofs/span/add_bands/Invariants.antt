use Rattle.std.proofs.Common.{ℕ, ◌<◌, ◌≤◌}
use Rattle.std.specs.List.{All, Contains}
use Rattle.life_apart.specs.Spans.{IsPlacedIn, span_at}
use Rattle.life_apart.specs.declared.span.Span.{Span}
use Rattle.life_apart.proofs.span.add_bands.Given as goal

-- all spans are still there, and those of the bands so far
abbrev pub invariant-loop-band : goal.invariant-loop-band
invariant-loop-band l = record {
  kept : (s : Span) → Contains l.fn.spans.items s → Contains l.spans.items s;
  placed : (n : ℕ) → l.place < n → All (IsPlacedIn n) l.fn.spans.items → All (IsPlacedIn n) l.spans.items;
  bands : (band : ℕ) → l.first ≤ band → band < l.band → Contains l.spans.items (span_at l.hull l.place band);
}
