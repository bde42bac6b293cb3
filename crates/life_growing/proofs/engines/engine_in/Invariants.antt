use Rattle.std.proofs.Common.{◌≡◌, ◌++◌, length}
use Rattle.std.specs.List.{All}
use Rattle.std.specs.Vec.Iter.{into_iter_items, into_iter_len}
use Rattle.life_growth.specs.Engine.{IsEngine}
use Rattle.life_tracks.specs.Tracks.{way_of}
use Rattle.life_growing.proofs.engines.engine_in.Given as goal

-- no track before this one is an engine's
abbrev pub invariant-loop-track : goal.invariant-loop-track
invariant-loop-track g l = record {
  order : l.yielded ++ into_iter_items l.track-iterator ≡ into_iter_items l.initial.track-iterator;
  as_many : into_iter_len l.track-iterator ≡ length (into_iter_items l.track-iterator);
  none : All (λ p. IsEngine l.rule l.bound p.start (way_of p) → ⊥) l.yielded;
}
