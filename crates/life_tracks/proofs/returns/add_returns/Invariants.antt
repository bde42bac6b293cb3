use Rattle.life_tracks.specs.Returns.{IsWithReturnsOf}
use Rattle.life_tracks.proofs.returns.add_returns.Given as goal

abbrev pub invariant-loop-place : goal.invariant-loop-place
invariant-loop-place l = IsWithReturnsOf l.lines l.generation l.place l.fn.found.items l.found.items
