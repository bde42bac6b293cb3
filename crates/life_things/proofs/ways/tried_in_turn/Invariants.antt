use Rattle.std.proofs.Common.{◌≡◌, ◌%◌, ◌-◌, ◌≤◌, [], ◌∷◌}
use Rattle.life_things.specs.Clear.{StaysClearBetween}
use Rattle.life_things.proofs.ways.tried_in_turn.Given as goal

-- it is clear for each number before this one, which is one of the turn
abbrev pub invariant-loop-count : goal.invariant-loop-count
invariant-loop-count l = record {
  turn : l.count % l.turn.every ≡ l.turn.first;
  late : l.span.from ≤ l.count;
  clear : StaysClearBetween l.one l.other l.start l.steps.0 (l.steps.1 ∷ []) l.span.from l.count;
}

abbrev pub decreases-loop-count : goal.decreases-loop-count
decreases-loop-count l = l.span.until - l.count
