use Rattle.std.proofs.Common.{subst, arith}
use Rattle.std.specs.List.{All}
use Rattle.life_things.specs.Ways.{IsFit, way_of, ways_of}
use Rattle.life_things.specs.declared.way.Ways.{Ways}
use Rattle.life_things.proofs.steps.steps_forth.Goals as goal

pub step_of-requires : goal.step_of-requires
step_of-requires c =
    subst (λ (w : Ways). All IsFit (ways_of w)) c.in-Once.is c.requires 0 (way_of c.in-Once.way) (omega arith)

pub step_of-requires-in-Twice : goal.step_of-requires-in-Twice
step_of-requires-in-Twice c =
    subst (λ (w : Ways). All IsFit (ways_of w)) c.in-Twice.is c.requires 0 (way_of c.in-Twice.way) (omega arith)

pub step_of-requires-in-Twice-2 : goal.step_of-requires-in-Twice-2
step_of-requires-in-Twice-2 c =
    subst (λ (w : Ways). All IsFit (ways_of w)) c.in-Twice.is c.requires 1 (way_of c.in-Twice.other) (omega arith)
