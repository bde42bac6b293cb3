use Rattle.std.proofs.Common.{◌≡◌, ◌++◌, map}
use Rattle.life_growing.specs.Settled.Placing.{placed_by}
use Rattle.life_growing.specs.Settled.Things.{first_things, phase_thing}
use Rattle.life_growing.proofs.settling.outcome.add_phases.Given as goal

abbrev pub invariant-loop-m : goal.invariant-loop-m
invariant-loop-m l =
    l.all.items ≡ l.initial.all.items ++ map (placed_by l.placing) (first_things (phase_thing l.since l.part) l.m)
