use Rattle.std.proofs.Common.{◌≡◌, ◌++◌, map}
use Rattle.life_growing.specs.Settled.Placing.{placed_by}
use Rattle.life_growing.specs.Settled.Things.{early_thing, first_things}
use Rattle.life_growing.proofs.settling.outcome.add_early.Given as goal

abbrev pub invariant-loop-n : goal.invariant-loop-n
invariant-loop-n l =
    l.all.items ≡ l.initial.all.items ++ map (placed_by l.placing) (first_things (early_thing l.early) l.n)
