use Rattle.std.proofs.Common.{◌≡◌, ◌++◌, map, take}
use Rattle.life_growing.specs.Settled.Placing.{placed_by}
use Rattle.life_growing.specs.Settled.Things.{early_things, part_things}
use Rattle.life_growing.proofs.settling.outcome.Settled.things.Given as goal

abbrev pub invariant-loop-part : goal.invariant-loop-part
invariant-loop-part l =
    l.all.items ≡ map (placed_by l.placing) (early_things l.self.early ++ part_things l.since (take l.part-index l.orbits))
