use Rattle.std.proofs.Common.{[], ◌∷◌, ◌<◌, length, subst, arith}
use Rattle.std.specs.List.{All}
use Rattle.life_orbit.specs.Hulls.{HoldsAllCells}
use Rattle.life_things.proofs.thing.Thing.new.Goals as goal

pub invariant_of-result : goal.invariant_of-result
invariant_of-result c = (
  subst (All (HoldsAllCells c.hull_of-hull.result)) c.from_ref.ensures.value c.hull_of-hull.ensures 0 c.args.cells
      (let z : 0 < length (c.args.cells ∷ []) = omega arith in z),
  (c.requires.ways, c.requires.time),
)
