use Rattle.life_plane.proofs.PlaneSums.{planes_at}
use Rattle.life_plane.proofs.logic.Count.planes.Goals as goal

pub returns : goal.returns
returns c = λ j.
    planes_at c.args.self.ones c.args.self.above c.args.self.below c.args.self.beside c.args.self.carried
    c.half_adder-outer.result.ones c.half_adder-outer.result.twos c.half_adder-inner.result.ones c.half_adder-inner.result.twos
    c.half_adder-twos.result.ones c.half_adder-twos.result.twos j
    (c.half_adder-outer.ensures j) (c.half_adder-inner.ensures j) (c.half_adder-twos.ensures j)
