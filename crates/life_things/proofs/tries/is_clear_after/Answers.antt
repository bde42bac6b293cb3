use Rattle.std.proofs.Common.{◌+◌, ◌*◌, sym, subst, arith}
use Rattle.life_things.specs.Lattice.Numbers.{number_limit}
use Rattle.life_things.specs.Lattice.Short.{IsShort, four_start, three_start, way_limit}
use Rattle.life_things.proofs.LatticeLemmas.Within.{short_after, short_wider}
use Rattle.life_things.proofs.tries.is_clear_after.Goals as goal

pub three_ways-requires-clause-start : goal.three_ways-requires-clause-start
three_ways-requires-clause-start c =
    let few = c.requires.tries.few in
    subst (IsShort three_start) (sym c.after-start.ensures)
    (short_wider (four_start + number_limit * way_limit) three_start _ (omega arith)
    (short_after four_start number_limit way_limit c.args.count c.args.tries.start c.args.tries.step c.requires.tries.start
    (omega arith) c.requires.tries.step.short))
