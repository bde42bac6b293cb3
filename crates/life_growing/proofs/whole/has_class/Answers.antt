use Rattle.std.proofs.Common.{subst, ◌≤◌, ◌≡◌, arith}
use Rattle.std.specs.List.{Contains}
use Rattle.life_growing.proofs.FindingClasses.{same_by_cells, there}
use Rattle.life_growing.proofs.whole.has_class.Goals as goal

pub returns-then-eq : goal.returns-then-eq
returns-then-eq c R G T is =
    let n = c.args.n in
    let film = c.args.film.now in
    let G' = c.class-item.result in
    let H = c.args.cells.now in
    let same : G' ≡ H = same_by_cells c.eq.result _ _ G' H c.eq.ensures c.if-eq.true c.as_slice.ensures.cells
    c.as_slice-in-loop-class.ensures.cells in
    let long = c.length.ensures.length R G T is in
    let count = is.count in
    let short : n ≤ T = omega (arith, c.if-n-length.false) in (
      short,
      subst (λ Ps. Contains Ps H) (c.classes-class-items.ensures.lent (omega arith))
          (there c.classes-class-items.result.now c.loop-class.class-index G' H c.loop-class-test.true c.class-item.is same),
    )
