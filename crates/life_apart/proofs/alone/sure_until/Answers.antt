use Rattle.std.proofs.Common.{◌≡◌, subst, ◌∙◌, arith}
use Rattle.life_objects.specs.Apart.{AreApartBefore}
use Rattle.life_apart.specs.Alone.{others_of}
use Rattle.life_apart.proofs.Loners.{apart_longer}
use Rattle.life_apart.proofs.alone.sure_until.Goals as goal

pub returns : goal.returns
returns g c R G L sub all alone known so_far =
    let late = c.if-n-sure.false in
    let now : c.args.sure ≡ c.args.n = omega arith in
    apart_longer G L sub R c.args.n c.room-3.result c.in_ok-cells-2.field-0 c.in_ok-cells.field-0
    (c.in_ok-cells-2.ensures.cells ∙ all) (c.in_ok-cells.ensures.cells ∙ alone)
    (subst (λ n. AreApartBefore R n L (others_of G L)) now so_far)
    (c.room-3.ensures.apart R)
