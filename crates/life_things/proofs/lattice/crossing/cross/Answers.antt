use mir.Syntax.{w128}
use mir.Val.{of_z, to_z}
use Rattle.std.proofs.Common.{◌≡◌, ℤ, ◌∙◌, arith}
use Rattle.std.proofs.Math.IntN.{◌*ℤ◌, ◌-ℤ◌}
use Rattle.life_growth.proofs.MeetingLemmas.Reach.{step_is}
use Rattle.life_growth.specs.Relations.Relations.{cross}
use Rattle.life_things.specs.Lattice.Short.{IsWithin, cross_limit, way_limit}
use Rattle.life_things.proofs.LatticeLemmas.Within.{read_back}
use Rattle.life_things.proofs.lattice.crossing.cross.Goals as goal

abbrev read : ℤ → ℤ
read x = to_z w128 (of_z w128 x)

as_read : (a b d e r : ℤ) → IsWithin way_limit a → IsWithin way_limit b → IsWithin way_limit d → IsWithin way_limit e →
    IsWithin cross_limit r → r ≡ ((read a *ℤ read e) -ℤ (read b *ℤ read d)) → read r ≡ ((a *ℤ e) -ℤ (b *ℤ d))
as_read a b d e r of_a of_b of_d of_e few is =
    read_back cross_limit r (omega arith) few ∙ is
    ∙ (λ i.
    (read_back way_limit a (omega arith) of_a i *ℤ read_back way_limit e (omega arith) of_e i)
    -ℤ (read_back way_limit b (omega arith) of_b i *ℤ read_back way_limit d (omega arith) of_d i))

pub returns-clause-value : goal.returns-clause-value
returns-clause-value c =
    let u = c.requires.first in
    let v = c.requires.second in
    step_is _ (cross c.args.first c.args.second)
    (as_read c.args.first.1.0 c.args.first.1.1 c.args.second.1.0 c.args.second.1.1 c.determinant.result u.across u.along v.across v.along
    c.determinant.ensures.few c.determinant.ensures.value)
    (as_read c.args.first.1.1 c.args.first.0 c.args.second.1.1 c.args.second.0 c.determinant-2.result u.along u.time v.along v.time
    c.determinant-2.ensures.few c.determinant-2.ensures.value)
    (as_read c.args.first.0 c.args.first.1.0 c.args.second.0 c.args.second.1.0 c.determinant-3.result u.time u.across v.time v.across
    c.determinant-3.ensures.few c.determinant-3.ensures.value)
