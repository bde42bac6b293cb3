use mir.Syntax.{w128}
use mir.Val.{of_z, to_z}
use Rattle.std.proofs.Common.{◌≡◌, ℕ, ℤ, pos, neg_ℤ, nat_abs, ◌-ℤ◌, ◌*◌, ap, ◌∙◌, arith}
use Rattle.std.proofs.Math.IntN.{◌*ℤ◌}
use Rattle.std.proofs.lemmas.Int.{ints}
use Rattle.life_things.proofs.LatticeLemmas.Rising.{times_back}
use Rattle.life_things.proofs.lattice.span.span_to.Goals as goal

pub returns-then-gain-gt0-clause-within : goal.returns-then-gain-gt0-clause-within
returns-then-gain-gt0-clause-within c n low high =
    let up : c.args.gain ≡ pos (nat_abs (to_z w128 (of_z w128 c.args.gain))) = omega (arith, ints) in
    let same : (pos n *ℤ c.args.gain) ≡ pos (n * nat_abs (to_z w128 (of_z w128 c.args.gain))) = ap (λ x. pos n *ℤ x) up in
    c.rising.ensures.within n (omega (arith, ints)) (omega (arith, ints))

pub returns-then-gain-gt0-clause-few : goal.returns-then-gain-gt0-clause-few
returns-then-gain-gt0-clause-few c m k start low high =
    c.rising.ensures.few m k (record { low = omega (arith, ints); high = omega (arith, ints) })
    (record { low = omega (arith, ints); high = omega (arith, ints) })

-- how much it falls each time
abbrev fall : (z : ℤ) → ℕ
fall z = nat_abs (to_z w128 (of_z w128 (pos 0 -ℤ to_z w128 (of_z w128 z))))

pub returns-clause-within : goal.returns-clause-within
returns-clause-within c n low high =
    let down : c.args.gain ≡ neg_ℤ (pos (fall c.args.gain)) = omega (arith, ints) in
    let same : (pos n *ℤ c.args.gain) ≡ neg_ℤ (pos (n * fall c.args.gain)) =
    ap (λ x. pos n *ℤ x) down ∙ times_back n (fall c.args.gain) in
    c.rising-2.ensures.within n (omega (arith, ints)) (omega (arith, ints))

pub returns-clause-few : goal.returns-clause-few
returns-clause-few c m k start low high =
    c.rising-2.ensures.few m k (record { low = omega (arith, ints); high = omega (arith, ints) })
    (record { low = omega (arith, ints); high = omega (arith, ints) })
