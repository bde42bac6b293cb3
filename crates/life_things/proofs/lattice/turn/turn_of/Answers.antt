use mir.Syntax.{w128}
use mir.Val.{of_z, to_z}
use Rattle.std.proofs.Common.{◌≡◌, ℕ, ℤ, pos, neg_ℤ, ◌+ℤ◌, ◌-ℤ◌, ◌*◌, ◌%◌, ◌<◌, ◌≤◌, sym, ap, subst, ◌∙◌, mod-lt, arith}
use Rattle.std.proofs.Math.IntN.{◌*ℤ◌}
use Rattle.std.proofs.Math.Nat.{mul-le-mul}
use Rattle.std.specs.Int.{◌∣◌}
use Rattle.std.specs.Prelude.{unsigned_abs}
use Rattle.std.proofs.lemmas.Int.{ints, to_z-of_z}
use Rattle.life_orbit.proofs.Divisors.{some_divisor}
use Rattle.life_things.specs.Lattice.Alike.{AreAlike}
use Rattle.life_things.specs.Lattice.Numbers.{number_limit}
use Rattle.life_things.specs.Lattice.Short.{IsWithin, two_start}
use Rattle.life_things.proofs.LatticeLemmas.Turning.{count_alike, divided_rest, first_less, some_turn, turn_is}
use Rattle.life_things.proofs.LatticeLemmas.Rising.{quotient_least}
use Rattle.life_things.proofs.LatticeLemmas.Within.{abs_within}
use Rattle.life_things.proofs.lattice.turn.turn_of.Goals as goal
use Rattle.life_things.proofs.lattice.turn.turn_of.Goals.{After-residue}

turned_is : (x : ℤ) → IsWithin two_start x → to_z w128 (of_z w128 (pos 0 -ℤ to_z w128 (of_z w128 x))) ≡ neg_ℤ x
turned_is x h = omega (arith, ints)

turned_within : (x : ℤ) → IsWithin two_start x →
    IsWithin two_start (to_z w128 (of_z w128 (pos 0 -ℤ to_z w128 (of_z w128 x))))
turned_within x h = record { low = omega (arith, ints); high = omega (arith, ints) }

pub residue-requires-clause-number : goal.residue-requires-clause-number
residue-requires-clause-number c = turned_within c.args.start c.requires.start

size : (c : After-residue) → c.unsigned_abs-modulus.result ≡ unsigned_abs c.args.last
size c = c.unsigned_abs-modulus.ensures.value ∙ ap unsigned_abs (to_z-of_z w128 c.args.last c.ranges.last)

some_size : (x : ℤ) → (x ≡ pos 0 → ⊥) → 1 ≤ unsigned_abs x
some_size x some = omega (arith, ints)

some_modulus : (c : After-residue) → 1 ≤ c.unsigned_abs-modulus.result
some_modulus c = subst (λ n. 1 ≤ n) (sym (size c)) (some_size c.args.last c.requires.later)

few_modulus : (c : After-residue) → c.unsigned_abs-modulus.result ≤ number_limit
few_modulus c = subst (λ n. n ≤ number_limit) (sym (size c)) (abs_within number_limit c.args.last c.requires.last)

divides : (c : After-residue) → c.common_divisor-common.result ∣ c.unsigned_abs-modulus.result
divides c = c.common_divisor-common.ensures.1

some : (c : After-residue) → 1 ≤ c.common_divisor-common.result
some c = some_divisor c.common_divisor-common.result c.unsigned_abs-modulus.result (divides c) (some_modulus c)

alike : (c : After-residue) (n : ℕ) (m : ℤ) →
    (c.args.start +ℤ ((pos n *ℤ c.args.step) +ℤ (m *ℤ c.args.last))) ≡ pos 0 →
    AreAlike c.unsigned_abs-modulus.result (pos (n * c.common_divisor-common.result))
    (pos ((c.residue.result * c.likely_factor-factor.result) % c.unsigned_abs-modulus.result))
alike c =
    count_alike c.args.start c.args.step c.args.last c.unsigned_abs-modulus.result c.common_divisor-common.result
    c.residue-pace.result c.likely_factor-factor.result c.residue.result (size c)
    (subst (λ x. AreAlike c.unsigned_abs-modulus.result x (pos c.residue-pace.result))
    (to_z-of_z w128 c.args.step c.ranges.step) c.residue-pace.ensures.same) c.if-pace-factor.false
    (subst (λ x. AreAlike c.unsigned_abs-modulus.result x (pos c.residue.result)) (turned_is c.args.start c.requires.start)
    c.residue.ensures.same)

small_product : (a b m : ℕ) → a < m → b < m → m ≤ number_limit → a * b ≤ number_limit * number_limit
small_product a b m less fewer few =
    mul-le-mul (let z : a ≤ number_limit = omega arith in z) (let z : b ≤ number_limit = omega arith in z)

pub overflow_mul-rest : goal.overflow_mul-rest
overflow_mul-rest c =
    let few = small_product c.residue.result c.likely_factor-factor.result c.unsigned_abs-modulus.result c.residue.ensures.less
    c.likely_factor-factor.ensures (few_modulus c) in
    omega arith

pub nonzero_rem-rest-2 : goal.nonzero_rem-rest-2
nonzero_rem-rest-2 c = some c

pub nonzero_div-result : goal.nonzero_div-result
nonzero_div-result c = some (goal.at.nonzero_div-result c).After-residue

pub nonzero_div-result-2 : goal.nonzero_div-result-2
nonzero_div-result-2 c = some (goal.at.nonzero_div-result-2 c).After-residue

pub returns-then-rest-common-ne0-clause-none : goal.returns-then-rest-common-ne0-clause-none
returns-then-rest-common-ne0-clause-none c n m e =
    let d : After-residue = (goal.at.returns-then-rest-common-ne0-clause-none c).After-residue in
    c.if-rest-common-ne0.true
    (divided_rest c.unsigned_abs-modulus.result c.common_divisor-common.result
    ((c.residue.result * c.likely_factor-factor.result) % c.unsigned_abs-modulus.result) (some d) (divides d) n (alike d n m e))

less : (c : After-residue) →
    (c.residue.result * c.likely_factor-factor.result) % c.unsigned_abs-modulus.result < c.unsigned_abs-modulus.result
less c = mod-lt (c.residue.result * c.likely_factor-factor.result) (some_modulus c)

pub returns-clause-some : goal.returns-clause-some
returns-clause-some c n m e =
    let d : After-residue = (goal.at.returns-clause-some c).After-residue in
    turn_is c.unsigned_abs-modulus.result c.common_divisor-common.result
    ((c.residue.result * c.likely_factor-factor.result) % c.unsigned_abs-modulus.result) (some d) (divides d) n (less d)
    c.if-rest-common-ne0.false (alike d n m e)

pub returns-clause-every : goal.returns-clause-every
returns-clause-every c =
    let d : After-residue = (goal.at.returns-clause-every c).After-residue in
    let least = quotient_least c.unsigned_abs-modulus.result c.common_divisor-common.result (some d) in
    let few = few_modulus d in (
      some_turn c.unsigned_abs-modulus.result c.common_divisor-common.result 0 (some d) (divides d) (some_modulus d),
      omega arith,
    )

pub returns-clause-first : goal.returns-clause-first
returns-clause-first c =
    let d : After-residue = (goal.at.returns-clause-first c).After-residue in
    first_less c.unsigned_abs-modulus.result c.common_divisor-common.result
    ((c.residue.result * c.likely_factor-factor.result) % c.unsigned_abs-modulus.result) (some d) (divides d) (less d)
