use mir.Syntax.{w128}
use mir.Val.{of_z, to_z}
use Rattle.std.proofs.Common.{◌≡◌, ℕ, ℤ, pos, neg_ℤ, ◌≤ℤ◌, ◌*◌, ◌/◌, ◌≤◌, ap, sym, ◌∙◌, arith}
use Rattle.std.specs.Prelude.{unsigned_abs}
use Rattle.std.specs.Int.{◌∣◌}
use Rattle.std.proofs.Math.IntN.{◌*ℤ◌, ◌-ℤ◌}
use Rattle.std.proofs.Math.Nat.{mul-div_cancel'}
use Rattle.std.proofs.lemmas.Int.{ints, to_z-of_z}
use Rattle.life_things.specs.Lattice.Numbers.{number_limit}
use Rattle.life_things.proofs.LatticeLemmas.Rising.{quotient_least, times_back}
use Rattle.life_things.proofs.LatticeLemmas.Within.{abs_within}
use Rattle.life_things.proofs.lattice.numbers.divided.Goals as goal

-- how often it goes into the size
quotient : (x : ℤ) (a g : ℕ) → a ≡ unsigned_abs x → unsigned_abs x ≤ number_limit → 1 ≤ g → g ∣ unsigned_abs x →
    (q : ℕ) × (a / g ≡ q) × (g * q ≡ unsigned_abs x) × (q ≤ number_limit)
quotient x a g e few some divides =
    let whole : g * (unsigned_abs x / g) ≡ unsigned_abs x = mul-div_cancel' g divides in
    let least = quotient_least (unsigned_abs x) g some in
    (unsigned_abs x / g, ap (λ n. n / g) e, whole, omega arith)

forth : (x : ℤ) (g q : ℕ) → unsigned_abs x ≡ g * q → pos 0 ≤ℤ x → x ≡ (pos g *ℤ pos q)
forth x g q e up = omega (arith, ints)

back : (x : ℤ) (g q : ℕ) → unsigned_abs x ≡ g * q → x ≤ℤ pos 0 → x ≡ (pos g *ℤ neg_ℤ (pos q))
back x g q e down = let z : x ≡ neg_ℤ (pos (g * q)) = omega (arith, ints) in z ∙ sym (times_back g q)

read_back : (q : ℕ) → q ≤ number_limit → to_z w128 (of_z w128 (pos 0 -ℤ to_z w128 q)) ≡ neg_ℤ (pos q)
read_back q few = omega (arith, ints)

read : (q : ℕ) → q ≤ number_limit → to_z w128 q ≡ pos q
read q few = omega (arith, ints)

pub returns-then-number-lt0-clause-whole : goal.returns-then-number-lt0-clause-whole
returns-then-number-lt0-clause-whole c =
    let q = quotient c.args.number c.unsigned_abs.result c.args.divisor
    (c.unsigned_abs.ensures.value ∙ ap unsigned_abs (to_z-of_z w128 c.args.number c.ranges.number))
    (abs_within number_limit c.args.number c.requires.number) c.requires.some c.requires.divides in
    let test = c.if-number-lt0.true in
    back c.args.number c.args.divisor q.0 (sym q.2) (omega (arith, ints))
    ∙ ap (λ z. pos c.args.divisor *ℤ z)
    (sym (ap (λ n. to_z w128 (of_z w128 (pos 0 -ℤ to_z w128 n))) q.1 ∙ read_back q.0 q.3))

pub returns-clause-whole : goal.returns-clause-whole
returns-clause-whole c =
    let q = quotient c.args.number c.unsigned_abs.result c.args.divisor
    (c.unsigned_abs.ensures.value ∙ ap unsigned_abs (to_z-of_z w128 c.args.number c.ranges.number))
    (abs_within number_limit c.args.number c.requires.number) c.requires.some c.requires.divides in
    let test = c.if-number-lt0.false in
    forth c.args.number c.args.divisor q.0 (sym q.2) (omega (arith, ints))
    ∙ ap (λ z. pos c.args.divisor *ℤ z) (sym (ap (to_z w128) q.1 ∙ read q.0 q.3))
