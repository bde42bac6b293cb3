-- The gauges of a step.
use Rattle.std.proofs.Common.{◌≡◌, ℕ, ℤ, pos, neg_ℤ, ◌+◌, ◌*◌, arith}
use Rattle.std.proofs.Math.IntN.{*ℤ_comm, zero-*ℤ}
use Rattle.std.proofs.lemmas.Int.{ints}
use Rattle.life_growth.specs.Meeting.Sums.{Step}
use Rattle.life_growth.specs.Relations.Relations.{product}
use Rattle.life_things.specs.Lattice.Gauges.{across_gauge, along_gauge}
use Rattle.life_things.specs.Lattice.Short.{IsShort, IsWithin}
use Rattle.life_things.proofs.LatticeLemmas.Lowering.{neg-left}
use Rattle.life_things.proofs.LatticeLemmas.Within.{within_product}

pub across_level : (u : Step) → product (across_gauge u) u ≡ pos 0
across_level u =
    let none = zero-*ℤ u.1.1 in
    let turned = neg-left u.1.0 u.0 in
    let other = *ℤ_comm u.1.0 u.0 in
    omega (arith, ints)

pub along_level : (u : Step) → product (along_gauge u) u ≡ pos 0
along_level u =
    let none = zero-*ℤ u.1.0 in
    let turned = neg-left u.1.1 u.0 in
    let other = *ℤ_comm u.1.1 u.0 in
    omega (arith, ints)

turned_within : (n : ℕ) (x : ℤ) → IsWithin n x → IsWithin n (neg_ℤ x)
turned_within n x h = record { low = omega (arith, ints); high = omega (arith, ints) }

none_within : (n : ℕ) → IsWithin n (pos 0)
none_within n = record { low = omega (arith, ints); high = omega (arith, ints) }

pub across_short : (n : ℕ) (u : Step) → IsShort n u → IsShort n (across_gauge u)
across_short n u h = record { time = turned_within n u.1.0 h.across; across = h.time; along = none_within n }

pub along_short : (n : ℕ) (u : Step) → IsShort n u → IsShort n (along_gauge u)
along_short n u h = record { time = turned_within n u.1.1 h.along; across = none_within n; along = h.time }

pub across_within : (m n : ℕ) (u s : Step) → IsShort m u → IsShort n s → IsWithin (m * n + m * n) (product (across_gauge u) s)
across_within m n u s h k =
    let first = within_product m n (neg_ℤ u.1.0) s.0 (turned_within m u.1.0 h.across) k.time in
    let second = within_product m n u.0 s.1.0 h.time k.across in
    let none = zero-*ℤ s.1.1 in
    record { low = omega (arith, ints); high = omega (arith, ints) }

pub along_within : (m n : ℕ) (u s : Step) → IsShort m u → IsShort n s → IsWithin (m * n + m * n) (product (along_gauge u) s)
along_within m n u s h k =
    let first = within_product m n (neg_ℤ u.1.1) s.0 (turned_within m u.1.1 h.along) k.time in
    let second = within_product m n u.0 s.1.1 h.time k.along in
    let none = zero-*ℤ s.1.0 in
    record { low = omega (arith, ints); high = omega (arith, ints) }
