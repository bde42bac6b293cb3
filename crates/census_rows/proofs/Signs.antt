-- Signed numbers as numbers without a sign.
use Rattle.std.proofs.Common.{◌≡◌, ℤ, pos, negsuc, ◌+◌, ◌*◌, ◌/◌, ◌%◌, refl, arith}
use Rattle.census_rows.specs.Values.{folded, unfolded}

-- a number is unfolded as it was folded
pub read-folded : (z : ℤ) → unfolded (folded z) ≡ z
read-folded (pos n) =
    let even : n * 2 % 2 ≡ 0 = omega arith in
    let half : n * 2 / 2 ≡ n = omega arith in
    rw (even, half) refl
read-folded (negsuc n) =
    let odd : (n * 2 + 1) % 2 ≡ 1 = omega arith in
    let half : (n * 2 + 1) / 2 ≡ n = omega arith in
    rw (odd, half) refl
