-- Four twos and a one in four planes.
use Rattle.std.proofs.Common.{◌≡◌, ℕ, ◌+◌, ◌*◌, ◌<◌, ◌%◌, bit_and, bit_xor, min, arith}
use Rattle.std.specs.Int.{bit_at}
use Rattle.std.proofs.lemmas.Nat.Bits.{bit_at_and, bit_at_xor, bit_at-lt}

four_twos : (o a b c d e f i j p k : ℕ) → a < 2 → b < 2 → c < 2 → d < 2 → e < 2 → f < 2 → i < 2 → j < 2 → p < 2 → k < 2 →
    e + 2 * f ≡ a + b → i + 2 * j ≡ c + d → p + 2 * k ≡ e + i →
    o + 2 * p + 4 * (((f + j) % 2 + k) % 2) + 8 * min f j ≡ o + 2 * (a + b + c + d)
four_twos o a b c d e f i j p k as_ bs cs ds es fs is_ js ps ks outer inner twos = omega arith

-- the planes of four twos that are added in pairs
pub planes_at : (o a b c d e f i j p k x : ℕ) →
    bit_at e x + 2 * bit_at f x ≡ bit_at a x + bit_at b x →
    bit_at i x + 2 * bit_at j x ≡ bit_at c x + bit_at d x →
    bit_at p x + 2 * bit_at k x ≡ bit_at e x + bit_at i x →
    bit_at o x + 2 * bit_at p x + 4 * bit_at (bit_xor (bit_xor f j) k) x + 8 * bit_at (bit_and f j) x
    ≡ bit_at o x + 2 * (bit_at a x + bit_at b x + bit_at c x + bit_at d x)
planes_at o a b c d e f i j p k x outer inner twos =
    rw (bit_at_xor (bit_xor f j) k x, bit_at_xor f j x, bit_at_and f j x)
    (four_twos _ _ _ _ _ _ _ _ _ _ _
    (bit_at-lt a x) (bit_at-lt b x) (bit_at-lt c x) (bit_at-lt d x) (bit_at-lt e x) (bit_at-lt f x) (bit_at-lt i x) (bit_at-lt j x) (bit_at-lt p x) (bit_at-lt k x)
    outer inner twos)
