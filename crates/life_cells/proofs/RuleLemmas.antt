-- Lemmas on the sets of digits.
use Rattle.std.proofs.Common.{◌≡◌, ℕ, zero, suc, ◌-◌, ◌*◌, ◌^◌, ◌<◌, ◌≤◌, ◌%◌, Bool, true, false, eqb, List, [], ◌∷◌, length, get_or, take, bit_or, ap, ◌∙◌, arith}
use Rattle.std.proofs.Math.Pow.{pow-lt}
use Rattle.std.proofs.lemmas.List.{get_or-take}
use Rattle.std.proofs.lemmas.Bool.{or_parts}
use Rattle.std.proofs.lemmas.Nat.{or_lt, or_mod}
use Rattle.std.proofs.lemmas.Bool.Decides.{nat_tests}
use Rattle.std.proofs.lemmas.List.Sums.{AllPass-from_list_all, list_all-from_AllPass, prefix_len_passes}
use Rattle.std.proofs.lemmas.List.Folds.{length-prefix_len}
use Rattle.std.specs.List.{list_all, prefix_len}
use Rattle.texts.specs.Bytes.{is_in}
use Rattle.life_cells.specs.Rules.{is_count}

pub count_range : (c : ℕ) → is_count c ≡ true → (48 ≤ c) × (c ≤ 56)
count_range c h = grind (arith, nat_tests)

-- each byte of a text of digits is a digit
pub digit_at : (digits : List ℕ) (i : ℕ) → list_all is_count digits ≡ true → i < length digits → (48 ≤ get_or digits i 0) × (get_or digits i 0 ≤ 56)
digit_at digits i h lt = count_range _ (AllPass-from_list_all is_count digits h i 0 lt)

-- a shift that keeps its bit
pub shifted : (c : ℕ) → c ≤ 56 → (1 * 2 ^ (c - 48) % 65536 ≡ 2 ^ (c - 48)) × (2 ^ (c - 48) < 512)
shifted c h =
    let few : c - 48 < 9 = omega arith in
    let below : 2 ^ (c - 48) < 2 ^ 9 = pow-lt few in
    (omega arith, omega arith)

pub with_bit : (set c : ℕ) → set < 512 → c ≤ 56 → bit_or set (1 * 2 ^ (c - 48) % 65536) < 512
with_bit set c below h = let s = shifted c h in rw s.0 (or_lt 9 set (2 ^ (c - 48)) below s.1)

even_power : (k : ℕ) → 2 ^ suc k % 2 ≡ 0
even_power k = omega arith

pub even_more : (set c : ℕ) → set % 2 ≡ 0 → 48 < c → c ≤ 56 → bit_or set (1 * 2 ^ (c - 48) % 65536) % 2 ≡ 0
even_more set c even lo hi =
    let s = shifted c hi in
    let k : c - 48 ≡ suc (c - 49) = omega arith in
    let p : 2 ^ (c - 48) % 2 ≡ 0 = rw k (even_power (c - 49)) in
    rw s.0 (or_mod set (2 ^ (c - 48)) 1 ∙ ap (λ n. bit_or n (2 ^ (c - 48) % 2)) even ∙ p)

-- a byte that a text lacks is in none of its places
absent : (xs : List ℕ) (c : ℕ) (i : ℕ) → is_in xs c ≡ false → i < length xs → eqb (get_or xs i 0) c ≡ false
absent [] c i h lt = absurd (omega arith)
absent (x ∷ xs) c zero h lt = (or_parts (eqb x c) (is_in xs c) h).0
absent (x ∷ xs) c (suc i) h lt = absent xs c i (or_parts (eqb x c) (is_in xs c) h).1 (omega arith)

pub not_zero : (digits : List ℕ) (i : ℕ) → is_in digits 48 ≡ false → i < length digits → 48 ≤ get_or digits i 0 → 48 < get_or digits i 0
not_zero digits i h lt lo = let ne = absent digits 48 i h lt in grind (arith, nat_tests)

-- each byte of the front that passes a test passes it
pub front_passes : (p : ℕ → Bool) (xs : List ℕ) → list_all p (take (prefix_len p xs) xs) ≡ true
front_passes p xs = list_all-from_AllPass p (take (prefix_len p xs) xs) (λ k d lt.
    let n : length (take (prefix_len p xs) xs) ≡ prefix_len p xs = length-prefix_len p xs in
    let below : k < prefix_len p xs = omega arith in
    ap p (get_or-take (prefix_len p xs) xs k d below) ∙ prefix_len_passes p xs k d below)
