-- Three rows of a set, one below another, count around the cells of the middle row.
use Rattle.std.proofs.Common.{◌≡◌, ℕ, ℤ, pos, neg_ℤ, cond, List, [], ◌∷◌, count_by, refl, ◌+ℤ◌, ◌-ℤ◌, ◌+◌, ◌<◌, ◌≤◌, sym, ap, ◌∙◌, arith}
use Rattle.std.specs.Int.{bit_at}
use Rattle.std.proofs.lemmas.Int.{ints}
use Rattle.std.proofs.lemmas.List.Sums.{sum_by-cons}
use Rattle.life_model.specs.Rule.{Rule}
use Rattle.life_model.specs.Cell.{Cell, around}
use Rattle.life_model.specs.Generation.{Generation, contains}
use Rattle.life_model.specs.Evolution.{count, next}
use Rattle.life_model.proofs.Evolution.{contains-next}
use Rattle.life_plane.specs.Bits.{next_state}
use Rattle.life_plane.specs.Flags.{as_bit}
use Rattle.life_slots.specs.Kernels.Rows.{state, IsRowAt}
use Rattle.life_slots.proofs.Windows.{bit_is, lives_bit}

abbrev states : Generation → List Cell → ℕ
states G [] = 0
states G (c ∷ cs) = state G c + states G cs

counted : (G : Generation) (cs : List Cell) → count_by (contains G) cs ≡ states G cs
counted G [] = refl
counted G (c ∷ cs) = sum_by-cons (λ (d : Cell). cond (contains G d) 1 0) c cs ∙ (λ i. bit_is (contains G c) i + counted G cs i)

regrouped : (a b c d e f g h a' b' c' d' e' f' g' h' : ℕ) → a ≡ a' → b ≡ b' → c ≡ c' → d ≡ d' → e ≡ e' → f ≡ f' → g ≡ g' → h ≡ h' →
    a' + b' + c' + d' + e' + f' + g' + h' ≡ a + (b + (c + (d + (e + (f + (g + (h + 0)))))))
regrouped a b c d e f g h a' b' c' d' e' f' g' h' p1 p2 p3 p4 p5 p6 p7 p8 = omega arith

-- a bit of a row is the cell there
pub look : (G : Generation) (left y : ℤ) (bits a : ℕ) → IsRowAt G left y bits → 63 ≤ a → a < 129 → (across down : ℤ) →
    across ≡ ((left -ℤ pos 64) +ℤ pos a) → down ≡ y → state G (across, down) ≡ bit_at bits a
look G left y bits a row from to across down across_is down_is = (λ i. state G (across_is i, down_is i)) ∙ sym (row.bit a from to)

pub three_rows : (G : Generation) (left y : ℤ) (up mid down x : ℕ) → x < 64 →
    IsRowAt G left (y -ℤ pos 1) up → IsRowAt G left y mid → IsRowAt G left (y +ℤ pos 1) down →
    bit_at up (x + 63) + bit_at up (x + 63 + 1) + bit_at up (x + 63 + 2)
    + bit_at mid (x + 63) + bit_at mid (x + 63 + 2)
    + bit_at down (x + 63) + bit_at down (x + 63 + 1) + bit_at down (x + 63 + 2)
    ≡ count G (left +ℤ pos x, y)
three_rows G left y up mid down x column above here below =
    let from : 63 ≤ x + 63 = omega arith in
    let from_one : 63 ≤ x + 63 + 1 = omega arith in
    let from_two : 63 ≤ x + 63 + 2 = omega arith in
    let to : x + 63 < 129 = omega arith in
    let to_one : x + 63 + 1 < 129 = omega arith in
    let to_two : x + 63 + 2 < 129 = omega arith in
    let X : ℤ = left +ℤ pos x in
    let west : (X +ℤ neg_ℤ (pos 1)) ≡ ((left -ℤ pos 64) +ℤ pos (x + 63)) = omega (arith, ints) in
    let middle : (X +ℤ pos 0) ≡ ((left -ℤ pos 64) +ℤ pos (x + 63 + 1)) = omega (arith, ints) in
    let east : (X +ℤ pos 1) ≡ ((left -ℤ pos 64) +ℤ pos (x + 63 + 2)) = omega (arith, ints) in
    let north : (y +ℤ neg_ℤ (pos 1)) ≡ (y -ℤ pos 1) = omega (arith, ints) in
    let same : (y +ℤ pos 0) ≡ y = omega (arith, ints) in
    regrouped _ _ _ _ _ _ _ _ _ _ _ _ _ _ _ _
    (look G left (y -ℤ pos 1) up (x + 63) above from to _ _ west north)
    (look G left (y -ℤ pos 1) up (x + 63 + 1) above from_one to_one _ _ middle north)
    (look G left (y -ℤ pos 1) up (x + 63 + 2) above from_two to_two _ _ east north)
    (look G left y mid (x + 63) here from to _ _ west same)
    (look G left y mid (x + 63 + 2) here from_two to_two _ _ east same)
    (look G left (y +ℤ pos 1) down (x + 63) below from to _ _ west refl)
    (look G left (y +ℤ pos 1) down (x + 63 + 1) below from_one to_one _ _ middle refl)
    (look G left (y +ℤ pos 1) down (x + 63 + 2) below from_two to_two _ _ east refl)
    ∙ sym (counted G (around (X, y)))

-- the next state, by a bit and a number that are the cell's state and count
pub next_by_bit : (R : Rule) (G : Generation) (left y : ℤ) (bits number x : ℕ) → x < 64 → IsRowAt G left y bits →
    number ≡ count G (left +ℤ pos x, y) → next_state R (bit_at bits (x + 64)) number ≡ state (next R G) (left +ℤ pos x, y)
next_by_bit R G left y bits number x column row number_is =
    let from : 63 ≤ x + 64 = omega arith in
    let to : x + 64 < 129 = omega arith in
    let here : (left +ℤ pos x) ≡ ((left -ℤ pos 64) +ℤ pos (x + 64)) = omega (arith, ints) in
    (λ i. next_state R (sym (look G left y bits (x + 64) row from to (left +ℤ pos x) y here refl) i) (number_is i))
    ∙ sym (ap as_bit (contains-next R G (left +ℤ pos x, y)) ∙ lives_bit R (contains G) (left +ℤ pos x, y))
