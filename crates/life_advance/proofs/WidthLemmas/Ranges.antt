-- Cells between two places are no further apart than these.
use Rattle.std.proofs.Common.{◌≡◌, ℕ, ℤ, pos, ◌+ℤ◌, ◌-ℤ◌, ◌≤ℤ◌, ◌+◌, ◌<◌, true, List, All, length, get_or, take, sym, ◌∙◌, arith}
use Rattle.std.proofs.Math.IntN.{nat_abs}
use Rattle.std.proofs.lemmas.Int.{ints}
use Rattle.std.proofs.lemmas.List.Elements.{All-more, All-weaker}
use Rattle.life_model.specs.Cell.{Cell}
use Rattle.life_model.specs.Generation.{contains, from_list}
use Rattle.life_model.proofs.Generations.{contains-from_list}
use Rattle.life_model.proofs.Members.{of_member}

-- a number is between the first and the last, or is one of them
pub record IsBetween (first last z : ℤ) : Type 0 where
  pub from : first ≤ℤ z
  pub to : z ≤ℤ last

pub apart : (first last a b : ℤ) (n : ℕ) → n ≡ nat_abs (last -ℤ first) → IsBetween first last a → IsBetween first last b → b ≤ℤ (a +ℤ pos n)
apart first last a b n is h k =
    let h_from = h.from in
    let k_to = k.to in
    let h_to = h.to in
    let k_from = k.from in
    omega (arith, ints)

pub between_all : (f : Cell → ℤ) (first last : ℤ) (cs : List Cell) (n : ℕ) → n ≡ nat_abs (last -ℤ first) → All (λ c. IsBetween first last (f c)) cs →
    (c d : Cell) → contains (from_list cs) c ≡ true → contains (from_list cs) d ≡ true → f d ≤ℤ (f c +ℤ pos n)
between_all f first last cs n is all c d live also =
    apart first last (f c) (f d) n is
    (of_member (λ q. IsBetween first last (f q)) cs all c (sym (contains-from_list cs c) ∙ live))
    (of_member (λ q. IsBetween first last (f q)) cs all d (sym (contains-from_list cs d) ∙ also))

-- one more cell, and places further out
pub between_more : (f : Cell → ℤ) (first last first_new last_new : ℤ) (cs : List Cell) (i : ℕ) (d : Cell) → i < length cs → first_new ≤ℤ first → last ≤ℤ last_new →
    first_new ≤ℤ f (get_or cs i d) → f (get_or cs i d) ≤ℤ last_new → All (λ c. IsBetween first last (f c)) (take i cs) → All (λ c. IsBetween first_new last_new (f c)) (take (i + 1) cs)
between_more f first last first_new last_new cs i d inside before behind here there all =
    All-more (λ (c : Cell). IsBetween first_new last_new (f c)) cs i d inside
    (All-weaker (λ (c : Cell). IsBetween first last (f c)) (λ (c : Cell). IsBetween first_new last_new (f c)) (λ c h. weaker (f c) h) (take i cs) all)
    (record { from = here; to = there })
  where
    weaker : (z : ℤ) → IsBetween first last z → IsBetween first_new last_new z
    weaker z h = let a = h.from in let b = h.to in record { from = omega (arith, ints); to = omega (arith, ints) }
