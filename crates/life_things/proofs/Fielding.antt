-- Places of a field, by how many columns and rows they are from its corner.
use mir.Syntax.{w128}
use mir.Val.{of_z, to_z}
use Rattle.std.proofs.Common.{◌≡◌, ℕ, ℤ, pos, ◌+ℤ◌, ◌≤ℤ◌, ◌<◌, ◌^◌, List, [], ◌∷◌, sym, ap, subst, ◌∙◌, arith}
use Rattle.std.specs.Prelude.{◌↔◌}
use Rattle.std.proofs.Math.IntN.{◌*ℤ◌, *ℤ-zero, zero-*ℤ}
use Rattle.std.proofs.lemmas.Int.{ints}
use Rattle.life_model.specs.Cell.{Cell}
use Rattle.life_model.specs.Generation.{Generation}
use Rattle.life_growth.specs.Meeting.Sums.{Step, and_then, sum_of, times}
use Rattle.life_growth.specs.Relations.Relations.{product}
use Rattle.life_growth.proofs.RelationsLemmas.Products.{product-stay, product-then, product-times}
use Rattle.life_things.specs.Lattice.Short.{IsWithin}
use Rattle.life_things.proofs.LatticeLemmas.Within.{read_back}
use Rattle.life_things.proofs.LatticeLemmas.Steady.{ahead}
use Rattle.life_things.specs.Fields.{IsFieldOf, IsInField}
use Rattle.life_things.specs.Tries.{AreClear, ClearTowards}
use Rattle.life_things.specs.declared.field.Field.{Field}
use Rattle.life_things.specs.declared.tries.Tries.{Tries}
use Rattle.life_things.proofs.Leading.{whole}

-- as the machine has the ends
module _ (l r : ℤ) (w : ℕ) (left : IsWithin (2 ^ 34) l) (right : IsWithin (2 ^ 34) r)
    (told : (n : ℕ) → ((to_z w128 (of_z w128 l) +ℤ pos n) ≤ℤ to_z w128 (of_z w128 r)) ↔ (n < w)) where
  pub counted : (n : ℕ) → (l +ℤ pos n) ≤ℤ r → n < w
  counted n h =
      (told n).0
      (subst (λ x. (x +ℤ pos n) ≤ℤ to_z w128 (of_z w128 r)) (sym (read_back (2 ^ 34) l (omega arith) left))
      (subst (λ x. (l +ℤ pos n) ≤ℤ x) (sym (read_back (2 ^ 34) r (omega arith) right)) h))

  pub of_count : (n : ℕ) → n < w → (l +ℤ pos n) ≤ℤ r
  of_count n h =
      subst (λ x. (x +ℤ pos n) ≤ℤ r) (read_back (2 ^ 34) l (omega arith) left)
      (subst (λ x. (to_z w128 (of_z w128 l) +ℤ pos n) ≤ℤ x) (read_back (2 ^ 34) r (omega arith) right) ((told n).1 h))

pub in_field : (f : Field) (m n : ℕ) → (f.left +ℤ pos n) ≤ℤ f.right → (f.top +ℤ pos m) ≤ℤ f.bottom →
    IsInField f (f.left +ℤ pos n, f.top +ℤ pos m)
in_field f m n right below = record {
  left = omega (arith, ints);
  right = right;
  above = omega (arith, ints);
  below = below;
}

-- each place of the field is some number of columns and rows from its corner
pub each_place : (f : Field) (F : Cell → Type 0) →
    ((m n : ℕ) → (f.left +ℤ pos n) ≤ℤ f.right → (f.top +ℤ pos m) ≤ℤ f.bottom → F (f.left +ℤ pos n, f.top +ℤ pos m)) →
    (d : Cell) → IsInField f d → F d
each_place f F each d inside =
    let column = ahead f.left d.0 inside.left in
    let row = ahead f.top d.1 inside.above in
    subst F (λ i. (sym column.1 i, sym row.1 i))
    (each row.0 column.0 (subst (λ x. x ≤ℤ f.right) column.1 inside.right) (subst (λ x. x ≤ℤ f.bottom) row.1 inside.below))

made_level : (g u : Step) (n : ℕ) → product g u ≡ pos 0 → product g (times n u) ≡ pos 0
made_level g u n none = product-times g u n ∙ ap (λ x. pos n *ℤ x) none ∙ *ℤ-zero (pos n)

-- a product that is 0 for all steps but the last shows how often that is made
last_count : (g u v w : Step) → product g u ≡ pos 0 → product g v ≡ pos 0 → (often : List ℕ) →
    (k : ℕ) × (product g (sum_of (u ∷ v ∷ w ∷ []) often) ≡ (pos k *ℤ product g w))
last_count g u v w one two [] = (0, product-stay g ∙ sym (zero-*ℤ (product g w)))
last_count g u v w one two (a ∷ []) =
    let first = product-then g (times a u) (sum_of (v ∷ w ∷ []) []) in
    let here = made_level g u a one in
    let rest = product-stay g in
    let none = zero-*ℤ (product g w) in
    (0, omega (arith, ints))
last_count g u v w one two (a ∷ b ∷ []) =
    let first = product-then g (times a u) (sum_of (v ∷ w ∷ []) (b ∷ [])) in
    let second = product-then g (times b v) (sum_of (w ∷ []) []) in
    let here = made_level g u a one in
    let there = made_level g v b two in
    let rest = product-stay g in
    let none = zero-*ℤ (product g w) in
    (0, omega (arith, ints))
last_count g u v w one two (a ∷ b ∷ k ∷ more) =
    let first = product-then g (times a u) (sum_of (v ∷ w ∷ []) (b ∷ k ∷ more)) in
    let second = product-then g (times b v) (sum_of (w ∷ []) (k ∷ more)) in
    let third = product-then g (times k w) (sum_of [] more) in
    let here = made_level g u a one in
    let there = made_level g v b two in
    let last = product-times g w k in
    let rest = product-stay g in
    (k, omega (arith, ints))

-- where it is clear towards each place of the field, it is clear
pub by_all_places : (P Q : Generation) (f : Field) (t : Tries) (g : Step) → IsFieldOf f P Q →
    product g t.first ≡ pos 0 → product g t.second ≡ pos 0 →
    ((d : Cell) → IsInField f d → ClearTowards P Q t g d) → AreClear P Q t
by_all_places P Q f t g field one two each n late early d sum c e in_P in_Q near =
    let at = and_then t.start (times n t.step) in
    let v = sum_of (t.first ∷ t.second ∷ t.third ∷ []) sum.0 in
    let last = last_count g t.first t.second t.third one two sum.0 in
    let count = last.1 in
    let both = product-then g at v in
    let start = product-then g t.start (times n t.step) in
    let step = product-times g t.step n in
    let there = ap (product g) (whole at v d sum.1) in
    each d (field.holds d c e in_P in_Q near) n (pos last.0) late early (omega (arith, ints)) d sum c e in_P in_Q near
