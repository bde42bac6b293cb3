-- A set with a cell that comes again, moved as a whole, lives for ever, and its later generations come again likewise.
use Rattle.std.proofs.Common.{◌≡◌, ◌≢◌, ℕ, ◌+◌, ◌-◌, ◌*◌, ◌≤◌, sym, ap, subst, ◌∙◌, arith}
use Rattle.std.proofs.lemmas.Int.{ints}
use Rattle.life_model.specs.Cell.{Cell, origin, plus, opposite}
use Rattle.life_model.specs.Rule.{Rule}
use Rattle.life_model.specs.Generation.{Generation, empty}
use Rattle.life_model.specs.Evolution.{generation}
use Rattle.life_model.specs.Symmetry.{translate_of, corner, normal}
use Rattle.life_model.specs.Recurrence.{RecursBy}
use Rattle.life_model.proofs.Cells.{pair}
use Rattle.life_model.proofs.Moves.{moved-moved, moved-origin, moved-empty, normal-moved, moved_from_normal}
use Rattle.life_model.proofs.Orbits.{multiple, far_enough}
use Rattle.life_model.proofs.Recurrences.{generation-add, generation-zero, shape, shape-follows}
use Rattle.life_model.proofs.Symmetries.{generation-moved}
use Rattle.life_objects.proofs.Times.{generation-empty}

-- a move is undone by the opposite one
pub moved_back : (A : Generation) (e : Cell) → translate_of (translate_of A e) (opposite e) ≡ A
moved_back A e =
    moved-moved A e (opposite e)
    ∙ ap (translate_of A) (let z : plus e (opposite e) ≡ origin = pair (omega (arith, ints)) (omega (arith, ints)) in z)
    ∙ moved-origin A

pub same_unmoved : (A B : Generation) (e : Cell) → translate_of A e ≡ translate_of B e → A ≡ B
same_unmoved A B e same = sym (moved_back A e) ∙ ap (λ H. translate_of H (opposite e)) same ∙ moved_back B e

moves_swap : (A : Generation) (d e : Cell) → translate_of (translate_of A d) e ≡ translate_of (translate_of A e) d
moves_swap A d e =
    moved-moved A d e
    ∙ ap (translate_of A) (let z : plus d e ≡ plus e d = pair (omega (arith, ints)) (omega (arith, ints)) in z)
    ∙ sym (moved-moved A e d)

module _ (R : Rule) where
  -- what is gone stays gone
  pub gone_stays : (P : Generation) (n m : ℕ) → generation R P n ≡ empty → n ≤ m → generation R P m ≡ empty
  gone_stays P n m gone h =
      let rest : ℕ = m - n in
      ap (generation R P) (let e : m ≡ n + rest = omega arith in e) ∙ sym (generation-add R P n rest)
      ∙ ap (λ H. generation R H rest) gone ∙ generation-empty R rest

  module _ (P : Generation) (p : ℕ) (d : Cell) (r : RecursBy R P p d) where
    -- it has its shape again after each multiple of p
    pub shape_again : (m : ℕ) → normal (generation R P (m * p)) ≡ normal P
    shape_again m =
        let first : shape R P (0 + p) ≡ shape R P 0 =
        ap (shape R P) (let e : 0 + p ≡ p = omega arith in e) ∙ ap normal r.again ∙ normal-moved P d
        ∙ ap normal (sym (generation-zero R P)) in
        ap (shape R P) (let e : m * p ≡ 0 + m * p = omega arith in e)
        ∙ multiple (shape R P) (shape-follows R P) m 0 p first ∙ ap normal (generation-zero R P)

    pub n-le : (n : ℕ) → n ≤ n * p
    n-le n = let later = r.later in let far : n ≤ 0 + n * p = far_enough 0 n p later in omega arith

    pub lives_for_ever : P ≢ empty → (n : ℕ) → generation R P n ≢ empty
    lives_for_ever some n gone =
        let still : generation R P (n * p) ≡ empty = gone_stays P n (n * p) gone (n-le n) in
        some (moved_from_normal empty P (ap normal (sym still) ∙ shape_again n)
        ∙ moved-empty (plus (opposite (corner empty)) (corner P)))

    pub RecursBy-later : (n : ℕ) → RecursBy R (generation R P n) p d
    RecursBy-later n = record {
      later = r.later;
      again = generation-add R P n p ∙ ap (generation R P) (let e : n + p ≡ p + n = omega arith in e)
          ∙ sym (generation-add R P p n) ∙ ap (λ H. generation R H n) r.again ∙ generation-moved R P d n;
    }

  -- a moved set recurs as the set itself does
  pub RecursBy-moved : (P : Generation) (n : ℕ) (d e : Cell) → RecursBy R P n d → RecursBy R (translate_of P e) n d
  RecursBy-moved P n d e r = record {
    later = r.later;
    again = generation-moved R P e n ∙ ap (λ H. translate_of H e) r.again ∙ moves_swap P d e;
  }

  -- a set recurs as the moved set does
  pub RecursBy-unmoved : (P : Generation) (n : ℕ) (d e : Cell) → RecursBy R (translate_of P e) n d → RecursBy R P n d
  RecursBy-unmoved P n d e r = record {
    later = r.later;
    again = same_unmoved (generation R P n) (translate_of P d) e (sym (generation-moved R P e n) ∙ r.again ∙ moves_swap P e d);
  }

  -- a set that recurs also recurs as its later generations do
  pub RecursBy-sooner : (P : Generation) (p : ℕ) (e : Cell) → RecursBy R P p e → (k n : ℕ) (d : Cell) →
      RecursBy R (generation R P k) n d → RecursBy R P n d
  RecursBy-sooner P p e r k n d s =
      let past : k ≤ k * p = n-le P p e r k in
      let rest : ℕ = k * p - k in
      let way = plus (opposite (corner P)) (corner (generation R P (k * p))) in
      let there : generation R (generation R P k) rest ≡ translate_of P way =
      generation-add R P k rest ∙ ap (generation R P) (let z : k + rest ≡ k * p = omega arith in z)
      ∙ moved_from_normal P (generation R P (k * p)) (sym (shape_again P p e r k)) in
      RecursBy-unmoved P n d way (subst (λ H. RecursBy R H n d) there (RecursBy-later (generation R P k) n d s rest))
