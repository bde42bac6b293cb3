-- How many of the cells around a place pass a test: as a sum of eight numbers, each 1 or 0.
use Rattle.std.proofs.Common.{◌≡◌, ℕ, ◌+◌, ◌≤◌, ℤ, pos, neg_ℤ, Bool, true, false, cond, inl, inr, refl, sym, ap, true≢false, arith}
use Rattle.std.specs.List.{list_any}
use Rattle.std.proofs.lemmas.Bool.{cases_Bool, both_ways}
use Rattle.life_model.specs.Cell.{Cell, IsNear, around, plus}
use Rattle.life_model.specs.Evolution.{count_at}
use Rattle.life_model.proofs.Tests.{count_by-none}
use Rattle.life_objects.proofs.Ring.{each_near}

abbrev pub one : Bool → ℕ
one b = cond b 1 0

pub closing : (p q r : Bool) → (p ≡ true → q ≡ true → r ≡ true) → one p + one q ≤ 1 + one r
closing false false r h = omega arith
closing false true r h = omega arith
closing true false r h = omega arith
closing true true false h = absurd (true≢false (sym (h refl refl)))
closing true true true h = omega arith

pub below : (p q : Bool) → (p ≡ true → q ≡ true) → one p ≤ one q
below false q h = omega arith
below true false h = absurd (true≢false (sym (h refl)))
below true true h = omega arith

pub at_most_one : (b : Bool) → one b ≤ 1
at_most_one false = omega arith
at_most_one true = omega arith

pub is_true : (b : Bool) → 1 ≤ one b → b ≡ true
is_true false h = absurd (omega (arith, h))
is_true true h = refl

pub is_false : (b : Bool) → one b ≤ 0 → b ≡ false
is_false false h = refl
is_false true h = absurd (omega (arith, h))

pub from_true : (b : Bool) → b ≡ true → one b ≡ 1
from_true b h = ap one h

pub from_false : (b : Bool) → b ≡ false → one b ≡ 0
from_false b h = ap one h

-- A cell near a place that passes a test is one of the eight around it.
pub some_near : (p : Cell → Bool) (x : Cell) → p x ≡ false → (y : Cell) → IsNear y x → p y ≡ true → list_any p (around x) ≡ true
some_near p x dead y near live =
    elim (cases_Bool (list_any p (around x))) [
      | inl some ↦ some
      | inr none ↦
          let less : ℤ = neg_ℤ (pos 1) in
          let zero : count_at p x ≡ 0 = count_by-none p (around x) none in
          let one_of : (z : Cell) → (one (p z) ≡ 1 → ⊥) → p z ≡ true → ⊥ = λ z no h. no (from_true (p z) h) in
          absurd (each_near x (λ z. p z ≡ true → ⊥) (λ h. both_ways (p x) dead h) (
            one_of (plus x (less, less)) (λ k. omega arith),
            (
              one_of (plus x (pos 0, less)) (λ k. omega arith),
              (
                one_of (plus x (pos 1, less)) (λ k. omega arith),
                (
                  one_of (plus x (less, pos 0)) (λ k. omega arith),
                  (
                    one_of (plus x (pos 1, pos 0)) (λ k. omega arith),
                    (
                      one_of (plus x (less, pos 1)) (λ k. omega arith),
                      (
                        one_of (plus x (pos 0, pos 1)) (λ k. omega arith),
                        (one_of (plus x (pos 1, pos 1)) (λ k. omega arith), tt),
                      ),
                    ),
                  ),
                ),
              ),
            ),
          ) y near live)
    ]

-- Where each cell around that passes the first test passes the second, and as many pass either, each that passes the second
-- passes the first.
module _ (p q : Cell → Bool) (x : Cell) (sub : (y : Cell) → p y ≡ true → q y ≡ true) (many : count_at p x ≡ count_at q x)
    (dead : q x ≡ false) where
  of_all : (y : Cell) → one (q y) ≤ one (p y) → q y ≡ true → p y ≡ true
  of_all y more h = let k = from_true (q y) h in is_true (p y) (omega arith)

  pub same_where_as_many : (y : Cell) → IsNear y x → q y ≡ true → p y ≡ true
  same_where_as_many =
      let less : ℤ = neg_ℤ (pos 1) in
      let same : count_at p x ≡ count_at q x = many in
      let a = below (p (plus x (less, less))) (q (plus x (less, less))) (sub (plus x (less, less))) in
      let b = below (p (plus x (pos 0, less))) (q (plus x (pos 0, less))) (sub (plus x (pos 0, less))) in
      let c = below (p (plus x (pos 1, less))) (q (plus x (pos 1, less))) (sub (plus x (pos 1, less))) in
      let d = below (p (plus x (less, pos 0))) (q (plus x (less, pos 0))) (sub (plus x (less, pos 0))) in
      let e = below (p (plus x (pos 1, pos 0))) (q (plus x (pos 1, pos 0))) (sub (plus x (pos 1, pos 0))) in
      let f = below (p (plus x (less, pos 1))) (q (plus x (less, pos 1))) (sub (plus x (less, pos 1))) in
      let g = below (p (plus x (pos 0, pos 1))) (q (plus x (pos 0, pos 1))) (sub (plus x (pos 0, pos 1))) in
      let h = below (p (plus x (pos 1, pos 1))) (q (plus x (pos 1, pos 1))) (sub (plus x (pos 1, pos 1))) in
      each_near x (λ y. q y ≡ true → p y ≡ true) (λ h. absurd (both_ways (q x) dead h)) (
        of_all (plus x (less, less)) (omega arith),
        (
          of_all (plus x (pos 0, less)) (omega arith),
          (
            of_all (plus x (pos 1, less)) (omega arith),
            (
              of_all (plus x (less, pos 0)) (omega arith),
              (
                of_all (plus x (pos 1, pos 0)) (omega arith),
                (
                  of_all (plus x (less, pos 1)) (omega arith),
                  (
                    of_all (plus x (pos 0, pos 1)) (omega arith),
                    (of_all (plus x (pos 1, pos 1)) (omega arith), tt),
                  ),
                ),
              ),
            ),
          ),
        ),
      )
