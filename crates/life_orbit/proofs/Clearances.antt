-- Two sets that recur, at one time.
use Rattle.std.proofs.Common.{◌≡◌, ℕ, zero, suc, ◌+◌, ◌/◌, ◌%◌, true, List, inl, inr, sym, refl, ap, subst, ◌∙◌}
use Rattle.std.proofs.Common.{mod-lt, arith}
use Rattle.std.proofs.lemmas.Bool.{cases_lt}
use Rattle.std.proofs.lemmas.Int.{ints}
use Rattle.std.specs.List.{list_any}
use Rattle.life_model.specs.Cell.{Cell, opposite, origin, plus, same_cell}
use Rattle.life_model.specs.Evolution.{generation}
use Rattle.life_model.specs.Generation.{Generation, cells, contains}
use Rattle.life_model.specs.Recurrence.{RecursBy}
use Rattle.life_model.specs.Rule.{Rule}
use Rattle.life_model.specs.Symmetry.{translate_of}
use Rattle.life_model.proofs.Generations.{contains-cells}
use Rattle.life_model.proofs.Cells.{pair, plus-opposite}
use Rattle.life_model.proofs.Symmetries.{contains-moved}
use Rattle.life_objects.specs.Apart.{AreApart, AreApartForEver, AreNear}
use Rattle.life_objects.specs.Drift.{multiple_of}
use Rattle.life_objects.proofs.Moving.{generation-wrapped}
use Rattle.life_orbit.specs.Clear.{AreClear, IsClearOf}
use Rattle.life_orbit.specs.Course.{Course, IsCourse}
use Rattle.life_orbit.specs.Hulls.{AreFar, IsHullOf}
use Rattle.life_orbit.specs.Passing.{AreApartBetween}
use Rattle.life_orbit.specs.declared.hull.Hull.{Hull}
use Rattle.life_model.proofs.Members.{of_all_members, of_member}

-- no cell of P, moved, is near one of Q
abbrev pub AreApartBy : Generation → Cell → Generation → Type 0
AreApartBy P by Q = (c d : Cell) → contains P c ≡ true → contains Q d ≡ true → AreNear (plus c by) d → ⊥

pub apart_from_clear : (P Q : Generation) (by : Cell) (cs ds : List Cell) → cs ≡ cells P → ds ≡ cells Q →
    AreClear cs by ds → AreApartBy P by Q
apart_from_clear P Q by cs ds first second clear c d in_P in_Q near =
    of_member (λ b. AreNear (plus c by) b → ⊥) ds
    (of_member (λ b. IsClearOf (plus b by) ds) cs clear c
    (sym (contains-cells P c ∙ ap (λ l. list_any (same_cell c) l) (sym first)) ∙ in_P))
    d (sym (contains-cells Q d ∙ ap (λ l. list_any (same_cell d) l) (sym second)) ∙ in_Q) near

pub clear_from_apart : (P Q : Generation) (by : Cell) (cs ds : List Cell) → cs ≡ cells P → ds ≡ cells Q →
    AreApartBy P by Q → AreClear cs by ds
clear_from_apart P Q by cs ds first second apart =
    of_all_members (λ b. IsClearOf (plus b by) ds) cs (λ c in_P.
    of_all_members (λ b. AreNear (plus c by) b → ⊥) ds (λ d in_Q near.
    apart c d (contains-cells P c ∙ ap (λ l. list_any (same_cell c) l) (sym first) ∙ in_P)
    (contains-cells Q d ∙ ap (λ l. list_any (same_cell d) l) (sym second) ∙ in_Q) near))

near_back : (c d s t : Cell) → AreNear c d →
    AreNear (plus (plus c (opposite s)) (plus s (opposite t))) (plus d (opposite t))
near_back c d s t h = record {
  left = omega (arith, ints);
  right = omega (arith, ints);
  above = omega (arith, ints);
  below = omega (arith, ints);
}

near_forth : (c d s t : Cell) → AreNear (plus c (plus s (opposite t))) d → AreNear (plus c s) (plus d t)
near_forth c d s t h = record {
  left = omega (arith, ints);
  right = omega (arith, ints);
  above = omega (arith, ints);
  below = omega (arith, ints);
}

-- two moved sets are apart where the one, moved as far as it is from the other, is apart from that
pub apart_forth : (P Q : Generation) (s t : Cell) → AreApartBy P (plus s (opposite t)) Q → AreApart (translate_of P s) (translate_of Q t)
apart_forth P Q s t apart c d in_P in_Q near =
    apart (plus c (opposite s)) (plus d (opposite t)) (sym (contains-moved P s c) ∙ in_P)
    (sym (contains-moved Q t d) ∙ in_Q) (near_back c d s t near)

pub apart_back : (P Q : Generation) (s t : Cell) → AreApart (translate_of P s) (translate_of Q t) → AreApartBy P (plus s (opposite t)) Q
apart_back P Q s t apart c d in_P in_Q near =
    apart (plus c s) (plus d t) (contains-moved P s (plus c s) ∙ ap (contains P) (plus-opposite c s) ∙ in_P)
    (contains-moved Q t (plus d t) ∙ ap (contains Q) (plus-opposite d t) ∙ in_Q) (near_forth c d s t near)

module _ (R : Rule) (P Q : Generation) (p q : ℕ) (d e : Cell) (r : RecursBy R P p d) (s : RecursBy R Q q e)
    (t : ℕ) where
  abbrev first : Generation
  first = generation R P (t % p)

  abbrev second : Generation
  second = generation R Q (t % q)

  abbrev offset : Cell
  offset = plus (multiple_of (t / p) d) (opposite (multiple_of (t / q) e))

  pub apart_at : AreApartBy first offset second → AreApart (generation R P t) (generation R Q t)
  apart_at apart =
      subst (λ H. AreApart H (generation R Q t)) (sym (generation-wrapped R P p d r t))
      (subst (AreApart (translate_of first (multiple_of (t / p) d))) (sym (generation-wrapped R Q q e s t))
      (apart_forth first second (multiple_of (t / p) d) (multiple_of (t / q) e) apart))

  pub apart_then : AreApart (generation R P t) (generation R Q t) → AreApartBy first offset second
  apart_then apart =
      apart_back first second (multiple_of (t / p) d) (multiple_of (t / q) e)
      (subst (λ H. AreApart (translate_of first (multiple_of (t / p) d)) H) (generation-wrapped R Q q e s t)
      (subst (λ H. AreApart H (generation R Q t)) (generation-wrapped R P p d r t) apart))

-- what the phases say about a time
module _ (o w : Course) (rule : o.rule ≡ w.rule) (is_o : IsCourse o) (is_w : IsCourse w) (t : ℕ) (by : Cell)
    (by_is : by ≡ plus (multiple_of (t / o.period) o.displacement) (opposite (multiple_of (t / w.period) w.displacement))) where
  again : RecursBy o.rule w.set w.period w.displacement
  again = subst (λ S. RecursBy S w.set w.period w.displacement) (sym rule) is_w.recurs

  abbrev here : Generation
  here = generation o.rule o.set (t % o.period)

  abbrev there : Generation
  there = generation w.rule w.set (t % w.period)

  abbrev between : Cell
  between = offset o.rule o.set w.set o.period w.period o.displacement w.displacement is_o.recurs again t

  pub apart_by_phases : AreApartBy here by there → AreApart (generation o.rule o.set t) (generation o.rule w.set t)
  apart_by_phases apart =
      apart_at o.rule o.set w.set o.period w.period o.displacement w.displacement is_o.recurs again t
      (subst (λ S. AreApartBy here between
      (generation S w.set (t % w.period))) (sym rule) (subst (λ z. AreApartBy here z there) by_is apart))

  pub phases_apart : AreApart (generation o.rule o.set t) (generation o.rule w.set t) → AreApartBy here by there
  phases_apart apart =
      subst (λ z. AreApartBy here z there) (sym by_is)
      (subst (λ S. AreApartBy here between
      (generation S w.set (t % w.period))) rule
      (apart_then o.rule o.set w.set o.period w.period o.displacement w.displacement is_o.recurs again t apart))

  pub apart_by_hulls : (g h : Hull) → IsHullOf g o → IsHullOf h w → AreFar g by h →
      AreApart (generation o.rule o.set t) (generation o.rule w.set t)
  apart_by_hulls g h in_g in_h far =
      apart_by_phases (λ c d in_P in_Q near.
      far c d (in_g (t % o.period) c (mod-lt t is_o.recurs.later) in_P)
      (in_h (t % w.period) d (mod-lt t is_w.recurs.later) in_Q) near)

-- what moves nowhere is nowhere else after any number of moves
pub still : (k : ℕ) (d : Cell) → d ≡ origin → multiple_of k d ≡ origin
still zero d rests = refl
still (suc k) d rests = (λ i. plus (still k d rests i) (rests i)) ∙ pair (omega (arith, ints)) (omega (arith, ints))

-- two sets that stay where they are, with boxes that are far from each other
pub apart_at_rest : (o w : Course) → o.rule ≡ w.rule → IsCourse o → IsCourse w → (g h : Hull) → IsHullOf g o →
    IsHullOf h w → o.displacement ≡ origin → w.displacement ≡ origin → AreFar g origin h →
    AreApartForEver o.rule o.set w.set
apart_at_rest o w rule is_o is_w g h in_g in_h rests other_rests far t =
    apart_by_hulls o w rule is_o is_w t origin
    (sym ((λ i. plus (still (t / o.period) o.displacement rests i)
    (opposite (still (t / w.period) w.displacement other_rests i))) ∙ pair (omega (arith, ints)) (omega (arith, ints))))
    g h in_g in_h far

pub between_more : (R : Rule) (P Q : Generation) (k n : ℕ) → AreApartBetween R k n P Q →
    AreApart (generation R P n) (generation R Q n) → AreApartBetween R k (n + 1) P Q
between_more R P Q k n so_far now m late h =
    elim (cases_lt m n) [
      | inl early ↦ so_far m late early
      | inr last ↦ subst (λ t. AreApart (generation R P t) (generation R Q t)) (let z : n ≡ m = omega arith in z) now
    ]
