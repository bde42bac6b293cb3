-- Where the phase after half a period is the first one, turned and moved, the second half has the texts of the first.
use Rattle.std.proofs.Common.{◌≡◌, ℕ, zero, suc, ◌+◌, ◌<◌, ◌≤◌, List, inl, inr, sym, refl, ap, subst, ◌∙◌, arith}
use Rattle.std.proofs.lemmas.Bool.Decides.{eqb_tells}
use Rattle.life_model.specs.Rule.{Rule}
use Rattle.life_model.specs.Generation.{Generation}
use Rattle.life_model.specs.Evolution.{generation}
use Rattle.life_model.specs.Symmetry.{Orientation, Same, image_under, normal}
use Rattle.life_model.proofs.Moves.{normal_decides, normal-moved}
use Rattle.life_model.proofs.Objects.{then_turned, turned-turned, turned-undone, normal-turned}
use Rattle.life_model.proofs.Recurrences.{generation-add}
use Rattle.life_model.proofs.Symmetries.{undone, generation-moved, generation-turned}
use Rattle.life_cells.specs.Wechsler.{body}
use Rattle.life_cells.specs.TextOrder.{least_text}
use Rattle.life_cells.proofs.Spelling.{same_bodies}
use Rattle.life_answer.specs.Apgcode.{bodies, orientations, turned_bodies}
use Rattle.life_answer.proofs.Codes.{body_by_shape, in_turned}
use Rattle.life_answer.proofs.LeastTexts.{Member, least_member, least_same, member-append_left, member-append_right, member_of_append, member_of_map}
use Rattle.life_codes.proofs.Phases.{bodies-more}

some_text : (G : Generation) → Member (body (image_under G Same)) (turned_bodies G)
some_text G = inl refl

-- ---- sets with one least text

-- the maps by which two sets have one shape
record AreAlike (G H : Generation) : Type 0 where
  first : Orientation
  second : Orientation
  shape : normal (image_under G first) ≡ normal (image_under H second)

alike_from_texts : (G H : Generation) → least_text (turned_bodies G) ≡ least_text (turned_bodies H) → AreAlike G H
alike_from_texts G H e =
    let one = member_of_map (λ m. body (image_under G m)) _ orientations (least_member _ (turned_bodies G) (some_text G)) in
    let other = member_of_map (λ m. body (image_under H m)) _ orientations (least_member _ (turned_bodies H) (some_text H)) in
    record {
      first = one.0;
      second = other.0;
      shape = (same_bodies _ _).0 (sym one.1 ∙ e ∙ other.1);
    }

-- each way to turn the first looks like some way to turn the second
turned_alike : (G H : Generation) (one : AreAlike G H) (m : Orientation) →
    (n : Orientation) × (normal (image_under G m) ≡ normal (image_under H n))
turned_alike G H one m =
    let n = then_turned (undone one.first) m in
    let back : image_under G m ≡ image_under (image_under G one.first) n =
    ap (λ K. image_under K m) (sym (turned-undone G one.first)) ∙ turned-turned (image_under G one.first) (undone one.first) m in
    (then_turned one.second n, ap normal back ∙ normal-turned _ _ n one.shape ∙ ap normal (turned-turned H one.second n))

-- a set that is alike has the same texts
texts_alike : (G H : Generation) → AreAlike G H → (t : List ℕ) → Member t (turned_bodies G) → Member t (turned_bodies H)
texts_alike G H one t h =
    let at = member_of_map (λ m. body (image_under G m)) t orientations h in
    let there = turned_alike G H one at.0 in
    subst (λ u. Member u (turned_bodies H)) (sym (at.1 ∙ body_by_shape _ _ there.1)) (in_turned H there.0)

module _ (R : Rule) where
  -- they stay alike
  alike_later : (G H : Generation) → AreAlike G H → (n : ℕ) → AreAlike (generation R G n) (generation R H n)
  alike_later G H one n =
      let move = (normal_decides (image_under G one.first) (image_under H one.second)).0 one.shape in
      record {
        first = one.first;
        second = one.second;
        shape = ap normal (sym (generation-turned R G one.first n))
            ∙ sym (normal-moved _ move.0)
            ∙ ap normal (sym (generation-moved R (image_under G one.first) move.0 n))
            ∙ ap (λ K. normal (generation R K n)) (sym move.1)
            ∙ ap normal (generation-turned R H one.second n);
      }

  -- ---- the texts of phases

  phase_in : (H : Generation) (count k : ℕ) (t : List ℕ) → k < count → Member t (turned_bodies (generation R H k)) → Member t (bodies R H count)
  phase_in H zero k t low h = absurd (omega arith)
  phase_in H (suc n) k t low h =
      let more : n + 1 ≡ suc n = omega arith in
      subst (λ c. Member t (bodies R H c)) more
      (subst (Member t) (sym (bodies-more R H n))
      (elim (eqb_tells k n) [
        | inl here ↦ member-append_right t (bodies R H n) _ (subst (λ j. Member t (turned_bodies (generation R H j))) here.1 h)
        | inr before ↦ let apart = before.1 in member-append_left t (bodies R H n) _ (phase_in H n k t (omega (arith, apart)) h)
      ]))

  module _ (H : Generation) (half : ℕ) (same : least_text (turned_bodies (generation R H half)) ≡ least_text (turned_bodies H)) where
    alike : AreAlike (generation R H half) H
    alike = alike_from_texts _ _ same

    back : (n : ℕ) → n ≤ half → (t : List ℕ) → Member t (bodies R H (half + n)) → Member t (bodies R H half)
    back zero low t h = subst (λ k. Member t (bodies R H k)) (let e : half + zero ≡ half = omega arith in e) h
    back (suc n) low t h =
        let more : half + suc n ≡ half + n + 1 = omega arith in
        elim (member_of_append t (bodies R H (half + n)) (turned_bodies (generation R H (half + n)))
        (subst (Member t) (bodies-more R H (half + n)) (subst (λ k. Member t (bodies R H k)) more h))) [
          | inl before ↦ back n (omega arith) t before
          | inr here ↦
              phase_in H half n t (omega arith)
              (texts_alike _ _ (alike_later (generation R H half) H alike n) t
              (subst (λ K. Member t (turned_bodies K)) (sym (generation-add R H half n)) here))
        ]

    forth : (n : ℕ) (t : List ℕ) → Member t (bodies R H half) → Member t (bodies R H (half + n))
    forth zero t h = subst (λ k. Member t (bodies R H k)) (let e : half ≡ half + zero = omega arith in e) h
    forth (suc n) t h =
        let more : half + n + 1 ≡ half + suc n = omega arith in
        subst (λ k. Member t (bodies R H k)) more
        (subst (Member t) (sym (bodies-more R H (half + n))) (member-append_left t (bodies R H (half + n)) _ (forth n t h)))

    pub half_is_enough : 0 < half → least_text (bodies R H half) ≡ least_text (bodies R H (half + half))
    half_is_enough some =
        least_same (body (image_under (generation R H 0) Same)) (bodies R H half) (bodies R H (half + half))
        (phase_in H half 0 _ some (some_text (generation R H 0)))
        (forth half)
        (back half (omega arith))
