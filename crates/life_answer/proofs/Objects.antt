-- One object has one period and one least text, and recurs in place or elsewhere whichever of its phases is taken.
use Rattle.std.proofs.Common.{◌≡◌, ℕ, ◌+◌, ◌-◌, ◌*◌, ◌≤◌, inl, inr, sym, refl, ap, subst, ◌∙◌, arith}
use Rattle.life_model.specs.Cell.{Cell, origin}
use Rattle.life_model.specs.Rule.{Rule}
use Rattle.life_model.specs.Generation.{Generation, empty, size}
use Rattle.life_model.specs.Evolution.{generation}
use Rattle.life_model.specs.Symmetry.{translate_of, normal, Orientation, Same, FlipX, FlipY, Half, Swap, SwapFlipX, SwapFlipY, SwapHalf, turn, image_under}
use Rattle.life_model.specs.Recurrence.{RecursBy, AreOneObject}
use Rattle.life_model.proofs.Objects.{turned-moved}
use Rattle.life_model.proofs.Orbits.{far_enough, multiple}
use Rattle.life_model.proofs.Moves.{normal-moved, normal_decides, moved-origin, moved-empty, move_one, nothing_or_some}
use Rattle.life_model.proofs.Recurrences.{shape, way, shape-follows, shape_carried, shape_from_recurs, recurs_from_shape, generation-zero, generation-add}
use Rattle.life_model.proofs.Symmetries.{generation-moved, generation-turned}
use Rattle.life_objects.proofs.Times.{generation-empty}
use Rattle.life_answer.proofs.Sizes.{size-turned, size_by_shape}

-- a set first recurs after p steps, moved by d, which is zero where there is no cell
pub record RecursFirst (R : Rule) (H : Generation) (p : ℕ) (d : Cell) : Type 0 where
  pub recurs : RecursBy R H p d
  pub least : (n : ℕ) (by : Cell) → RecursBy R H n by → p ≤ n
  pub unmoved : H ≡ empty → d ≡ origin

turn-origin : (m : Orientation) → turn m origin ≡ origin
turn-origin Same = refl
turn-origin FlipX = refl
turn-origin FlipY = refl
turn-origin Half = refl
turn-origin Swap = refl
turn-origin SwapFlipX = refl
turn-origin SwapFlipY = refl
turn-origin SwapHalf = refl

module _ (R : Rule) where
  -- what recurs after n does so in any later phase
  phase_moved : (H : Generation) (n : ℕ) (d : Cell) → RecursBy R H n d → (k : ℕ) → generation R H (k + n) ≡ translate_of (generation R H k) d
  phase_moved H n d r k =
      ap (generation R H) (let e : k + n ≡ n + k = omega arith in e)
      ∙ sym (generation-add R H n k)
      ∙ ap (λ X. generation R X k) r.again
      ∙ generation-moved R H d k

  at_zero : (K : Generation) (q : ℕ) (e : Cell) → RecursBy R K q e → RecursBy R (generation R K 0) q e
  at_zero K q e r = subst (λ X. RecursBy R X q e) (sym (generation-zero R K)) r

  recurs_at_zero : (K : Generation) (n : ℕ) → 1 ≤ n → shape R K (0 + n) ≡ shape R K 0 → (by : Cell) × RecursBy R K n by
  recurs_at_zero K n h e =
      let by : Cell = way R K 0 n in
      (by, subst (λ X. RecursBy R X n by) (generation-zero R K) (recurs_from_shape R K 0 n h e))

  module _ (H K : Generation) (one : AreOneObject R H K) where
    -- the phase of the second that comes n steps after the common one
    phase_after : (n : ℕ) (d : Cell) → RecursBy R H n d → generation R K (one.second_phase + n) ≡ translate_of (translate_of (image_under (generation R H one.first_phase) one.map) (turn one.map d)) one.by
    phase_after n d r =
        let k = one.first_phase in
        let A = generation R H k in
        let m = one.map in
        sym (generation-add R K one.second_phase n)
        ∙ ap (λ X. generation R X n) one.same
        ∙ generation-moved R (image_under A m) one.by n
        ∙ ap (λ X. translate_of X one.by)
        (generation-turned R A m n
        ∙ ap (λ X. image_under X m) (generation-add R H k n ∙ phase_moved H n d r k)
        ∙ turned-moved A d m)

    -- if the first set recurs after n, so does the second
    recurs_across : (q : ℕ) (e : Cell) → RecursBy R K q e → (n : ℕ) (d : Cell) → RecursBy R H n d → (by : Cell) × RecursBy R K n by
    recurs_across q e back n d r =
        let l = one.second_phase in
        let A = image_under (generation R H one.first_phase) one.map in
        let again : shape R K (l + n) ≡ shape R K l =
        ap normal (phase_after n d r) ∙ normal-moved _ one.by ∙ normal-moved A (turn one.map d) ∙ sym (normal-moved A one.by) ∙ ap normal (sym one.same) in
        let first : shape R K (0 + q) ≡ shape R K 0 = shape_from_recurs R K 0 q e (at_zero K q e back) in
        recurs_at_zero K n r.later (shape_carried R K 0 q l n back.later first again)

    module _ (p q : ℕ) (d e : Cell) (first : RecursFirst R H p d) (second : RecursFirst R K q e) where
      pub period_across : q ≤ p
      period_across =
          let found = recurs_across q e second.recurs p d first.recurs in
          second.least p found.0 found.1

      -- no cell at one phase of the second is no cell at all
      gone : generation R K one.second_phase ≡ empty → K ≡ empty
      gone none =
          let l = one.second_phase in
          let q_later = second.recurs.later in
          let far : l ≤ 0 + l * q = far_enough 0 l q q_later in
          let rest : ℕ = (0 + l * q) - l in
          let later : generation R K (0 + l * q) ≡ empty =
          ap (generation R K) (let s : 0 + l * q ≡ l + rest = omega arith in s)
          ∙ sym (generation-add R K l rest) ∙ ap (λ X. generation R X rest) none ∙ generation-empty R rest in
          let shapes : shape R K (0 + l * q) ≡ shape R K 0 =
          multiple (shape R K) (shape-follows R K) l 0 q (shape_from_recurs R K 0 q e (at_zero K q e second.recurs)) in
          let same : normal empty ≡ normal K = ap normal (sym later) ∙ shapes ∙ ap normal (generation-zero R K) in
          let move = (normal_decides empty K).0 same in
          move.1 ∙ moved-empty move.0

      -- if the first set recurs in place, so does the second
      pub in_place_across : p ≡ q → d ≡ origin → e ≡ origin
      in_place_across periods still =
          let l = one.second_phase in
          let A = image_under (generation R H one.first_phase) one.map in
          let stays : generation R K (l + q) ≡ translate_of (generation R K l) origin =
          ap (λ n. generation R K (l + n)) (sym periods)
          ∙ phase_after p d first.recurs
          ∙ ap (λ z. translate_of (translate_of A z) one.by) (ap (turn one.map) still ∙ turn-origin one.map)
          ∙ ap (λ X. translate_of X one.by) (moved-origin A)
          ∙ sym one.same
          ∙ sym (moved-origin (generation R K l)) in
          elim (nothing_or_some (generation R K l)) [
            | inl none ↦ second.unmoved (gone none)
            | inr some ↦ move_one (generation R K l) some.0 e origin some.1 (sym (phase_moved K q e second.recurs l) ∙ stays)
          ]

      -- the sizes of sets that recur after one step
      size_of_phase : (G : Generation) (by : Cell) → RecursBy R G 1 by → (k : ℕ) → size (generation R G k) ≡ size G
      size_of_phase G by r k =
          let shapes : shape R G (0 + k * 1) ≡ shape R G 0 =
          multiple (shape R G) (shape-follows R G) k 0 1 (shape_from_recurs R G 0 1 by (at_zero G 1 by r)) in
          let same : shape R G k ≡ shape R G 0 = ap (shape R G) (let s : k ≡ 0 + k * 1 = omega arith in s) ∙ shapes in
          size_by_shape (generation R G k) (generation R G 0) same ∙ ap size (generation-zero R G)

      pub size_across : p ≡ 1 → q ≡ 1 → size H ≡ size K
      size_across one_step one_step_too =
          let A = generation R H one.first_phase in
          sym (size_of_phase H d (subst (λ n. RecursBy R H n d) one_step first.recurs) one.first_phase)
          ∙ sym (size-turned A one.map)
          ∙ size_by_shape (image_under A one.map) (generation R K one.second_phase) (sym (normal-moved (image_under A one.map) one.by) ∙ ap normal (sym one.same))
          ∙ size_of_phase K e (subst (λ n. RecursBy R K n e) one_step_too second.recurs) one.second_phase
