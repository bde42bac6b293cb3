-- A set that recurs, moved as a whole.
use Rattle.std.proofs.Common.{◌≡◌, ℕ, ◌<◌, List, length, get_or, map, sym, ap, subst, ◌∙◌, arith}
use Rattle.std.proofs.lemmas.Int.{ints}
use Rattle.std.proofs.lemmas.List.{get_or-map, length-map}
use Rattle.life_model.specs.Cell.{Cell, plus}
use Rattle.life_model.specs.Generation.{Generation, empty}
use Rattle.life_model.specs.Recurrence.{RecursBy}
use Rattle.life_model.specs.Rule.{Rule}
use Rattle.life_model.specs.Symmetry.{translate_of}
use Rattle.life_model.proofs.Cells.{pair}
use Rattle.life_model.proofs.Moves.{moved-moved}
use Rattle.life_model.proofs.Recurrences.{generation-zero}
use Rattle.life_model.proofs.Symmetries.{generation-moved}
use Rattle.life_objects.proofs.Recurring.{RecursBy-unmoved}
use Rattle.life_orbit.specs.Kept.{ArePhasesOfOrbit}

module _ (R : Rule) (G : Generation) (by : Cell) where
  moves_turned : (d : Cell) → translate_of (translate_of G d) by ≡ translate_of (translate_of G by) d
  moves_turned d =
      moved-moved G d by
      ∙ ap (translate_of G) (let z : plus d by ≡ plus by d = pair (omega (arith, ints)) (omega (arith, ints)) in z)
      ∙ sym (moved-moved G by d)

  recurs_moved : (n : ℕ) (d : Cell) → RecursBy R G n d → RecursBy R (translate_of G by) n d
  recurs_moved n d r = record {
    later = r.later;
    again = generation-moved R G by n ∙ ap (λ H. translate_of H by) r.again ∙ moves_turned d;
  }

  -- a moved set recurs as the set itself does, and its generations are moved
  pub kept_moved : (list : List Generation) (d : Cell) → ArePhasesOfOrbit R G list d →
      ArePhasesOfOrbit R (translate_of G by) (map (λ P. translate_of P by) list) d
  kept_moved list d kept =
      let f = λ (P : Generation). translate_of P by in
      let long = length-map list f in
      record {
        phases = λ k h.
            let within : k < length list = omega (arith, long) in
            get_or-map f list k empty empty within ∙ ap f (kept.phases k within) ∙ sym (generation-moved R G by k);
        recurs = subst (λ n. RecursBy R (translate_of G by) n d) (sym long) (recurs_moved (length list) d kept.recurs);
        least = λ n e r.
            let sooner = kept.least n e (RecursBy-unmoved R G n e by r) in
            omega (arith, long);
        short = let few = kept.short in omega (arith, long);
      }

  pub first_moved : (list : List Generation) (d : Cell) → ArePhasesOfOrbit R G list d →
      get_or (map (λ P. translate_of P by) list) 0 empty ≡ translate_of G by
  first_moved list d kept =
      let all = kept_moved list d kept in
      let some = all.recurs.later in
      all.phases 0 (omega arith) ∙ generation-zero R (translate_of G by)

module _ (R : Rule) (by : Cell) (list : List Generation) (d : Cell) (kept : ArePhasesOfOrbit R (get_or list 0 empty) list d)
    (then : List Generation) (made : then ≡ map (λ P. translate_of P by) list) where
  -- the first generation, moved, is the first of those that are moved
  pub kept_first : get_or then 0 empty ≡ translate_of (get_or list 0 empty) by
  kept_first = ap (λ (l : List Generation). get_or l 0 empty) made ∙ first_moved R (get_or list 0 empty) by list d kept

  -- the generations that are moved are those of the first of them
  pub kept_there : ArePhasesOfOrbit R (get_or then 0 empty) then d
  kept_there =
      subst (λ H. ArePhasesOfOrbit R H then d) (sym kept_first)
      (subst (λ (l : List Generation). ArePhasesOfOrbit R (translate_of (get_or list 0 empty) by) l d) (sym made)
      (kept_moved R (get_or list 0 empty) by list d kept))
