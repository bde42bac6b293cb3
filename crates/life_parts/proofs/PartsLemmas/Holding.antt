-- What is held apart in one generation is held apart a period later.
use Rattle.std.proofs.Common.{◌≡◌, ℕ, ◌+◌, List, inl, inr, sym, ap, subst, ◌∙◌, arith}
use Rattle.std.specs.List.{Contains}
use Rattle.life_model.specs.Cell.{Cell, plus, opposite}
use Rattle.life_model.specs.Rule.{Rule}
use Rattle.life_model.specs.Generation.{Generation, contains}
use Rattle.life_model.specs.Evolution.{generation, next}
use Rattle.life_model.specs.Recurrence.{RecursBy}
use Rattle.life_model.specs.Symmetry.{translate_of}
use Rattle.life_model.proofs.Cells.{plus-opposite}
use Rattle.life_model.proofs.Recurrences.{generation-add}
use Rattle.life_model.proofs.Symmetries.{contains-moved, generation-moved, next-moved, plus_keeps}
use Rattle.life_objects.specs.Union.{generations}
use Rattle.life_parts.specs.Parts.Apart.{AreHeldApart, HaveBoth, IsEachFair}
use Rattle.life_parts.specs.Parts.Groups.{bears}
use Rattle.life_parts.specs.Parts.Ties.{IsIn}
use Rattle.life_parts.proofs.PartsLemmas.Along.{near_moved}
use Rattle.life_parts.proofs.PartsLemmas.Apart.{AreSplitAt, both_by_set, from_later, to_later}
use Rattle.life_parts.proofs.PartsLemmas.Ends.{generation-later}
use Rattle.life_parts.proofs.PartsLemmas.Mapped.{IsMapped, around_here, around_there, bears_there, fair_here, islands_there, there}

module _ (R : Rule) (P : Generation) (Qs : List Generation) (p : ℕ) (d : Cell) (r : RecursBy R P p d) (k : ℕ)
    (split : AreSplitAt R P Qs k) (later : AreSplitAt R P Qs (k + p))
    (held : AreHeldApart R (generation R P k) (generations R Qs k))
    (came_by : (Q : Generation) → Contains Qs Q → (c : Cell) → IsIn R Q (k + p) c →
    (A : Generation) × Contains Qs A × (generation R Q p ≡ translate_of A d)) where
  abbrev G : Generation
  G = generation R P k

  abbrev G' : Generation
  G' = generation R P (k + p)

  abbrev Hs : List Generation
  Hs = generations R Qs k

  abbrev Hs' : List Generation
  Hs' = generations R Qs (k + p)

  abbrev forth : Cell → Cell
  forth c = plus c d

  abbrev back : Cell → Cell
  back c = plus c (opposite d)

  mapped : IsMapped G G' forth back
  mapped = record {
    keeps = plus_keeps d;
    near_forth = λ c e near. near_moved c e d near;
    near_back = λ c e near. near_moved c e (opposite d) near;
    is = generation-later R P p d r k;
  }

  -- where generation p of Q is A, moved, generation k + p of Q is generation k of A, moved
  set_later : (Q A : Generation) → generation R Q p ≡ translate_of A d → generation R Q (k + p) ≡ translate_of (generation R A k) d
  set_later Q A same =
      ap (generation R Q) (let e : k + p ≡ p + k = omega arith in e) ∙ sym (generation-add R Q p k)
      ∙ ap (λ H. generation R H k) same ∙ generation-moved R A d k

  in_A : (Q A : Generation) → generation R Q p ≡ translate_of A d → (c : Cell) →
      contains (generation R Q (k + p)) c ≡ contains (generation R A k) (back c)
  in_A Q A same c = ap (λ H. contains H c) (set_later Q A same) ∙ contains-moved (generation R A k) d c

  next_A : (Q A : Generation) → generation R Q p ≡ translate_of A d → (c : Cell) →
      contains (next R (generation R Q (k + p))) c ≡ contains (next R (generation R A k)) (back c)
  next_A Q A same c =
      ap (λ H. contains (next R H) c) (set_later Q A same)
      ∙ ap (λ H. contains H c) (next-moved R (generation R A k) d) ∙ contains-moved (next R (generation R A k)) d c

  both_later : (c e : Cell) → HaveBoth Hs (back c) (back e) → HaveBoth Hs' c e
  both_later c e both H listed h =
      let q = from_later R (k + p) Qs H listed in
      let in_Q : IsIn R q.0 (k + p) c = ap (λ B. contains B c) q.2 ∙ h in
      let a = came_by q.0 q.1 c in_Q in
      ap (λ B. contains B e) (sym q.2) ∙ in_A q.0 a.0 a.2 e
      ∙ both (generation R a.0 k) (to_later R k Qs a.0 a.1) (sym (in_A q.0 a.0 a.2 c) ∙ in_Q)

  both_now : (c e : Cell) → IsIn R P (k + p) c → HaveBoth Hs' c e → HaveBoth Hs (back c) (back e)
  both_now c e h both =
      let q = later.cover c h in
      let a = came_by q.0 q.1 c q.2 in
      let in_e : IsIn R q.0 (k + p) e = both (generation R q.0 (k + p)) (to_later R (k + p) Qs q.0 q.1) q.2 in
      both_by_set R P Qs k split a.0 a.1 (back c) (back e) (sym (in_A q.0 a.0 a.2 c) ∙ q.2) (sym (in_A q.0 a.0 a.2 e) ∙ in_e)

  each_later : (x : Cell) → IsEachFair R G Hs (back x) → IsEachFair R G' Hs' x
  each_later x each colour islands within =
      let colour_back : Cell → ℕ = λ c. colour (forth c) in
      let fair = each colour_back (islands_there R G G' forth back mapped x colour islands) (λ c e at too same.
      let c_at = around_here R G G' forth back mapped x colour c at in
      let e_at = around_here R G G' forth back mapped x colour e too in
      subst (λ z. HaveBoth Hs c z) (plus-opposite e d)
      (subst (λ z. HaveBoth Hs z (back (forth e))) (plus-opposite c d)
      (both_now (forth c) (forth e) c_at.live (within (forth c) (forth e) c_at e_at same)))) in (
        fair_here R G G' forth back mapped x colour fair.0,
        λ c at h H listed in_H.
            let q = from_later R (k + p) Qs H listed in
            let in_Q : IsIn R q.0 (k + p) c = ap (λ B. contains B c) q.2 ∙ in_H in
            let a = came_by q.0 q.1 c in_Q in
            ap (λ B. contains (next R B) x) (sym q.2) ∙ next_A q.0 a.0 a.2 x
            ∙ fair.1 (back c) (around_there R G G' forth back mapped x colour c at)
            (ap (λ l. bears R G colour_back l (back x)) (ap colour (mapped.keeps.inverse.here c))
            ∙ bears_there R G G' forth back mapped x colour (colour c) ∙ h)
            (generation R a.0 k) (to_later R k Qs a.0 a.1) (sym (in_A q.0 a.0 a.2 c) ∙ in_Q),
      )

  pub held_later : AreHeldApart R G' Hs'
  held_later = record {
    islands = λ c e h l near.
        both_later c e
        (held.islands (back c) (back e) (there R G G' forth back mapped c ∙ h) (there R G G' forth back mapped e ∙ l)
        (near_moved c e (opposite d) near));
    places = λ x place.
        elim (held.places (back x) (there R G G' forth back mapped x ∙ place)) [
          | inl whole ↦ inl (λ c e at too.
              both_later c e
              (whole (back c) (back e) (around_there R G G' forth back mapped x (λ _. 0) c at)
              (around_there R G G' forth back mapped x (λ _. 0) e too)))
          | inr each ↦ inr (each_later x each)
        ];
  }
