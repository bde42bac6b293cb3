-- The code of what recurs is the same for all sets that are the same object, within each bound that is no less than its
-- period.
use Rattle.std.proofs.Common.{◌≡◌, ℕ, ◌+◌, ◌≤◌, inl, inr, sym, ap, subst, ◌∙◌, arith}
use Rattle.life_model.specs.Cell.{Cell}
use Rattle.life_model.specs.Rule.{Rule}
use Rattle.life_model.specs.Generation.{Generation}
use Rattle.life_model.specs.Evolution.{generation}
use Rattle.life_model.specs.Recurrence.{AreOneObject, RecursBy, Settles, SettlesAt}
use Rattle.life_model.specs.Symmetry.{Orientation, image_under, translate_of, turn}
use Rattle.life_model.proofs.Objects.{AreOneObject-swap, turned-moved}
use Rattle.life_model.proofs.Recurrences.{generation-add, generation-zero, onset-period-least}
use Rattle.life_model.proofs.Symmetries.{generation-turned}
use Rattle.life_objects.specs.Ash.{RecursWithin}
use Rattle.life_objects.proofs.Recurring.{RecursBy-later, RecursBy-moved, RecursBy-sooner}
use Rattle.life_answer.specs.Apgcode.{code_of}
use Rattle.life_answer.specs.Census.{code_found, part_code}
use Rattle.life_answer.proofs.Codes.{codes_tell_objects}
use Rattle.life_answer.proofs.Findings.{outcome-more, outcome-settled, settled_or_not}

module _ (R : Rule) where
  -- ---- what recurs, within a bound

  -- P recurs within B, from generation 0 on
  pub record SettlesAtOnce (B : ℕ) (P : Generation) : Type 0 where
    pub period : ℕ
    pub displacement : Cell
    pub settles : Settles R P B (record { onset = 0; period = period; displacement = displacement })

  pub from_start : (P : Generation) (n : ℕ) (d : Cell) → RecursBy R P n d → (B : ℕ) → n ≤ B → SettlesAtOnce B P
  from_start P n d r B le =
      let later = r.later in
      let again : SettlesAt R P B 0 = record {
        steps = n;
        by = d;
        later = later;
        within = omega arith;
        again = ap (generation R P) (let e : 0 + n ≡ n = omega arith in e) ∙ r.again
            ∙ ap (λ G. translate_of G d) (sym (generation-zero R P));
      } in
      elim (settled_or_not R P B) [
        | inl found ↦
            let s = found.recurrence in
            let early : s.onset ≤ 0 = found.settles.first 0 again in
            let at_once : s.onset ≡ 0 = omega arith in
            record {
              period = s.period;
              displacement = s.displacement;
              settles = subst (Settles R P B) (λ i. record s { onset = at_once i }) found.settles;
            }
        | inr none ↦ absurd (none.nowhere 0 again)
      ]

  -- what recurs at all does so at once, if a generation of it does so within B
  from_any : (P : Generation) (m : ℕ) (d : Cell) → RecursBy R P m d → (B g : ℕ) → SettlesAt R P B g → SettlesAtOnce B P
  from_any P m d r B g s =
      let n : ℕ = s.steps in
      let within : g + n ≤ B = s.within in
      from_start P n s.by
      (RecursBy-sooner R P m d r g n s.by (record { later = s.later; again = generation-add R P g n ∙ s.again })) B (omega arith)

  pub part_code-is : (B : ℕ) (P : Generation) (s : SettlesAtOnce B P) →
      part_code R B P ≡ code_of R (generation R P 0) s.period s.displacement
  part_code-is B P s =
      ap code_found (outcome-settled R P B (record { onset = 0; period = s.period; displacement = s.displacement }) s.settles)

  short_period : (B : ℕ) (P : Generation) (s : SettlesAtOnce B P) → 0 + s.period ≤ B
  short_period B P s =
      onset-period-least R P B (record { onset = 0; period = s.period; displacement = s.displacement }) s.settles B 0
      s.settles.settles

  -- ---- one object has one code

  pub turned_recurs : (P : Generation) (n : ℕ) (d : Cell) (m : Orientation) → RecursBy R P n d →
      RecursBy R (image_under P m) n (turn m d)
  turned_recurs P n d m r = record {
    later = r.later;
    again = generation-turned R P m n ∙ ap (λ G. image_under G m) r.again ∙ turned-moved P d m;
  }

  -- if the one recurs after p steps, so does the other
  pub recurs_across : (P Q : Generation) → AreOneObject R P Q → (n : ℕ) (e : Cell) → RecursBy R Q n e → (p : ℕ) (d : Cell) →
      RecursBy R P p d → (f : Cell) × RecursBy R Q p f
  recurs_across P Q one n e back p d r =
      let A = generation R P one.first_phase in
      let f : Cell = turn one.map d in (
        f,
        RecursBy-sooner R Q n e back one.second_phase p f
            (subst (λ G. RecursBy R G p f) (sym one.same)
            (RecursBy-moved R (image_under A one.map) p f one.by
            (turned_recurs A p d one.map (RecursBy-later R P p d r one.first_phase)))),
      )

  module _ (B : ℕ) (P Q : Generation) (m n : ℕ) (d e : Cell) (r : RecursBy R P m d) (t : RecursBy R Q n e)
      (one : AreOneObject R P Q) where
    too : SettlesAtOnce B P → SettlesAtOnce B Q
    too s =
        let p : ℕ = s.period in
        let short : 0 + p ≤ B = short_period B P s in
        let across = recurs_across P Q one n e t p s.displacement
        (subst (λ G. RecursBy R G p s.displacement) (generation-zero R P) s.settles.recurs) in
        from_start Q p across.0 across.1 B (omega arith)

    same_code : SettlesAtOnce B P → part_code R B P ≡ part_code R B Q
    same_code s =
        let u = too s in
        part_code-is B P s
        ∙ (codes_tell_objects R P Q B B (record { onset = 0; period = s.period; displacement = s.displacement })
        (record { onset = 0; period = u.period; displacement = u.displacement }) s.settles u.settles).1
        (subst (λ G. AreOneObject R G (generation R Q 0)) (sym (generation-zero R P))
        (subst (AreOneObject R P) (sym (generation-zero R Q)) one))
        ∙ sym (part_code-is B Q u)

  pub one_code : (B : ℕ) (P Q : Generation) (m n : ℕ) (d e : Cell) → RecursBy R P m d → RecursBy R Q n e →
      AreOneObject R P Q → part_code R B P ≡ part_code R B Q
  one_code B P Q m n d e r t one =
      elim (settled_or_not R P B) [
        | inl found ↦ same_code B P Q m n d e r t one (from_any P m d r B found.recurrence.onset found.settles.settles)
        | inr none ↦ elim (settled_or_not R Q B) [
          | inl found ↦
              sym (same_code B Q P n m e d t r (AreOneObject-swap R P Q one)
              (from_any Q n e t B found.recurrence.onset found.settles.settles))
          | inr neither ↦ ap code_found none.found ∙ sym (ap code_found neither.found)
        ]
      ]

  -- the code is the same within each bound that is no less
  pub wider_code : (b c : ℕ) (P : Generation) → b ≤ c → RecursWithin R b P → part_code R b P ≡ part_code R c P
  wider_code b c P le again =
      let s = from_start P again.steps again.by again.recurs b again.within in
      let short : 0 + s.period ≤ b = short_period b P s in
      ap code_found (sym (outcome-more R P b c (record { onset = 0; period = s.period; displacement = s.displacement })
      s.settles (omega arith)))
