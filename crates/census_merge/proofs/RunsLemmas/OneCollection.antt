-- With one collection there is one report.
use Rattle.std.proofs.Common.{◌≡◌, ◌↔◌, ℕ, zero, suc, true, false, cond, eqb, List, [], ◌∷◌, ◌++◌, refl, sym, ap, ◌∙◌, arith}
use Rattle.census_format.specs.Lines.{Collection, Group, groups_text}
use Rattle.census_format.specs.Reports.{IsReportOf, Owned, end_of, lines_of, owned_text, section, section_of}
use Rattle.census_format.proofs.Owning.{eqb_same, lines_of-other, lines_of-own, own, owned_text-own}
use Rattle.census_rows.specs.Lines.{text_of}

-- each line belongs to the first collection
abbrev AreFirst : List Owned → Type 0
AreFirst ls = (c : ℕ) → (1 ≡ c → ⊥) → lines_of c ls ≡ []

abbrev owned : ℕ → Group → Owned
owned c group = record { owner = c; group = group }

cons_is_not_empty : (l : Group) (ls : List Group) → l ∷ ls ≡ [] → ⊥
cons_is_not_empty l ls e = cc

first_after : (l : Owned) (ls : List Owned) → AreFirst (l ∷ ls) → AreFirst ls
first_after l ls first c ne =
    elim (eqb l.owner c) as (λ b. cond b (l.group ∷ lines_of c ls) (lines_of c ls) ≡ [] → lines_of c ls ≡ []) [
      | true ↦ λ e. absurd (cons_is_not_empty l.group (lines_of c ls) e)
      | false ↦ λ e. e
    ] (first c ne)

step : (c : ℕ) (line : Group) (ls : List Owned) → AreFirst (owned c line ∷ ls) → owned_text ls ≡ groups_text (lines_of 1 ls)
    → text_of line ++ owned_text ls ≡ groups_text (lines_of 1 (owned c line ∷ ls))
step zero line ls first more = absurd (cons_is_not_empty line (lines_of zero ls) (first zero (λ e. absurd (omega arith))))
step (suc zero) line ls first more = ap (λ t. text_of line ++ t) more
step (suc (suc n)) line ls first more =
    let c = suc (suc n) in
    let same = ap (λ b. cond b (line ∷ lines_of c ls) (lines_of c ls)) (eqb_same c c refl) in
    absurd (cons_is_not_empty line (lines_of c ls) (sym same ∙ first c (λ e. absurd (omega arith))))

first_text : (ls : List Owned) → AreFirst ls → owned_text ls ≡ groups_text (lines_of 1 ls)
first_text [] first = refl
first_text (l ∷ ls) first = step l.owner l.group ls first (first_text ls (first_after l ls first))

module _ (f : Collection) where
  elsewhere : (c : ℕ) → (1 ≡ c → ⊥) → section (f ∷ []) c ≡ []
  elsewhere zero ne = refl
  elsewhere (suc zero) ne = absurd (ne refl)
  elsewhere (suc (suc n)) ne = refl

  sections : (c : ℕ) → lines_of c (own 1 (section_of 1 f)) ≡ section (f ∷ []) c
  sections zero = lines_of-other 1 zero (section_of 1 f) (λ e. absurd (omega arith))
  sections (suc zero) = lines_of-own 1 1 (section_of 1 f) refl
  sections (suc (suc n)) = lines_of-other 1 (suc (suc n)) (section_of 1 f) (λ e. absurd (omega arith))

  the_text : (text : List ℕ) → IsReportOf (f ∷ []) text → text ≡ groups_text (section_of 1 f) ++ text_of (end_of (f ∷ []))
  the_text text report =
      report.whole
      ∙ ap (λ t. t ++ text_of (end_of (f ∷ []))) (first_text report.groups (λ c ne. report.sections c ∙ elsewhere c ne) ∙ ap groups_text (report.sections 1))

  the_report : (text : List ℕ) → text ≡ groups_text (section_of 1 f) ++ text_of (end_of (f ∷ [])) → IsReportOf (f ∷ []) text
  the_report text is = record {
    groups = own 1 (section_of 1 f);
    sections = sections;
    whole = is ∙ ap (λ t. t ++ text_of (end_of (f ∷ []))) (sym (owned_text-own 1 (section_of 1 f)));
  }

  pub one_report : (text : List ℕ) → IsReportOf (f ∷ []) text ↔ (text ≡ groups_text (section_of 1 f) ++ text_of (end_of (f ∷ [])))
  one_report text = (the_text text, the_report text)
