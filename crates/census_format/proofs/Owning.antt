-- Lines of several collections in one list.
use Rattle.std.proofs.Common.{◌≡◌, ℕ, zero, suc, ◌+◌, ◌<◌, true, false, cond, eqb, List, [], ◌∷◌, ◌++◌, Some, None, Option, refl, sym, ap, ◌∙◌, arith, append_assoc, append-nil, slice_get}
use Rattle.std.proofs.lemmas.Bool.Decides.{nat_tests}
use Rattle.census_bundle.specs.declared.bundle.Folder.{Folder}
use Rattle.census_bundle.specs.Tickets.{element_at}
use Rattle.census_format.specs.Lines.{Group, groups_text}
use Rattle.census_rows.specs.Lines.{text_of}
use Rattle.census_format.specs.Reports.{Owned, lines_of, owned_text}

-- these groups, of the collection c
abbrev pub own : ℕ → List Group → List Owned
own c [] = []
own c (l ∷ ls) = record { owner = c; group = l } ∷ own c ls

-- the lines that F gives for each collection, from number c on
abbrev pub gathered : (ℕ → Folder → List Group) → ℕ → List Folder → List Owned
gathered F c [] = []
gathered F c (f ∷ fs) = own c (F c f) ++ gathered F (suc c) fs

abbrev pub given : (ℕ → Folder → List Group) → ℕ → Option Folder → List Group
given F c None = []
given F c (Some f) = F c f

pub eqb_same : (c d : ℕ) → c ≡ d → eqb c d ≡ true
eqb_same c d e = grind (arith, nat_tests)

pub eqb_apart : (c d : ℕ) → (c ≡ d → ⊥) → eqb c d ≡ false
eqb_apart c d ne = grind (arith, nat_tests)

pub lines_of-append : (c : ℕ) (xs ys : List Owned) → lines_of c (xs ++ ys) ≡ lines_of c xs ++ lines_of c ys
lines_of-append c [] ys = refl
lines_of-append c (x ∷ xs) ys =
    let more = lines_of-append c xs ys in
    elim (eqb x.owner c) as (λ b. cond b (x.group ∷ lines_of c (xs ++ ys)) (lines_of c (xs ++ ys)) ≡ cond b (x.group ∷ lines_of c xs) (lines_of c xs) ++ lines_of c ys) [
      | true ↦ ap (λ ls. x.group ∷ ls) more
      | false ↦ more
    ]

pub lines_of-own : (c d : ℕ) (ls : List Group) → c ≡ d → lines_of d (own c ls) ≡ ls
lines_of-own c d [] e = refl
lines_of-own c d (l ∷ ls) e =
    ap (λ b. cond b (l ∷ lines_of d (own c ls)) (lines_of d (own c ls))) (eqb_same c d e) ∙ ap (λ xs. l ∷ xs) (lines_of-own c d ls e)

pub lines_of-other : (c d : ℕ) (ls : List Group) → (c ≡ d → ⊥) → lines_of d (own c ls) ≡ []
lines_of-other c d [] ne = refl
lines_of-other c d (l ∷ ls) ne =
    ap (λ b. cond b (l ∷ lines_of d (own c ls)) (lines_of d (own c ls))) (eqb_apart c d ne) ∙ lines_of-other c d ls ne

pub owned_text-append : (xs ys : List Owned) → owned_text (xs ++ ys) ≡ owned_text xs ++ owned_text ys
owned_text-append [] ys = refl
owned_text-append (x ∷ xs) ys = ap (λ t. text_of x.group ++ t) (owned_text-append xs ys) ∙ sym (append_assoc (text_of x.group) (owned_text xs) (owned_text ys))

pub owned_text-own : (c : ℕ) (ls : List Group) → owned_text (own c ls) ≡ groups_text ls
owned_text-own c [] = refl
owned_text-own c (l ∷ ls) = ap (λ t. text_of l ++ t) (owned_text-own c ls)

pub groups_text-append : (xs ys : List Group) → groups_text (xs ++ ys) ≡ groups_text xs ++ groups_text ys
groups_text-append [] ys = refl
groups_text-append (x ∷ xs) ys = ap (λ t. text_of x ++ t) (groups_text-append xs ys) ∙ sym (append_assoc (text_of x) (groups_text xs) (groups_text ys))

module _ (F : ℕ → Folder → List Group) where
  below : (d c : ℕ) (fs : List Folder) → d < c → lines_of d (gathered F c fs) ≡ []
  below d c [] lt = refl
  below d c (f ∷ fs) lt =
      lines_of-append d (own c (F c f)) (gathered F (suc c) fs)
      ∙ ap (λ xs. xs ++ lines_of d (gathered F (suc c) fs)) (lines_of-other c d (F c f) (λ e. absurd (omega arith)))
      ∙ below d (suc c) fs (omega arith)

  from : (d c j : ℕ) (fs : List Folder) → d ≡ c + j → lines_of d (gathered F c fs) ≡ given F d (slice_get fs j)
  from d c j [] e = refl
  from d c zero (f ∷ fs) e =
      let same : c ≡ d = omega arith in
      lines_of-append d (own c (F c f)) (gathered F (suc c) fs)
      ∙ ap (λ xs. xs ++ lines_of d (gathered F (suc c) fs)) (lines_of-own c d (F c f) same)
      ∙ ap (λ xs. F c f ++ xs) (below d (suc c) fs (omega arith))
      ∙ append-nil (F c f)
      ∙ ap (λ n. F n f) same
  from d c (suc j) (f ∷ fs) e =
      lines_of-append d (own c (F c f)) (gathered F (suc c) fs)
      ∙ ap (λ xs. xs ++ lines_of d (gathered F (suc c) fs)) (lines_of-other c d (F c f) (λ same. absurd (omega arith)))
      ∙ from d (suc c) j fs (omega arith)

  -- for each collection the list has what F gives
  pub lines_of-gathered : (d : ℕ) (b : List Folder) → lines_of d (gathered F 1 b) ≡ given F d (element_at b d)
  lines_of-gathered zero b = below 0 1 b (omega arith)
  lines_of-gathered (suc j) b = from (suc j) 1 j b (omega arith)
