-- Rows of groups, by their collections.
use Rattle.std.proofs.Common.{◌≡◌, ℕ, true, false, cond, eqb, List, [], ◌∷◌, ◌++◌, ap, ◌∙◌, sym, refl, subst}
use Rattle.std.specs.List.{AllByRecursion as Each}
use Rattle.std.proofs.lemmas.Bool.{eq-eqb, eqb-true}
use Rattle.census_format.specs.Lines.{Collection}
use Rattle.census_format.specs.Reports.{Owned, lines_of, section}
use Rattle.census_readback.specs.Shapes.{all_rows, rows_of}
use Rattle.census_readback.specs.Steps.{collection_of}
use Rattle.census_rows.specs.declared.row.Row.{Row}
use Rattle.census_merge.specs.Telling.{rows_in}
use Rattle.census_merge.proofs.Solid.{each-append}

-- each row of each group holds this in the group's collection
abbrev pub EachIn : (ℕ → Row → Type 0) → List Owned → Type 0
EachIn P groups = Each (λ (l : Owned). Each (P l.owner) l.group) groups

tail-each : (P : ℕ → Row → Type 0) (c : ℕ) (l : Owned) (ls : List Owned) → Each (Each (P c)) (lines_of c (l ∷ ls)) → Each (Each (P c)) (lines_of c ls)
tail-each P c l ls =
    elim (eqb l.owner c) as (λ v. Each (Each (P c)) (cond v (l.group ∷ lines_of c ls) (lines_of c ls)) → Each (Each (P c)) (lines_of c ls)) [ true ↦ λ h. h.1 | false ↦ λ h. h ]

-- what holds for the rows of each section holds for the rows of the groups
pub in-groups : (P : ℕ → Row → Type 0) (groups : List Owned) → ((c : ℕ) → Each (Each (P c)) (lines_of c groups)) → EachIn P groups
in-groups P [] h = tt
in-groups P (l ∷ ls) h =
    let own = subst (λ v. Each (Each (P l.owner)) (cond v (l.group ∷ lines_of l.owner ls) (lines_of l.owner ls))) (eq-eqb l.owner l.owner refl) (h l.owner) in
    (own.0, in-groups P ls (λ c. tail-each P c l ls (h c)))

pub each-then : {X : Type 0} (P Q : X → Type 0) → ((x : X) → P x → Q x) → (xs : List X) → Each P xs → Each Q xs
each-then P Q f [] h = tt
each-then P Q f (x ∷ xs) h = (f x h.0, each-then P Q f xs h.1)

pub in-rows : (P : ℕ → Row → Type 0) (Q : Row → Type 0) → ((c : ℕ) (row : Row) → P c row → Q row) → (groups : List Owned) → EachIn P groups → Each Q (rows_in groups)
in-rows P Q f [] h = tt
in-rows P Q f (l ∷ ls) h = each-append Q l.group (rows_in ls) (each-then (P l.owner) Q (f l.owner) l.group h.0) (in-rows P Q f ls h.1)

-- what holds for the rows of a bundle's sections holds for the rows of groups that are these sections
pub in-sections : (P : ℕ → Row → Type 0) (Q : Row → Type 0) → ((c : ℕ) (row : Row) → P c row → Q row) → (b : List Collection) (groups : List Owned)
    → ((c : ℕ) → lines_of c groups ≡ section b c) → ((c : ℕ) → Each (Each (P c)) (section b c)) → Each Q (rows_in groups)
in-sections P Q f b groups are h = in-rows P Q f groups (in-groups P groups (λ c. subst (Each (Each (P c))) (sym (are c)) (h c)))

abbrev pub IsIn : ℕ → Row → Type 0
IsIn c row = collection_of row ≡ c

rows-own : (c : ℕ) (rows rest : List Row) → Each (IsIn c) rows → rows_of c (rows ++ rest) ≡ rows ++ rows_of c rest
rows-own c [] rest h = refl
rows-own c (row ∷ rows) rest h =
    ap (λ b. cond b (row ∷ rows_of c (rows ++ rest)) (rows_of c (rows ++ rest))) (eq-eqb (collection_of row) c h.0)
    ∙ ap (λ w. row ∷ w) (rows-own c rows rest h.1)

rows-other : (o c : ℕ) (rows rest : List Row) → eqb o c ≡ false → Each (IsIn o) rows → rows_of c (rows ++ rest) ≡ rows_of c rest
rows-other o c [] rest apart h = refl
rows-other o c (row ∷ rows) rest apart h =
    ap (λ b. cond b (row ∷ rows_of c (rows ++ rest)) (rows_of c (rows ++ rest))) (ap (λ k. eqb k c) h.0 ∙ apart)
    ∙ rows-other o c rows rest apart h.1

-- the rows of a collection are those of its groups
pub rows-grouped : (c : ℕ) (groups : List Owned) → EachIn IsIn groups → rows_of c (rows_in groups) ≡ all_rows (lines_of c groups)
rows-grouped c [] h = refl
rows-grouped c (l ∷ ls) h =
    elim (eqb l.owner c) as (λ v. eqb l.owner c ≡ v → rows_of c (l.group ++ rows_in ls) ≡ all_rows (cond v (l.group ∷ lines_of c ls) (lines_of c ls))) [
      | true ↦ λ same.
          let here : Each (IsIn c) l.group = subst (λ k. Each (IsIn k) l.group) (eqb-true l.owner c same) h.0 in
          rows-own c l.group (rows_in ls) here ∙ ap (λ w. l.group ++ w) (rows-grouped c ls h.1)
      | false ↦ λ apart. rows-other l.owner c l.group (rows_in ls) apart h.0 ∙ rows-grouped c ls h.1
    ] refl
