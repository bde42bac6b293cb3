-- The groups of the collections that are closed, numbered on.
use Rattle.std.proofs.Common.{◌≡◌, ◌≢◌, ℕ, true, false, cond, eqb, ltb, List, [], ◌∷◌, ◌++◌, map, ap, ◌∙◌, sym, refl, arith, subst}
use Rattle.std.specs.List.{AllByRecursion as Each}
use Rattle.std.proofs.lemmas.Bool.{eq-eqb, eqb-false, eqb-true, ltb-false, ltb-true, ne_eqb}
use Rattle.census_merge.specs.Kept.{closed_to, is_closed, kept_of, numbered}
use Rattle.census_merge.proofs.Ranks.{number-less}
use Rattle.census_format.specs.Lines.{Group}
use Rattle.census_format.specs.Reports.{Owned, lines_of}
use Rattle.census_readback.specs.Steps.{collection_of}
use Rattle.census_rows.specs.declared.row.Row.{Row}
use Rattle.census_merge.specs.Telling.{rows_in}
use Rattle.census_merge.proofs.Grouped.{EachIn, IsIn}

-- ---- owners

tail-owner : (Q : ℕ → Type 0) (c : ℕ) (l : Owned) (ls : List Owned) → Each (λ (group : Group). Q c) (lines_of c (l ∷ ls)) → Each (λ (group : Group). Q c) (lines_of c ls)
tail-owner Q c l ls =
    elim (eqb l.owner c) as (λ v. Each (λ (group : Group). Q c) (cond v (l.group ∷ lines_of c ls) (lines_of c ls)) → Each (λ (group : Group). Q c) (lines_of c ls)) [ true ↦ λ h. h.1 | false ↦ λ h. h ]

-- what holds for each number that has lines holds for each owner
pub owners-in : (Q : ℕ → Type 0) (groups : List Owned) → ((c : ℕ) → Each (λ (group : Group). Q c) (lines_of c groups)) → Each (λ (l : Owned). Q l.owner) groups
owners-in Q [] h = tt
owners-in Q (l ∷ ls) h =
    let own = subst (λ v. Each (λ (group : Group). Q l.owner) (cond v (l.group ∷ lines_of l.owner ls) (lines_of l.owner ls))) (eq-eqb l.owner l.owner refl) (h l.owner) in
    (own.0, owners-in Q ls (λ c. tail-owner Q c l ls (h c)))

-- ---- groups that are kept

not-both : false ≡ true → ⊥
not-both e = absurd (cc)

abbrev owned : ℕ → Group → Owned
owned owner group = record { owner = owner; group = group }

module _ (all : List Row) where
  abbrev pub kept_groups : List Owned → List Owned
  kept_groups [] = []
  kept_groups (l ∷ ls) = cond (is_closed all l.owner) (owned (closed_to all l.owner) (map (numbered (closed_to all l.owner)) l.group) ∷ kept_groups ls) (kept_groups ls)

  pub kept-append : (xs ys : List Row) → kept_of all (xs ++ ys) ≡ kept_of all xs ++ kept_of all ys
  kept-append [] ys = refl
  kept-append (x ∷ xs) ys =
      let c = collection_of x in
      let here = numbered (closed_to all c) x in
      let more = kept-append xs ys in
      elim (is_closed all c) as (λ v. cond v (here ∷ kept_of all (xs ++ ys)) (kept_of all (xs ++ ys)) ≡ cond v (here ∷ kept_of all xs) (kept_of all xs) ++ kept_of all ys) [
        | true ↦ ap (λ rows. here ∷ rows) more
        | false ↦ more
      ]

  kept-own : (c : ℕ) (rows rest : List Row) → is_closed all c ≡ true → Each (IsIn c) rows → kept_of all (rows ++ rest) ≡ map (numbered (closed_to all c)) rows ++ kept_of all rest
  kept-own c [] rest e h = refl
  kept-own c (row ∷ rows) rest e h =
      let others = kept_of all (rows ++ rest) in
      ap (λ d. cond (is_closed all d) (numbered (closed_to all d) row ∷ others) others) h.0
      ∙ ap (λ v. cond v (numbered (closed_to all c) row ∷ others) others) e
      ∙ ap (λ w. numbered (closed_to all c) row ∷ w) (kept-own c rows rest e h.1)

  kept-other : (c : ℕ) (rows rest : List Row) → is_closed all c ≡ false → Each (IsIn c) rows → kept_of all (rows ++ rest) ≡ kept_of all rest
  kept-other c [] rest e h = refl
  kept-other c (row ∷ rows) rest e h =
      let others = kept_of all (rows ++ rest) in
      ap (λ d. cond (is_closed all d) (numbered (closed_to all d) row ∷ others) others) h.0
      ∙ ap (λ v. cond v (numbered (closed_to all c) row ∷ others) others) e
      ∙ kept-other c rows rest e h.1

  -- the rows that are kept are those of the groups that are
  pub kept-grouped : (groups : List Owned) → EachIn IsIn groups → kept_of all (rows_in groups) ≡ rows_in (kept_groups groups)
  kept-grouped [] h = refl
  kept-grouped (l ∷ ls) h =
      let here = owned (closed_to all l.owner) (map (numbered (closed_to all l.owner)) l.group) in
      elim (is_closed all l.owner) as (λ v. is_closed all l.owner ≡ v → kept_of all (l.group ++ rows_in ls) ≡ rows_in (cond v (here ∷ kept_groups ls) (kept_groups ls))) [
        | true ↦ λ e. kept-own l.owner l.group (rows_in ls) e h.0 ∙ ap (λ w. here.group ++ w) (kept-grouped ls h.1)
        | false ↦ λ e. kept-other l.owner l.group (rows_in ls) e h.0 ∙ kept-grouped ls h.1
      ] refl

  -- ---- their numbers

  number-apart : (c d : ℕ) → is_closed all c ≡ true → is_closed all d ≡ true → closed_to all c ≡ closed_to all d → c ≡ d
  number-apart c d h k same =
      elim (ltb c d) as (λ v. ltb c d ≡ v → c ≡ d) [
        | true ↦ λ e. absurd (let less = number-less all c d (ltb-true c d e) k in omega (arith, less, same))
        | false ↦ λ e. elim (ltb d c) as (λ v. ltb d c ≡ v → c ≡ d) [
          | true ↦ λ f. absurd (let less = number-less all d c (ltb-true d c f) h in omega (arith, less, same))
          | false ↦ λ f. (let a = ltb-false c d e in let b = ltb-false d c f in omega (arith, a, b))
        ] refl
      ] refl

  -- two collections that are closed have the same number only if they are one
  same-number : (c d : ℕ) → is_closed all c ≡ true → is_closed all d ≡ true → eqb (closed_to all c) (closed_to all d) ≡ eqb c d
  same-number c d h k =
      elim (eqb c d) as (λ v. eqb c d ≡ v → eqb (closed_to all c) (closed_to all d) ≡ v) [
        | true ↦ λ e. eq-eqb (closed_to all c) (closed_to all d) (ap (closed_to all) (eqb-true c d e))
        | false ↦ λ e. ne_eqb (closed_to all c) (closed_to all d) (λ same. eqb-false c d e (number-apart c d h k same))
      ] refl

  -- the lines of a collection that is closed, under its new number
  pub lines-kept : (c : ℕ) → is_closed all c ≡ true → (groups : List Owned) → lines_of (closed_to all c) (kept_groups groups) ≡ map (map (numbered (closed_to all c))) (lines_of c groups)
  lines-kept c k [] = refl
  lines-kept c k (l ∷ ls) =
      let n = closed_to all c in
      let o = l.owner in
      let rest = lines_of n (kept_groups ls) in
      let moves = map (map (numbered n)) in
      let here = owned (closed_to all o) (map (numbered (closed_to all o)) l.group) in
      elim (is_closed all o) as (λ v. is_closed all o ≡ v → lines_of n (cond v (here ∷ kept_groups ls) (kept_groups ls)) ≡ moves (lines_of c (l ∷ ls))) [
        | true ↦ λ e.
            ap (λ v. cond v (here.group ∷ rest) rest) (same-number o c e k)
            ∙ ap (λ gs. cond (eqb o c) (here.group ∷ gs) gs) (lines-kept c k ls)
            ∙ elim (eqb o c) as (λ v. eqb o c ≡ v → cond v (here.group ∷ moves (lines_of c ls)) (moves (lines_of c ls)) ≡ moves (cond v (l.group ∷ lines_of c ls) (lines_of c ls))) [
              | true ↦ λ same. ap (λ d. map (numbered (closed_to all d)) l.group ∷ moves (lines_of c ls)) (eqb-true o c same)
              | false ↦ λ apart. refl
            ] refl
        | false ↦ λ e.
            let apart : eqb o c ≡ false = ne_eqb o c (λ same. not-both (sym e ∙ ap (is_closed all) same ∙ k)) in
            lines-kept c k ls ∙ ap (λ v. moves (cond v (l.group ∷ lines_of c ls) (lines_of c ls))) (sym apart)
      ] refl

  -- no other number has lines
  pub lines-none : (n : ℕ) (groups : List Owned) → Each (λ (l : Owned). is_closed all l.owner ≡ true → closed_to all l.owner ≢ n) groups → lines_of n (kept_groups groups) ≡ []
  lines-none n [] h = refl
  lines-none n (l ∷ ls) h =
      let o = l.owner in
      let here = owned (closed_to all o) (map (numbered (closed_to all o)) l.group) in
      let rest = lines_of n (kept_groups ls) in
      elim (is_closed all o) as (λ v. is_closed all o ≡ v → lines_of n (cond v (here ∷ kept_groups ls) (kept_groups ls)) ≡ []) [
        | true ↦ λ e. ap (λ v. cond v (here.group ∷ rest) rest) (ne_eqb (closed_to all o) n (h.0 e)) ∙ lines-none n ls h.1
        | false ↦ λ e. lines-none n ls h.1
      ] refl
