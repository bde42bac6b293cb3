-- An object that is counted once more.
use Rattle.std.proofs.Common.{◌≡◌, ℕ, suc, ◌+◌, ◌<◌, ◌≤◌, true, false, cond, List, [], ◌∷◌, ◌++◌, ap, ◌∙◌, sym, refl, arith, Some, length, drop-cons, get_or, set, take, drop, append_assoc}
use Rattle.std.proofs.Math.Seq.{set-append_seam}
use Rattle.std.proofs.lemmas.List.{length-take-le, take-append-drop, take_all, take_more, drop_all}
use Rattle.std.specs.Map.{lookup}
use Rattle.std.specs.Option.{unwrap_or}
use Rattle.indexmap.specs.IndexMap.{insert_entry}
use Rattle.census_readback.specs.Counts.{Object, Sum, same_object, sum_with, with_more}

-- what a map keeps if the sum that it had is raised
pub counted-more : (es : List (Object × Sum)) (k : Object) (n : ℕ)
    → insert_entry same_object es k (sum_with (unwrap_or (lookup (same_object k) es) (Some 0)) n) ≡ with_more k n es
counted-more [] k n = refl
counted-more (e ∷ es) k n =
    elim (same_object k e.0) as (λ b. cond b ((e.0, sum_with (unwrap_or (cond b (Some e.1) (lookup (same_object k) es)) (Some 0)) n) ∷ es) (e ∷ insert_entry same_object es k (sum_with (unwrap_or (cond b (Some e.1) (lookup (same_object k) es)) (Some 0)) n)) ≡ cond b ((e.0, sum_with e.1 n) ∷ es) (e ∷ with_more k n es)) [
      | true ↦ refl
      | false ↦ ap (λ zs. e ∷ zs) (counted-more es k n)
    ]

-- none of the first ones of a list is the object
abbrev pub Passed : List (Object × Sum) → Object → ℕ → ℕ → Type 0
Passed es k n i = (rest : List (Object × Sum)) → with_more k n (es ++ rest) ≡ take i es ++ with_more k n (drop i es ++ rest)

pub passed-none : (es : List (Object × Sum)) (k : Object) (n : ℕ) → Passed es k n 0
passed-none es k n rest = refl

module _ (es : List (Object × Sum)) (k : Object) (n i : ℕ) (e : Object × Sum) (passed : Passed es k n i) (less : i < length es) (is : e ≡ get_or es i e) where
  ahead : drop i es ≡ e ∷ drop (i + 1) es
  ahead = (let next : suc i ≡ i + 1 = omega arith in drop-cons es i e less ∙ ap (λ x. x ∷ drop (suc i) es) (sym is) ∙ ap (λ j. e ∷ drop j es) next)

  -- the next one isn't
  pub passed-one : same_object k e.0 ≡ false → Passed es k n (i + 1)
  passed-one other rest =
      let here : with_more k n (e ∷ (drop (i + 1) es ++ rest)) ≡ e ∷ with_more k n (drop (i + 1) es ++ rest) =
      ap (λ b. cond b ((e.0, sum_with e.1 n) ∷ (drop (i + 1) es ++ rest)) (e ∷ with_more k n (drop (i + 1) es ++ rest))) other in
      let grown : take i es ++ (e ∷ []) ≡ take (i + 1) es = ap (λ x. take i es ++ (x ∷ [])) is ∙ sym (take_more es i e less) in
      passed rest ∙ ap (λ w. take i es ++ with_more k n (w ++ rest)) ahead ∙ ap (λ w. take i es ++ w) here
      ∙ sym (append_assoc (take i es) (e ∷ []) (with_more k n (drop (i + 1) es ++ rest))) ∙ ap (λ w. w ++ with_more k n (drop (i + 1) es ++ rest)) grown

  -- the next one is
  pub passed-to : same_object k e.0 ≡ true → (rest : List (Object × Sum)) → with_more k n (es ++ rest) ≡ set es i (e.0, sum_with e.1 n) ++ rest
  passed-to same rest =
      let here : with_more k n (e ∷ (drop (i + 1) es ++ rest)) ≡ (e.0, sum_with e.1 n) ∷ (drop (i + 1) es ++ rest) =
      ap (λ b. cond b ((e.0, sum_with e.1 n) ∷ (drop (i + 1) es ++ rest)) (e ∷ with_more k n (drop (i + 1) es ++ rest))) same in
      let size : length (take i es) ≡ i = length-take-le i es (omega arith) in
      let whole : take i es ++ (e ∷ drop (i + 1) es) ≡ es = ap (λ w. take i es ++ w) (sym ahead) ∙ take-append-drop i es in
      let put : take i es ++ ((e.0, sum_with e.1 n) ∷ drop (i + 1) es) ≡ set es i (e.0, sum_with e.1 n) =
      sym (ap (λ w. set w i (e.0, sum_with e.1 n)) (sym whole) ∙ ap (λ j. set (take i es ++ (e ∷ drop (i + 1) es)) j (e.0, sum_with e.1 n)) (sym size)
      ∙ set-append_seam (take i es) e (drop (i + 1) es) (e.0, sum_with e.1 n)) in
      passed rest ∙ ap (λ w. take i es ++ with_more k n (w ++ rest)) ahead ∙ ap (λ w. take i es ++ w) here
      ∙ sym (append_assoc (take i es) ((e.0, sum_with e.1 n) ∷ drop (i + 1) es) rest) ∙ ap (λ w. w ++ rest) put

-- none of them is
pub passed-all : (es : List (Object × Sum)) (k : Object) (n i : ℕ) → Passed es k n i → length es ≤ i → (rest : List (Object × Sum)) → with_more k n (es ++ rest) ≡ es ++ with_more k n rest
passed-all es k n i passed over rest =
    passed rest ∙ ap (λ w. w ++ with_more k n (drop i es ++ rest)) (take_all i es over) ∙ ap (λ w. es ++ with_more k n (w ++ rest)) (drop_all i es over)
