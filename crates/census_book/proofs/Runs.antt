-- How long a collection's run is.
use Rattle.std.proofs.Common.{◌≡◌, ℕ, zero, suc, ◌+◌, ◌<◌, ◌≤◌, Bool, true, false, cond, List, [], ◌∷◌, length, refl, sym, ap, subst, ◌∙◌, arith}
use Rattle.census_bundle.specs.declared.bundle.Entry.{Entry}
use Rattle.census_format.specs.Reports.{run_from}

pub run_within : (p : ℕ → Bool) (i : ℕ) (es : List Entry) → run_from p i es ≤ length es
run_within p i [] = omega arith
run_within p i (e ∷ es) =
    let more = run_within p (suc i) es in
    elim (p i) as (λ b. cond b (suc (run_from p (suc i) es)) 0 ≤ suc (length es)) [ true ↦ omega arith | false ↦ omega arith ]

-- if more pass, the run is no shorter
pub run_grows : (p q : ℕ → Bool) → ((j : ℕ) → p j ≡ true → q j ≡ true) → (i : ℕ) (es : List Entry) → run_from p i es ≤ run_from q i es
run_grows p q more i [] = omega arith
run_grows p q more i (e ∷ es) =
    let rest = run_grows p q more (suc i) es in
    elim (p i) as (λ b. p i ≡ b → cond b (suc (run_from p (suc i) es)) 0 ≤ cond (q i) (suc (run_from q (suc i) es)) 0) [
      | true ↦ λ is. subst (λ b. suc (run_from p (suc i) es) ≤ cond b (suc (run_from q (suc i) es)) 0) (sym (more i is)) (omega arith)
      | false ↦ λ is. omega arith
    ] refl

-- if the same pass, the run is the same
pub run_same : (p q : ℕ → Bool) → ((j : ℕ) → p j ≡ q j) → (i : ℕ) (es : List Entry) → run_from p i es ≡ run_from q i es
run_same p q same i [] = refl
run_same p q same i (e ∷ es) =
    ap (λ b. cond b (suc (run_from p (suc i) es)) 0) (same i) ∙ ap (λ n. cond (q i) (suc n) 0) (run_same p q same (suc i) es)

-- if the run is whole, each passes
pub run_whole : (p : ℕ → Bool) (i : ℕ) (es : List Entry) → run_from p i es ≡ length es → (k : ℕ) → k < length es → p (i + k) ≡ true
run_whole p i [] is k to = absurd (omega arith)
run_whole p i (e ∷ es) is zero to =
    elim (p i) as (λ b. p i ≡ b → cond b (suc (run_from p (suc i) es)) 0 ≡ suc (length es) → p (i + zero) ≡ true) [
      | true ↦ λ here whole. subst (λ n. p n ≡ true) (omega arith) here
      | false ↦ λ here none. absurd (omega arith)
    ] refl is
run_whole p i (e ∷ es) is (suc k) to =
    elim (p i) as (λ b. cond b (suc (run_from p (suc i) es)) 0 ≡ suc (length es) → p (i + suc k) ≡ true) [
      | true ↦ λ whole. subst (λ n. p n ≡ true) (omega arith) (run_whole p (suc i) es (omega arith) k (omega arith))
      | false ↦ λ none. absurd (omega arith)
    ] is

-- if each passes, the run is whole
pub run_all : (p : ℕ → Bool) (i : ℕ) (es : List Entry) → ((k : ℕ) → k < length es → p (i + k) ≡ true) → run_from p i es ≡ length es
run_all p i [] each = refl
run_all p i (e ∷ es) each =
    ap (λ b. cond b (suc (run_from p (suc i) es)) 0) (subst (λ n. p n ≡ true) (omega arith) (each 0 (omega arith)))
    ∙ ap suc (run_all p (suc i) es (λ k to. subst (λ n. p n ≡ true) (omega arith) (each (suc k) (omega arith))))

-- if the first k pass, and the next does not, the run is k
pub run_stops : (p : ℕ → Bool) (i : ℕ) (es : List Entry) (k : ℕ) → k < length es → ((j : ℕ) → j < k → p (i + j) ≡ true) → p (i + k) ≡ false → run_from p i es ≡ k
run_stops p i [] k lt each stop = absurd (omega arith)
run_stops p i (e ∷ es) zero lt each stop =
    let here : p i ≡ false = subst (λ n. p n ≡ false) (omega arith) stop in
    ap (λ b. cond b (suc (run_from p (suc i) es)) 0) here
run_stops p i (e ∷ es) (suc k) lt each stop =
    let here : p i ≡ true = subst (λ n. p n ≡ true) (omega arith) (each 0 (omega arith)) in
    ap (λ b. cond b (suc (run_from p (suc i) es)) 0) here
    ∙ ap suc (run_stops p (suc i) es k (omega arith) (λ j to. subst (λ n. p n ≡ true) (omega arith) (each (suc j) (omega arith))) (subst (λ n. p n ≡ false) (omega arith) stop))

-- the pattern after the run does not pass
pub run_end : (p : ℕ → Bool) (i : ℕ) (es : List Entry) → run_from p i es < length es → p (i + run_from p i es) ≡ false
run_end p i [] lt = absurd (omega arith)
run_end p i (e ∷ es) lt =
    elim (p i) as (λ b. p i ≡ b → cond b (suc (run_from p (suc i) es)) 0 < suc (length es) → p (i + cond b (suc (run_from p (suc i) es)) 0) ≡ false) [
      | true ↦ λ here lt. subst (λ n. p n ≡ false) (omega arith) (run_end p (suc i) es (omega arith))
      | false ↦ λ here lt. subst (λ n. p n ≡ false) (omega arith) here
    ] refl lt

-- each pattern of the run passes
pub run_before : (p : ℕ → Bool) (i : ℕ) (es : List Entry) (j : ℕ) → j < run_from p i es → p (i + j) ≡ true
run_before p i [] j lt = absurd (omega arith)
run_before p i (e ∷ es) zero lt =
    elim (p i) as (λ b. p i ≡ b → 0 < cond b (suc (run_from p (suc i) es)) 0 → p (i + zero) ≡ true) [
      | true ↦ λ here lt. subst (λ n. p n ≡ true) (omega arith) here
      | false ↦ λ here lt. absurd (omega arith)
    ] refl lt
run_before p i (e ∷ es) (suc j) lt =
    elim (p i) as (λ b. suc j < cond b (suc (run_from p (suc i) es)) 0 → p (i + suc j) ≡ true) [
      | true ↦ λ lt. subst (λ n. p n ≡ true) (omega arith) (run_before p (suc i) es j (omega arith))
      | false ↦ λ lt. absurd (omega arith)
    ] lt
