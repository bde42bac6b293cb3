-- A loop that fills two lists from their fronts.
use Rattle.std.proofs.Common.{◌≡◌, ◌≢◌, ℕ, ◌+◌, ◌<◌, List, length, get_or, set, get_or-set_other, get_or-set_same, sym, subst, arith, below_more}

pub both_filled_more : (P : ℕ → ℕ → ℕ → Type 0) (xs ys : List ℕ) (i v w : ℕ) → i < length xs → i < length ys →
    ((n : ℕ) → n < i → P n (get_or xs n 0) (get_or ys n 0)) → P i v w →
    (n : ℕ) → n < i + 1 → P n (get_or (set xs i v) n 0) (get_or (set ys i w) n 0)
both_filled_more P xs ys i v w inside_x inside_y below here =
    below_more (λ n. P n (get_or (set xs i v) n 0) (get_or (set ys i w) n 0)) i
    (λ n less.
    let apart : n ≢ i = omega arith in
    let same_x : get_or (set xs i v) n 0 ≡ get_or xs n 0 = rw get_or-set_other in
    let same_y : get_or (set ys i w) n 0 ≡ get_or ys n 0 = rw get_or-set_other in
    subst (λ a. P n a (get_or (set ys i w) n 0)) (sym same_x) (subst (λ b. P n (get_or xs n 0) b) (sym same_y) (below n less)))
    (let same_x : get_or (set xs i v) i 0 ≡ v = rw get_or-set_same in
    let same_y : get_or (set ys i w) i 0 ≡ w = rw get_or-set_same in
    subst (λ a. P i a (get_or (set ys i w) i 0)) (sym same_x) (subst (λ b. P i v b) (sym same_y) here))
