-- Lists of which one element is set.
use Rattle.std.proofs.Common.{◌≡◌, ◌≢◌, ℕ, ◌+◌, ◌<◌, List, length, get_or, set, get_or-set_other, get_or-set_same, sym, subst, below_more, arith}

pub set_here : {A : Type 0} (xs : List A) (i : ℕ) (v d : A) → i < length xs → get_or (set xs i v) i d ≡ v
set_here xs i v d inside = rw get_or-set_same

pub set_there : {A : Type 0} (xs : List A) (i k : ℕ) (v d : A) → k ≢ i → get_or (set xs i v) k d ≡ get_or xs k d
set_there xs i k v d apart = rw get_or-set_other

pub filled : {A : Type 0} (P : ℕ → A → Type 0) (xs : List A) (d : A) (i : ℕ) (v : A) → i < length xs →
    ((n : ℕ) → n < i → P n (get_or xs n d)) → P i v → (n : ℕ) → n < i + 1 → P n (get_or (set xs i v) n d)
filled P xs d i v inside below here =
    below_more (λ n. P n (get_or (set xs i v) n d)) i
    (λ n less. let apart : n ≢ i = omega arith in subst (P n) (sym (set_there xs i n v d apart)) (below n less))
    (subst (P i) (sym (set_here xs i v d inside)) here)
