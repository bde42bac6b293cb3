-- Numbers that are joined: each number of a list points to a smaller one, or is a root.
use Rattle.std.specs.Prelude.{◌≡◌, ◌⊎◌, ℕ, zero, suc, ◌<◌, ◌==◌, Bool, true, false, cond, leb, List, length, get_or}
use Rattle.std.specs.List.{sum}

-- the number that at most n steps lead to from k, each to a smaller number
abbrev pub root_within : ℕ → List ℕ → ℕ → ℕ
root_within zero forest k = k
root_within (suc n) forest k =
    cond (leb (suc (get_or forest k k)) k) (root_within n forest (get_or forest k k)) k

-- the root of k
abbrev pub root : List ℕ → ℕ → ℕ
root forest k = root_within k forest k

-- the root that a number with the root k has once high points to low
abbrev pub moved : ℕ → ℕ → ℕ → ℕ
moved high low k = cond (k == high) low k

-- k and l have the roots of one and of other
abbrev pub AreAs : List ℕ → ℕ → ℕ → ℕ → ℕ → Type 0
AreAs forest k l one other = (root forest k ≡ root forest one) × (root forest l ≡ root forest other)

-- A root points to a smaller one.
pub record IsPut (old new : List ℕ) (high low : ℕ) : Type 0 where
  pub lower : low < high
  pub goes : (k : ℕ) → root new k ≡ moved high low (root old k)

-- Two numbers are joined, and nothing is joined beyond what that requires.
pub record IsJoined (old new : List ℕ) (one other : ℕ) (is_new : Bool) : Type 0 where
  pub long : length new ≡ length old
  pub coarser : (k l : ℕ) → root old k ≡ root old l → root new k ≡ root new l
  pub both : root new one ≡ root new other
  pub only : (k l : ℕ) → root new k ≡ root new l →
      (root old k ≡ root old l) ⊎ (AreAs old k l one other ⊎ AreAs old k l other one)
  pub same : is_new ≡ false → new ≡ old
  pub less : is_new ≡ true → sum new < sum old
  pub put : is_new ≡ true → IsPut old new (root old one) (root old other) ⊎ IsPut old new (root old other) (root old one)
