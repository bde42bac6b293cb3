-- Each element of a list, and steps of which none fails.
use Rattle.std.proofs.Common.{◌≡◌, ◌++◌, List, [], ◌∷◌, Bool, true, false, ◌||◌, Some, refl, subst, true≢false}
use Rattle.std.specs.Prelude.{if◌then◌else◌}
use Rattle.std.specs.List.{find}
use Rattle.std.proofs.lemmas.Bool.{or_parts}
use Rattle.clap.specs.Kinds.{Kinds, or_else}
use Rattle.clap.specs.declared.error.kind.ErrorKind.{ErrorKind}

abbrev pub Each : {X : Type 0} → (X → Type 0) → List X → Type 0
Each P [] = Unit {0}
Each P (x ∷ xs) = P x × Each P xs

pub Each-append : {X : Type 0} (P : X → Type 0) (xs ys : List X) → Each P xs → Each P ys → Each P (xs ++ ys)
Each-append P [] ys h k = k
Each-append P (x ∷ xs) ys h k = (h.0, Each-append P xs ys h.1 k)

-- what is found is an element, and passes the test
pub found_of_each : {X : Type 0} (P : X → Type 0) (p : X → Bool) (xs : List X) (x : X) → Each P xs → find p xs ≡ Some x → P x × (p x ≡ true)
found_of_each P p [] x h e = cc
found_of_each {X} P p (y ∷ ys) x h e = go (p y) refl (λ later. found_of_each P p ys x h.1 later) e
  where
    go : (b : Bool) → p y ≡ b → (find p ys ≡ Some x → P x × (p x ≡ true)) → (if b then Some y else find p ys) ≡ Some x → P x × (p x ≡ true)
    go true is later e = let same : y ≡ x = cc in (subst P same h.0, subst (λ (z : X). p z ≡ true) same is)
    go false is later e = later e

-- no list of text is both empty and not
pub not_cons : {X : Type 0} {A : Type 0} (x : X) (xs : List X) → x ∷ xs ≡ [] → A
not_cons x xs e = cc

-- of two steps that don't fail neither does
pub neither_fails : (a b : Kinds) → or_else a b ≡ [] → (a ≡ []) × (b ≡ [])
neither_fails [] b e = (refl, e)
neither_fails (k ∷ ks) b e = not_cons k ks e

-- a test that would fail is false
pub test_is_false : (b : Bool) (k : ErrorKind) (ks rest : Kinds) → (if b then k ∷ ks else rest) ≡ [] → (b ≡ false) × (rest ≡ [])
test_is_false true k ks rest e = not_cons k ks e
test_is_false false k ks rest e = (refl, e)
