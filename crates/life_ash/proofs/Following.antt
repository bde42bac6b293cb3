-- Orbits that are found one by one, each for a set, and looked at one by one.
use Rattle.std.proofs.Common.{◌≡◌, ℕ, ◌+◌, ◌<◌, ◌≤◌, List, [], ◌∷◌, ◌++◌, ◌↔◌, length, get_or, inl, inr}
use Rattle.std.proofs.Common.{sym, ap, subst, ◌∙◌, arith}
use Rattle.std.specs.List.{All, AllPairs, Contains}
use Rattle.std.proofs.lemmas.Bool.{cases_lt}
use Rattle.std.proofs.lemmas.List.{get_or_append_left, get_or_default, length-append}
use Rattle.std.proofs.lemmas.List.Elements.{All-contains_itself, All-filter, All-map, All-weaker}
use Rattle.std.proofs.lemmas.List.Kept.{AllPairs-cons}
use Rattle.life_model.specs.Rule.{Rule}
use Rattle.life_model.specs.Generation.{Generation, cells, contains}
use Rattle.life_model.specs.Evolution.{generation}
use Rattle.life_cells.specs.Limits.{IsWithin}
use Rattle.life_objects.specs.Union.{generations, union_of}
use Rattle.life_objects.proofs.Lists.{AllPairs-tail}
use Rattle.life_objects.proofs.Members.{in_list_now}
use Rattle.life_orbit.specs.Course.{Course}
use Rattle.life_orbit.proofs.Walking.{get_or-last}
use Rattle.life_ash.specs.Living.{has_cells}
use Rattle.life_ash.specs.Parts.{IsOnlyOne}
use Rattle.life_cells.proofs.Places.{generation_within, itself_within, subset_within}
use Rattle.life_ash.proofs.Survivors.{ends}

-- each orbit is the only one for its set, with one orbit more for the next set
pub only_more : (R : Rule) (b ago : ℕ) (Qs : List Generation) (os : List Course) (o : Course) →
    ((k : ℕ) (e : Course) (d : Generation) → k < length os → IsOnlyOne R b ago (get_or Qs k d) (get_or os k e)) →
    ((d : Generation) → IsOnlyOne R b ago (get_or Qs (length os) d) o) → (k : ℕ) (e : Course) (d : Generation) →
    k < length os + 1 → IsOnlyOne R b ago (get_or Qs k d) (get_or (os ++ o ∷ []) k e)
only_more R b ago Qs os o so_far here k e d h =
    elim (cases_lt k (length os)) [
      | inl before ↦ subst (IsOnlyOne R b ago (get_or Qs k d)) (sym (get_or_append_left os (o ∷ []) e k before)) (so_far k e d before)
      | inr after ↦
          let last : k ≡ length os = omega arith in
          subst (IsOnlyOne R b ago (get_or Qs k d)) (sym (get_or-last os o e k last))
          (subst (λ n. IsOnlyOne R b ago (get_or Qs n d) o) (sym last) (here d))
    ]

-- each orbit is the only one for its set, where the list has grown by the orbit of the next set
pub only_next : (R : Rule) (b ago : ℕ) (Qs : List Generation) (os ps : List Course) (o : Course) (Q : Generation) (i : ℕ) →
    length os ≡ i → i < length Qs → Q ≡ get_or Qs i Q → ps ≡ os ++ o ∷ [] →
    ((k : ℕ) (e : Course) (d : Generation) → k < length os → IsOnlyOne R b ago (get_or Qs k d) (get_or os k e)) →
    IsOnlyOne R b ago Q o → (k : ℕ) (e : Course) (d : Generation) → k < length ps →
    IsOnlyOne R b ago (get_or Qs k d) (get_or ps k e)
only_next R b ago Qs os ps o Q i count below is grown so_far here k e d h =
    let long : length (os ++ o ∷ []) ≡ length os + 1 = length-append os (o ∷ []) in
    let same : length ps ≡ length (os ++ o ∷ []) = ap length grown in
    subst (λ xs. IsOnlyOne R b ago (get_or Qs k d) (get_or xs k e)) (sym grown)
    (only_more R b ago Qs os o so_far
    (λ f. subst (λ S. IsOnlyOne R b ago S o)
    (is ∙ get_or_default Qs i Q f below ∙ ap (λ n. get_or Qs n f) (sym count)) here) k e d (omega arith))

-- of a list whose first element is related to each of the rest, any two are related where any two of the rest are
pub rest_decides : {X : Type 0} (S : X → X → Type 0) (x : X) (xs : List X) → All (S x) xs →
    AllPairs S xs ↔ AllPairs S (x ∷ xs)
rest_decides S x xs first = (AllPairs-cons S x xs first, AllPairs-tail S x xs)

-- what becomes of the sets of a union stands where what becomes of their union may
pub ends_within : (R : Rule) (a b n : ℕ) (G : Generation) (Ls : List Generation) → union_of Ls ≡ G → a + b ≤ n →
    All (IsWithin a) (cells G) → All (λ Q. All (IsWithin n) (cells Q)) (ends R b Ls)
ends_within R a b n G Ls whole le placed =
    All-filter has_cells (λ Q. All (IsWithin n) (cells Q)) (generations R Ls b)
    (All-map (λ Q. All (IsWithin n) (cells Q)) (λ L. generation R L b) Ls
    (All-weaker (Contains Ls) (λ L. All (IsWithin n) (cells (generation R L b)))
    (λ L one.
    itself_within (a + b) n le (generation R L b)
    (generation_within R a L
    (subset_within a a (omega arith) L G
    (λ c h. ap (λ H. contains H c) (sym whole) ∙ in_list_now R Ls L c one h) placed) b))
    Ls (All-contains_itself Ls)))
