-- What is counted one after another.
use Rattle.std.proofs.Common.{◌≡◌, ℕ, zero, suc, ◌+◌, ◌≤◌, Bool, true, false, cond, not, ◌||◌, List, [], ◌∷◌, ◌++◌, map, filter, Some, None, refl, sym, ap, ◌∙◌, arith, append_assoc, append-nil, zero-add, replicate}
use Rattle.std.proofs.lemmas.Bool.{false≢true}
use Rattle.std.proofs.lemmas.List.Sums.{sum_by-cons, sum_by_push}
use Rattle.std.specs.List.{list_any, count_by}
use Rattle.std.specs.Map.{lookup}
use Rattle.std.specs.Option.{unwrap_or}
use Rattle.indexmap.specs.IndexMap.{insert_entry}
use Rattle.life_answer.specs.declared.finding.Answer.{Answer}
use Rattle.life_answer.specs.declared.finding.Answer.TheVariants.{Found, Refused}
use Rattle.life_answer.specs.declared.finding.Finding.{Finding}
use Rattle.life_answer.specs.declared.finding.Outcome.{Outcome}
use Rattle.life_answer.specs.declared.finding.Outcome.TheVariants.{Recurs, Ash}
use Rattle.life_answer.specs.declared.part.Part.{Part}
use Rattle.std.specs.Prelude.{ℤ}
use Rattle.life_model.specs.Rule.{Rule}
use Rattle.census_format.specs.Objects.{Object, distinct_elements, tally, objects, outcome_objects, same_object}

pub count_first : {A : Type 0} (p : A → Bool) (x : A) (xs : List A) → count_by p (x ∷ xs) ≡ cond (p x) 1 0 + count_by p xs
count_first p x xs = sum_by-cons (λ y. cond (p y) 1 0) x xs

pub count_map : {A B : Type 0} (f : A → B) (p : B → Bool) (xs : List A) → count_by p (map f xs) ≡ count_by (λ x. p (f x)) xs
count_map f p [] = refl
count_map f p (x ∷ xs) = count_first p (f x) (map f xs) ∙ ap (λ n. cond (p (f x)) 1 0 + n) (count_map f p xs) ∙ sym (count_first (λ y. p (f y)) x xs)

filter_push : {A : Type 0} (p : A → Bool) (xs : List A) (x : A) → filter p (xs ++ x ∷ []) ≡ filter p xs ++ cond (p x) (x ∷ []) []
filter_push p [] x = refl
filter_push p (y ∷ ys) x =
    elim (p y) as (λ b. cond b (y ∷ filter p (ys ++ x ∷ [])) (filter p (ys ++ x ∷ [])) ≡ cond b (y ∷ filter p ys) (filter p ys) ++ cond (p x) (x ∷ []) []) [
      | true ↦ ap (λ zs. y ∷ zs) (filter_push p ys x)
      | false ↦ filter_push p ys x
    ]

module _ {A : Type 0} (same : A → A → Bool) (exact : (x y : A) → same x y ≡ true → x ≡ y) (own : (x : A) → same x x ≡ true) where
  swapped : (x y : A) → same x y ≡ same y x
  swapped x y =
      elim (same x y) as (λ b. same x y ≡ b → b ≡ same y x) [
        | true ↦ λ e. sym (ap (λ z. same y z) (exact x y e) ∙ own y)
        | false ↦ λ e. elim (same y x) as (λ b. same y x ≡ b → false ≡ b) [
          | true ↦ λ f. absurd (false≢true (sym e ∙ ap (λ z. same x z) (exact y x f) ∙ own x))
          | false ↦ λ _. refl
        ] refl
      ] refl

  any_filter : (k x : A) → same k x ≡ false → (ys : List A) → list_any (same k) (filter (λ y. not (same x y)) ys) ≡ list_any (same k) ys
  any_filter k x apart [] = refl
  any_filter k x apart (y ∷ ys) =
      let left = filter (λ z. not (same x z)) ys in
      elim (same x y) as (λ b. same x y ≡ b → list_any (same k) (cond (not b) (y ∷ left) left) ≡ (same k y || list_any (same k) ys)) [
        | true ↦ λ e. any_filter k x apart ys ∙ sym (ap (λ b. b || list_any (same k) ys) (ap (λ z. same k z) (sym (exact x y e)) ∙ apart))
        | false ↦ λ e. ap (λ b. same k y || b) (any_filter k x apart ys)
      ] refl

  pub any_distinct : (k : A) (xs : List A) → list_any (same k) (distinct_elements same xs) ≡ list_any (same k) xs
  any_distinct k [] = refl
  any_distinct k (x ∷ xs) =
      let left = filter (λ z. not (same x z)) (distinct_elements same xs) in
      elim (same k x) as (λ b. same k x ≡ b → (b || list_any (same k) left) ≡ (b || list_any (same k) xs)) [
        | true ↦ λ _. refl
        | false ↦ λ e. any_filter k x e (distinct_elements same xs) ∙ any_distinct k xs
      ] refl

  with_last : A → List A → List A → List A
  with_last k xs ds = cond (list_any (same k) xs) ds (ds ++ k ∷ [])

  -- one more at the end is one more, or is there already
  distinct_push : (k : A) (xs : List A) → distinct_elements same (xs ++ k ∷ []) ≡ cond (list_any (same k) xs) (distinct_elements same xs) (distinct_elements same xs ++ k ∷ [])
  distinct_push k [] = refl
  distinct_push k (x ∷ xs) =
      let p = λ (y : A). not (same x y) in
      let ds = distinct_elements same xs in
      let last : (b : Bool) → same k x ≡ b → x ∷ (filter p ds ++ cond (not (same x k)) (k ∷ []) []) ≡ cond (b || false) (x ∷ filter p ds) (x ∷ (filter p ds ++ k ∷ [])) = λ b e.
      ap (λ c. x ∷ (filter p ds ++ cond (not c) (k ∷ []) [])) (swapped x k ∙ e)
      ∙ elim b as (λ c. x ∷ (filter p ds ++ cond (not c) (k ∷ []) []) ≡ cond (c || false) (x ∷ filter p ds) (x ∷ (filter p ds ++ k ∷ []))) [ true ↦ ap (λ zs. x ∷ zs) (append-nil (filter p ds)) | false ↦ refl ] in
      ap (λ zs. x ∷ filter p zs) (distinct_push k xs)
      ∙ elim (list_any (same k) xs) as (λ a. x ∷ filter p (cond a ds (ds ++ k ∷ [])) ≡ cond (same k x || a) (x ∷ filter p ds) (x ∷ (filter p ds ++ k ∷ []))) [
        | true ↦ elim (same k x) as (λ b. x ∷ filter p ds ≡ cond (b || true) (x ∷ filter p ds) (x ∷ (filter p ds ++ k ∷ []))) [ true ↦ refl | false ↦ refl ]
        | false ↦ ap (λ zs. x ∷ zs) (filter_push p ds k) ∙ last (same k x) refl
      ]

  abbrev Each : (A → Type 0) → List A → Type 0
  Each P [] = Unit {0}
  Each P (x ∷ xs) = P x × Each P xs

  -- no two of these are the same
  abbrev Apart : List A → Type 0
  Apart [] = Unit {0}
  Apart (x ∷ xs) = Each (λ y. same x y ≡ false) xs × Apart xs

  each_filter : (P : A → Type 0) (q : A → Bool) (xs : List A) → Each P xs → Each P (filter q xs)
  each_filter P q [] h = h
  each_filter P q (x ∷ xs) h =
      elim (q x) as (λ b. Each P (cond b (x ∷ filter q xs) (filter q xs))) [ true ↦ (h.0, each_filter P q xs h.1) | false ↦ each_filter P q xs h.1 ]

  each_other : (x : A) (ys : List A) → Each (λ y. same x y ≡ false) (filter (λ y. not (same x y)) ys)
  each_other x [] = tt
  each_other x (y ∷ ys) =
      let left = filter (λ z. not (same x z)) ys in
      elim (same x y) as (λ b. same x y ≡ b → Each (λ z. same x z ≡ false) (cond (not b) (y ∷ left) left)) [ true ↦ λ e. each_other x ys | false ↦ λ e. (e, each_other x ys) ] refl

  apart_filter : (q : A → Bool) (xs : List A) → Apart xs → Apart (filter q xs)
  apart_filter q [] h = h
  apart_filter q (x ∷ xs) h =
      elim (q x) as (λ b. Apart (cond b (x ∷ filter q xs) (filter q xs))) [
        | true ↦ (each_filter (λ y. same x y ≡ false) q xs h.0, apart_filter q xs h.1)
        | false ↦ apart_filter q xs h.1
      ]

  apart_distinct : (xs : List A) → Apart (distinct_elements same xs)
  apart_distinct [] = tt
  apart_distinct (x ∷ xs) = (each_other x (distinct_elements same xs), apart_filter (λ y. not (same x y)) (distinct_elements same xs) (apart_distinct xs))

  maps_same : (g h : A → ℕ) (x : A) → ((y : A) → same x y ≡ false → h y ≡ g y) → (ys : List A) → Each (λ y. same x y ≡ false) ys → map {B = A × ℕ} (λ y. (y, g y)) ys ≡ map {B = A × ℕ} (λ y. (y, h y)) ys
  maps_same g h x other [] e = refl
  maps_same g h x other (y ∷ ys) e =
      ap (λ n. (y, n) ∷ map {B = A × ℕ} (λ z. (z, g z)) ys) (sym (other y e.0)) ∙ ap (λ zs. (y, h y) ∷ zs) (maps_same g h x other ys e.1)

  insert_counts : (g h : A → ℕ) (k : A) (v : ℕ) (ds : List A) → Apart ds → h k ≡ v → ((y : A) → same k y ≡ false → h y ≡ g y)
      → insert_entry same (map {B = A × ℕ} (λ y. (y, g y)) ds) k v ≡ map {B = A × ℕ} (λ y. (y, h y)) (cond (list_any (same k) ds) ds (ds ++ k ∷ []))
  insert_counts g h k v [] apart here other = ap (λ n. (k, n) ∷ []) (sym here)
  insert_counts g h k v (x ∷ xs) apart here other =
      let G = λ (ys : List A). map {B = A × ℕ} (λ y. (y, g y)) ys in
      let H = λ (ys : List A). map {B = A × ℕ} (λ y. (y, h y)) ys in
      elim (same k x) as (λ b. same k x ≡ b → cond b ((x, v) ∷ G xs) ((x, g x) ∷ insert_entry same (G xs) k v) ≡ H (cond (b || list_any (same k) xs) (x ∷ xs) (x ∷ (xs ++ k ∷ [])))) [
        | true ↦ λ e.
            let is : k ≡ x = exact k x e in
            ap (λ n. (x, n) ∷ G xs) (sym here ∙ ap h is) ∙ ap (λ zs. (x, h x) ∷ zs) (maps_same g h x (λ y apart'. other y (ap (λ z. same z y) is ∙ apart')) xs apart.0)
        | false ↦ λ e.
            ap (λ n. (x, n) ∷ insert_entry same (G xs) k v) (sym (other x e)) ∙ ap (λ zs. (x, h x) ∷ zs) (insert_counts g h k v xs apart.1 here other)
            ∙ elim (list_any (same k) xs) as (λ a. (x, h x) ∷ H (cond a xs (xs ++ k ∷ [])) ≡ H (cond a (x ∷ xs) (x ∷ (xs ++ k ∷ [])))) [ true ↦ refl | false ↦ refl ]
      ] refl

  -- one more, with its count raised by one
  pub tally_push : (xs : List A) (k : A) (v : ℕ) → v ≡ count_by (same k) xs + 1 → insert_entry same (tally same xs) k v ≡ tally same (xs ++ k ∷ [])
  tally_push xs k v is =
      let h = λ (y : A). count_by (same y) (xs ++ k ∷ []) in
      let H = λ (ys : List A). map {B = A × ℕ} (λ y. (y, h y)) ys in
      let ds = distinct_elements same xs in
      insert_counts (λ y. count_by (same y) xs) h k v ds (apart_distinct xs) (sum_by_push (λ x. cond (same k x) 1 0) xs k ∙ ap (λ b. count_by (same k) xs + cond b 1 0) (own k) ∙ sym is)
      (λ y apart. sum_by_push (λ x. cond (same y x) 1 0) xs k ∙ ap (λ b. count_by (same y) xs + cond b 1 0) (swapped y k ∙ apart) ∙ omega arith)
      ∙ ap (λ b. H (cond b ds (ds ++ k ∷ []))) (any_distinct k xs)
      ∙ ap H (sym (distinct_push k xs))

  insert_twice : (es : List (A × ℕ)) (k : A) (v w : ℕ) → insert_entry same (insert_entry same es k v) k w ≡ insert_entry same es k w
  insert_twice [] k v w = ap (λ b. cond b ((k, w) ∷ []) ((k, v) ∷ (k, w) ∷ [])) (own k)
  insert_twice (e ∷ es) k v w =
      elim (same k e.0) as (λ b. same k e.0 ≡ b → insert_entry same (cond b ((e.0, v) ∷ es) (e ∷ insert_entry same es k v)) k w ≡ cond b ((e.0, w) ∷ es) (e ∷ insert_entry same es k w)) [
        | true ↦ λ is. ap (λ b. cond b ((e.0, w) ∷ es) ((e.0, v) ∷ insert_entry same es k w)) is
        | false ↦ λ is. ap (λ b. cond b ((e.0, w) ∷ insert_entry same es k v) (e ∷ insert_entry same (insert_entry same es k v) k w)) is ∙ ap (λ zs. e ∷ zs) (insert_twice es k v w)
      ] refl

  tally_more : (n : ℕ) (xs : List A) (k : A) (v : ℕ) → v ≡ count_by (same k) xs + suc n → insert_entry same (tally same xs) k v ≡ tally same (xs ++ replicate (suc n) k)
  tally_more zero xs k v is = tally_push xs k v is
  tally_more (suc n) xs k v is =
      let w = count_by (same k) xs + 1 in
      let one : count_by (same k) (xs ++ k ∷ []) ≡ count_by (same k) xs + 1 = sum_by_push (λ x. cond (same k x) 1 0) xs k ∙ ap (λ b. count_by (same k) xs + cond b 1 0) (own k) in
      let left : v ≡ count_by (same k) (xs ++ k ∷ []) + suc n = omega arith in
      sym (insert_twice (tally same xs) k w v)
      ∙ ap (λ es. insert_entry same es k v) (tally_push xs k w refl)
      ∙ tally_more n (xs ++ k ∷ []) k v left
      ∙ ap (tally same) (append_assoc xs (k ∷ []) (replicate (suc n) k))

  -- n more, with their count raised by n
  pub tally_push_all : (xs : List A) (k : A) (n v : ℕ) → 1 ≤ n → v ≡ count_by (same k) xs + n → insert_entry same (tally same xs) k v ≡ tally same (xs ++ replicate n k)
  tally_push_all xs k zero v some is = absurd (omega arith)
  tally_push_all xs k (suc n) v some is = tally_more n xs k v is

  found : (g : A → ℕ) (k : A) (ds : List A) → lookup (same k) (map {B = A × ℕ} (λ y. (y, g y)) ds) ≡ cond (list_any (same k) ds) (Some (g k)) None
  found g k [] = refl
  found g k (x ∷ xs) =
      elim (same k x) as (λ b. same k x ≡ b → cond b (Some (g x)) (lookup (same k) (map {B = A × ℕ} (λ y. (y, g y)) xs)) ≡ cond (b || list_any (same k) xs) (Some (g k)) None) [
        | true ↦ λ e. ap (λ z. Some (g z)) (sym (exact k x e))
        | false ↦ λ e. found g k xs
      ] refl

  pub count_none : (k : A) (xs : List A) → list_any (same k) xs ≡ false → count_by (same k) xs ≡ 0
  count_none k [] none = refl
  count_none k (x ∷ xs) none =
      elim (same k x) as (λ b. same k x ≡ b → (b || list_any (same k) xs) ≡ false → count_by (same k) (x ∷ xs) ≡ 0) [
        | true ↦ λ _ no. absurd (false≢true (sym no))
        | false ↦ λ e no. count_first (same k) x xs ∙ ap (λ b. cond b 1 0 + count_by (same k) xs) e ∙ zero-add (count_by (same k) xs) ∙ count_none k xs no
      ] refl none

  -- the count that a look-up finds, 0 if it finds none
  pub lookup_tally : (k : A) (xs : List A) → unwrap_or (lookup (same k) (tally same xs)) 0 ≡ count_by (same k) xs
  lookup_tally k xs =
      ap (λ o. unwrap_or o 0) (found (λ y. count_by (same y) xs) k (distinct_elements same xs) ∙ ap (λ b. cond b (Some (count_by (same k) xs)) None) (any_distinct k xs))
      ∙ elim (list_any (same k) xs) as (λ b. list_any (same k) xs ≡ b → unwrap_or (cond b (Some (count_by (same k) xs)) None) 0 ≡ count_by (same k) xs) [
        | true ↦ λ _. refl
        | false ↦ λ none. sym (count_none k xs none)
      ] refl

  any_left : (x : A) (ys : List A) → list_any (same x) (filter (λ y. not (same x y)) ys) ≡ false
  any_left x [] = refl
  any_left x (y ∷ ys) =
      let left = filter (λ z. not (same x z)) ys in
      elim (same x y) as (λ b. same x y ≡ b → list_any (same x) (cond (not b) (y ∷ left) left) ≡ false) [ true ↦ λ e. any_left x ys | false ↦ λ e. ap (λ b. b || list_any (same x) left) e ∙ any_left x ys ] refl

  count_filter : (k x : A) → same k x ≡ false → (ys : List A) → count_by (same k) (filter (λ y. not (same x y)) ys) ≡ count_by (same k) ys
  count_filter k x apart [] = refl
  count_filter k x apart (y ∷ ys) =
      let left = filter (λ z. not (same x z)) ys in
      elim (same x y) as (λ b. same x y ≡ b → count_by (same k) (cond (not b) (y ∷ left) left) ≡ count_by (same k) (y ∷ ys)) [
        | true ↦ λ e.
            let other : same k y ≡ false = ap (λ z. same k z) (sym (exact x y e)) ∙ apart in
            count_filter k x apart ys ∙ sym (count_first (same k) y ys ∙ ap (λ b. cond b 1 0 + count_by (same k) ys) other ∙ zero-add (count_by (same k) ys))
        | false ↦ λ e. count_first (same k) y left ∙ ap (λ n. cond (same k y) 1 0 + n) (count_filter k x apart ys) ∙ sym (count_first (same k) y ys)
      ] refl

  -- what is among these is once among the distinct ones
  pub count_distinct : (k : A) (xs : List A) → list_any (same k) xs ≡ true → count_by (same k) (distinct_elements same xs) ≡ 1
  count_distinct k [] none = absurd (false≢true none)
  count_distinct k (x ∷ xs) some =
      let left = filter (λ z. not (same x z)) (distinct_elements same xs) in
      count_first (same k) x left
      ∙ elim (same k x) as (λ b. same k x ≡ b → (b || list_any (same k) xs) ≡ true → cond b 1 0 + count_by (same k) left ≡ 1) [
        | true ↦ λ e _.
            let none : list_any (same k) left ≡ false = ap (λ z. list_any (same z) left) (exact k x e) ∙ any_left x (distinct_elements same xs) in
            ap (λ n. 1 + n) (count_none k left none)
        | false ↦ λ e rest. zero-add (count_by (same k) left) ∙ count_filter k x e (distinct_elements same xs) ∙ count_distinct k xs rest
      ] refl some

pub objects-append : (xs ys : List Answer) → objects (xs ++ ys) ≡ objects xs ++ objects ys
objects-append [] ys = refl
objects-append (Found rule finding ∷ xs) ys =
    ap (λ ks. outcome_objects rule finding.outcome ++ ks) (objects-append xs ys)
    ∙ sym (append_assoc (outcome_objects rule finding.outcome) (objects xs) (objects ys))
objects-append (Refused number ∷ xs) ys = objects-append xs ys

-- an outcome of another kind has no objects
pub no_objects : (rule : Rule) (outcome : Outcome) → ((onset period : ℕ) (dx dy : ℤ) (code : List ℕ) → outcome ≡ Recurs onset period dx dy code → ⊥)
    → ((onset : ℕ) (parts : List Part) → outcome ≡ Ash onset parts → ⊥) → outcome_objects rule outcome ≡ []
no_objects rule (Recurs onset period dx dy code) comes falls = absurd (comes onset period dx dy code refl)
no_objects rule (Ash onset parts) comes falls = absurd (falls onset parts refl)
no_objects rule _ comes falls = refl

-- one more answer, which has no objects
pub none_more : (es : List (Object × ℕ)) (before : List Answer) (a : Answer) → objects (a ∷ []) ≡ [] → es ≡ tally same_object (objects before) → es ≡ tally same_object (objects (before ++ a ∷ []))
none_more es before a none is = is ∙ ap (tally same_object) (sym (objects-append before (a ∷ []) ∙ ap (λ ks. objects before ++ ks) none ∙ append-nil (objects before)))

-- one more answer, which has these objects
pub some_more : (before : List Answer) (a : Answer) (rule : Rule) (finding : Finding) (outcome : Outcome)
    → a ≡ Found rule finding → finding.outcome ≡ outcome
    → tally same_object (objects before ++ outcome_objects rule outcome) ≡ tally same_object (objects (before ++ a ∷ []))
some_more before a rule finding outcome is_found is =
    ap (λ o. tally same_object (objects before ++ outcome_objects rule o)) (sym is)
    ∙ ap (λ ks. tally same_object (objects before ++ ks)) (sym (append-nil (outcome_objects rule finding.outcome)))
    ∙ ap (λ x. tally same_object (objects before ++ objects (x ∷ []))) (sym is_found)
    ∙ ap (tally same_object) (sym (objects-append before (a ∷ [])))
