-- Sets of joined cells as lists.
use Rattle.std.proofs.Common.{◌≡◌, ◌≢◌, ℕ, ◌+◌, ◌<◌, ◌≤◌, ◌==◌, Bool, true, false, cond, T, List, [], ◌∷◌, ◌++◌, length, length-set, get_or, map, set, take, replicate, filter, inl, inr, sym, refl, ap, subst, ◌∙◌, arith, eqb-true, eq-eqb, true≢false}
use Rattle.std.specs.List.{All, AllPairs, Contains, list_any, range_with_len}
use Rattle.std.specs.declared.vec.Vec.{Vec}
use Rattle.std.proofs.lemmas.Bool.{cases_eq, false_from_ne_true, or_left}
use Rattle.std.proofs.lemmas.Grind.{get_or-set_at}
use Rattle.std.proofs.lemmas.List.{append-nil, get_or-map, get_or-set_other, length-map, map-append, same_lists}
use Rattle.std.proofs.lemmas.List.Elements.{All-cons, All-contains, All-filter, All-nil, Contains-get_or, filter_more}
use Rattle.std.proofs.lemmas.List.FromFn.{get_or-map-range_with_len, get_or-range_with_len, length-map-range_with_len, length-range_with_len}
use Rattle.std.proofs.lemmas.List.Kept.{AllPairs-cons, IsStrictlySortedBy-filter}
use Rattle.life_model.specs.Cell.{Cell, cell_cmp, origin, same_cell}
use Rattle.life_model.specs.Generation.{Generation, cells, contains, empty, from_list, is_rising}
use Rattle.life_model.proofs.Cells.{same_cell-is}
use Rattle.life_model.proofs.Generations.{cells-from_list, contains-empty, contains-from_list, same_members}
use Rattle.life_cells.specs.Limits.{IsPlace}
use Rattle.life_cells.proofs.Sorted.{rising_from_sorted, sorted_from_rising}
use Rattle.life_objects.specs.Apart.{AreDisjoint}
use Rattle.life_objects.specs.Union.{union, union_of}
use Rattle.life_objects.proofs.Lists.{AllPairs-head, AllPairs-nil, AllPairs-tail, Contains-head, Contains-later, head_or_later}
use Rattle.life_objects.proofs.Unions.{in_empty, union-comm, union-empty}
use Rattle.life_classes.specs.Grouped.{lists_of}
use Rattle.life_classes.proofs.Grouping.{none_of_any}
use Rattle.life_classes.proofs.Kept.{from_list-filter}
use Rattle.life_classes.specs.Forest.{root}
use Rattle.life_islands.specs.Collected.{by_roots, of_root, some_of}
use Rattle.life_islands.specs.Labels.{AreThoseWithCells, joined_sets, label_of}
use Rattle.life_islands.proofs.Labelled.{label-at, length-sets, of_set, set_at}

-- ---- by roots

pub none_by_roots : (cs : List Cell) (forest : List ℕ) → replicate (length cs) [] ≡ by_roots cs forest []
none_by_roots cs forest = sym (none_of_any (λ k. of_root cs forest k []) (λ k. refl) 0 (length cs))

pub length-by_roots : (cs : List Cell) (forest : List ℕ) (ds : List Cell) → length (by_roots cs forest ds) ≡ length cs
length-by_roots cs forest ds = length-map-range_with_len (λ k. of_root cs forest k ds) 0 (length cs)

pub as_many_lists : {A : Type 0} (lists : List (Vec Cell A)) (cs : List Cell) (forest : List ℕ) (ds : List Cell) →
    lists_of lists ≡ by_roots cs forest ds → length lists ≡ length cs
as_many_lists lists cs forest ds are =
    sym (length-map lists (λ list. list.items)) ∙ ap length are ∙ length-by_roots cs forest ds

by_roots-at : (cs : List Cell) (forest : List ℕ) (ds : List Cell) (k : ℕ) (d : List Cell) → k < length cs →
    get_or (by_roots cs forest ds) k d ≡ of_root cs forest k ds
by_roots-at cs forest ds k d h = get_or-map-range_with_len (λ k. of_root cs forest k ds) 0 (length cs) k k d h (omega arith)

-- the label of a cell is its place
place_as_label : (cs : List Cell) (n : ℕ) → T (is_rising cs) → n < length cs →
    label_of cs (range_with_len 0 (length cs)) (get_or cs n origin) ≡ n
place_as_label cs n rising h =
    let G = from_list cs in
    let is : cells G ≡ cs = cells-from_list cs rising in
    subst (λ xs. label_of xs (range_with_len 0 (length xs)) (get_or xs n origin) ≡ get_or (range_with_len 0 (length xs)) n 0) is
    (label-at G (range_with_len 0 (length (cells G))) [] (length-range_with_len 0 (length (cells G))) n origin
    (subst (λ xs. n < length xs) (sym is) h))
    ∙ get_or-range_with_len 0 (length cs) n 0 h ∙ (let e : 0 + n ≡ n = omega arith in e)

with_cond : (b : Bool) (xs : List Cell) (c : Cell) → b ≡ true → xs ++ (c ∷ []) ≡ xs ++ cond b (c ∷ []) []
with_cond b xs c is = ap (λ q. xs ++ cond q (c ∷ []) []) (sym is)

without_cond : (b : Bool) (xs : List Cell) (c : Cell) → b ≡ false → xs ≡ xs ++ cond b (c ∷ []) []
without_cond b xs c is = sym (append-nil xs) ∙ ap (λ q. xs ++ cond q (c ∷ []) []) (sym is)

-- one cell more in the list of its root
pub one_more_by_root : (cs : List Cell) (forest : List ℕ) (n r : ℕ) (old new : List (List Cell)) → T (is_rising cs) →
    n < length cs → r ≡ root forest n → r ≤ n → old ≡ by_roots cs forest (take n cs) →
    new ≡ set old r (get_or old r [] ++ (get_or cs n origin ∷ [])) → new ≡ by_roots cs forest (take (n + 1) cs)
one_more_by_root cs forest n r old new rising h its less before after =
    let c = get_or cs n origin in
    let x = get_or old r [] ++ (c ∷ []) in
    let mark : ℕ = root forest (label_of cs (range_with_len 0 (length cs)) c) in
    let marked : mark ≡ r = ap (root forest) (place_as_label cs n rising h) ∙ sym its in
    let old_long : length old ≡ length cs = ap length before ∙ length-by_roots cs forest (take n cs) in
    let long : length new ≡ length cs = ap length after ∙ length-set old r x ∙ old_long in
    let within : r < length old = omega arith in
    let inside : r < length cs = omega arith in
    let more : (k : ℕ) → of_root cs forest k (take (n + 1) cs) ≡ of_root cs forest k (take n cs) ++ cond (mark == k) (c ∷ []) [] =
    λ k. filter_more (λ e. root forest (label_of cs (range_with_len 0 (length cs)) e) == k) cs n origin h in
    same_lists new (by_roots cs forest (take (n + 1) cs)) (long ∙ sym (length-by_roots cs forest (take (n + 1) cs))) (λ k d l.
    let here : k < length cs = omega arith in
    elim (cases_eq k r) [
      | inl same ↦
          ap (λ w. get_or w k d) after ∙ get_or-set_at old r k x d same within
          ∙ ap (λ w. w ++ (c ∷ [])) (ap (λ w. get_or w r []) before ∙ by_roots-at cs forest (take n cs) r [] inside)
          ∙ with_cond (mark == r) (of_root cs forest r (take n cs)) c (eq-eqb mark r marked)
          ∙ sym (more r) ∙ ap (λ j. of_root cs forest j (take (n + 1) cs)) (sym same)
          ∙ sym (by_roots-at cs forest (take (n + 1) cs) k d here)
      | inr other ↦
          ap (λ w. get_or w k d) after ∙ get_or-set_other old r k x d other
          ∙ ap (λ w. get_or w k d) before ∙ by_roots-at cs forest (take n cs) k d here
          ∙ without_cond (mark == k) (of_root cs forest k (take n cs)) c
          (false_from_ne_true (mark == k) (λ t. other (sym (eqb-true mark k t) ∙ marked)))
          ∙ sym (more k) ∙ sym (by_roots-at cs forest (take (n + 1) cs) k d here)
    ])

-- what holds of each part of the cells holds of the lists
each_by_root : {A : Type 0} (B : List Cell → Type 0) (lists : List (Vec Cell A)) (cs : List Cell) (forest : List ℕ) →
    lists_of lists ≡ by_roots cs forest cs → ((p : Cell → Bool) → B (filter p cs)) → All (λ (list : Vec Cell A). B list.items) lists
each_by_root B lists cs forest are part k d h =
    let long = as_many_lists lists cs forest cs are in
    subst B
    (sym (by_roots-at cs forest cs k d.items (omega arith)) ∙ ap (λ w. get_or w k d.items) (sym are)
    ∙ get_or-map (λ list. list.items) lists k d d.items h)
    (part (λ c. root forest (label_of cs (range_with_len 0 (length cs)) c) == k))

pub each_rises : {A : Type 0} (lists : List (Vec Cell A)) (cs : List Cell) (forest : List ℕ) →
    lists_of lists ≡ by_roots cs forest cs → T (is_rising cs) → All (λ (list : Vec Cell A). T (is_rising list.items)) lists
each_rises lists cs forest are rising =
    each_by_root (λ ds. T (is_rising ds)) lists cs forest are (λ p. rising_from_sorted (filter p cs) (IsStrictlySortedBy-filter cell_cmp p cs (sorted_from_rising cs rising)))

pub each_in_place : {A : Type 0} (lists : List (Vec Cell A)) (cs : List Cell) (forest : List ℕ) →
    lists_of lists ≡ by_roots cs forest cs → All IsPlace cs → All (λ (list : Vec Cell A). All IsPlace list.items) lists
each_in_place lists cs forest are placed =
    each_by_root (All IsPlace) lists cs forest are (λ p. All-filter p IsPlace cs placed)

-- ---- the lists that have a cell

pub filled : (n : ℕ) (b : Bool) → b ≡ (n == 0) → b ≡ false → 0 < n
filled n b e h = elim (cases_eq n 0) [
  | inl none ↦ absurd (true≢false (sym (e ∙ eq-eqb n 0 none) ∙ h))
  | inr other ↦ omega arith
]

pub unfilled : (n : ℕ) (b : Bool) → b ≡ (n == 0) → b ≡ true → n ≡ 0
unfilled n b e h = eqb-true n 0 (sym e ∙ h)

some_more : (ls : List (List Cell)) (l : List Cell) → some_of (ls ++ (l ∷ [])) ≡ some_of ls ++ some_of (l ∷ [])
some_more [] l = refl
some_more ([] ∷ ls) l = some_more ls l
some_more ((c ∷ cs) ∷ ls) l = ap (λ (w : List Generation). from_list (c ∷ cs) ∷ w) (some_more ls l)

pub none_passed_over : {A : Type 0} (ls : List (Vec Cell A)) (v : Vec Cell A) → length v.items ≡ 0 →
    some_of (lists_of (ls ++ (v ∷ []))) ≡ some_of (lists_of ls)
none_passed_over ls v none =
    ap some_of (map-append (λ list. list.items) ls (v ∷ [])) ∙ some_more (lists_of ls) v.items
    ∙ ap (λ w. some_of (lists_of ls) ++ w) (no_set v.items none) ∙ append-nil (some_of (lists_of ls))
  where
    no_set : (l : List Cell) → length l ≡ 0 → some_of (l ∷ []) ≡ []
    no_set [] h = refl
    no_set (c ∷ cs) h = absurd (omega arith)

pub one_set_more : {A : Type 0} (ls : List (Vec Cell A)) (v : Vec Cell A) → 0 < length v.items →
    some_of (lists_of (ls ++ (v ∷ []))) ≡ some_of (lists_of ls) ++ (from_list v.items ∷ [])
one_set_more ls v some =
    ap some_of (map-append (λ list. list.items) ls (v ∷ [])) ∙ some_more (lists_of ls) v.items
    ∙ ap (λ w. some_of (lists_of ls) ++ w) (its_set v.items some)
  where
    its_set : (l : List Cell) → 0 < length l → some_of (l ∷ []) ≡ from_list l ∷ []
    its_set [] h = absurd (omega arith)
    its_set (c ∷ cs) h = refl

none_listed : from_list [] ≡ empty
none_listed = same_members (from_list []) empty (λ c. contains-from_list [] c ∙ sym (contains-empty c))

has_cell : (c : Cell) (cs : List Cell) → from_list (c ∷ cs) ≢ empty
has_cell c cs none =
    in_empty c (ap (λ H. contains H c) (sym none) ∙ contains-from_list (c ∷ cs) c
    ∙ or_left (same_cell c c) (list_any (same_cell c) cs) ((same_cell-is c c).1 refl))

some_together : (ls : List (List Cell)) → union_of (some_of ls) ≡ union_of (map from_list ls)
some_together [] = refl
some_together ([] ∷ ls) =
    let U = union_of (map from_list ls) in
    some_together ls ∙ sym (union-empty U) ∙ union-comm U empty ∙ ap (λ H. union H U) (sym none_listed)
some_together ((c ∷ cs) ∷ ls) = ap (union (from_list (c ∷ cs))) (some_together ls)

some_have : (ls : List (List Cell)) → All (λ K. K ≢ empty) (some_of ls)
some_have [] = All-nil (λ K. K ≢ empty)
some_have ([] ∷ ls) = some_have ls
some_have ((c ∷ cs) ∷ ls) = All-cons (λ K. K ≢ empty) (from_list (c ∷ cs)) (some_of ls) (has_cell c cs) (some_have ls)

some_from : (ls : List (List Cell)) (K : Generation) → Contains (some_of ls) K → Contains (map from_list ls) K
some_from [] K one = one
some_from ([] ∷ ls) K one = Contains-later (from_list []) K (map from_list ls) (some_from ls K one)
some_from ((c ∷ cs) ∷ ls) K one = elim (head_or_later (from_list (c ∷ cs)) K (some_of ls) one.0 one.1 one.2) [
  | inl same ↦
      subst (Contains (from_list (c ∷ cs) ∷ map from_list ls)) same (Contains-head (from_list (c ∷ cs)) (map from_list ls))
  | inr later ↦ Contains-later (from_list (c ∷ cs)) K (map from_list ls) (some_from ls K later)
]

some_to : (ls : List (List Cell)) (H : Generation) → Contains (map from_list ls) H → H ≢ empty → Contains (some_of ls) H
some_to [] H one some = one
some_to ([] ∷ ls) H one some = elim (head_or_later (from_list []) H (map from_list ls) one.0 one.1 one.2) [
  | inl same ↦ absurd (some (sym same ∙ none_listed))
  | inr later ↦ some_to ls H later some
]
some_to ((c ∷ cs) ∷ ls) H one some = elim (head_or_later (from_list (c ∷ cs)) H (map from_list ls) one.0 one.1 one.2) [
  | inl same ↦ subst (Contains (from_list (c ∷ cs) ∷ some_of ls)) same (Contains-head (from_list (c ∷ cs)) (some_of ls))
  | inr later ↦ Contains-later (from_list (c ∷ cs)) H (some_of ls) (some_to ls H later some)
]

some_once : (ls : List (List Cell)) → AllPairs AreDisjoint (map from_list ls) → AllPairs AreDisjoint (some_of ls)
some_once [] once = AllPairs-nil AreDisjoint
some_once ([] ∷ ls) once = some_once ls (AllPairs-tail AreDisjoint (from_list []) (map from_list ls) once)
some_once ((c ∷ cs) ∷ ls) once =
    let H = from_list (c ∷ cs) in
    AllPairs-cons AreDisjoint H (some_of ls)
    (λ k d h.
    All-contains (AreDisjoint H) (map from_list ls) (get_or (some_of ls) k d) (AllPairs-head AreDisjoint H (map from_list ls) once)
    (some_from ls (get_or (some_of ls) k d) (Contains-get_or (some_of ls) k d h)))
    (some_once ls (AllPairs-tail AreDisjoint H (map from_list ls) once))

some_are_those : (ls : List (List Cell)) → AllPairs AreDisjoint (map from_list ls) →
    AreThoseWithCells (map from_list ls) (some_of ls)
some_are_those ls once = record {
  together = some_together ls;
  some = some_have ls;
  once = some_once ls once;
  from = some_from ls;
  to = some_to ls;
}

-- ---- the sets of joined cells

module _ (G : Generation) (forest : List ℕ) (long : length forest ≡ length (cells G)) where
  abbrev labels : List ℕ
  labels = range_with_len 0 (length (cells G))

  listed_sets : map from_list (by_roots (cells G) forest (cells G)) ≡ joined_sets G forest
  listed_sets =
      let ls = by_roots (cells G) forest (cells G) in
      let here = length-map ls from_list in
      let there = length-by_roots (cells G) forest (cells G) in
      let sets = length-sets G labels forest in
      same_lists (map from_list ls) (joined_sets G forest) (omega arith) (λ k d h.
      let within : k < length (cells G) = omega arith in
      get_or-map from_list ls k [] d (omega arith)
      ∙ ap from_list (by_roots-at (cells G) forest (cells G) k [] within)
      ∙ from_list-filter (λ c. root forest (label_of (cells G) labels c) == k) G
      ∙ sym (set_at G labels forest k d (omega arith)))

  sets_once : AllPairs AreDisjoint (joined_sets G forest)
  sets_once i j d less h c a b =
      let sets = length-sets G labels forest in
      let x = (of_set G labels forest i d c (omega arith) a).1 in
      let y = (of_set G labels forest j d c (omega arith) b).1 in
      omega arith

  pub all_gathered : (Ks : List Generation) → Ks ≡ some_of (by_roots (cells G) forest (cells G)) →
      AreThoseWithCells (joined_sets G forest) Ks
  all_gathered Ks are =
      subst (AreThoseWithCells (joined_sets G forest)) (sym are)
      (subst (λ Hs. AreThoseWithCells Hs (some_of (by_roots (cells G) forest (cells G)))) listed_sets
      (some_are_those (by_roots (cells G) forest (cells G)) (subst (AllPairs AreDisjoint) (sym listed_sets) sets_once)))
