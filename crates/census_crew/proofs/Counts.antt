-- How often an item is in lists, and how many end marks are.
use Rattle.std.proofs.Common.{◌≡◌, ℕ, zero, suc, ◌+◌, ◌*◌, ◌^◌, ◌<◌, ◌≤◌, ◌⊎◌, ◌||◌, Bool, true, false, cond, List, [], ◌∷◌, ◌++◌, length, Some, slice_get, sym, refl, ap, ◌∙◌, subst, inl, inr, ⊎_elim, arith, length-append}
use Rattle.std.specs.List.{AllByRecursion, sum_by, count_by, filter, fold}
use Rattle.std.proofs.lemmas.Bool.{false≢true, or_cases, or_left, or_right, cases_Bool, cond-true, cond-false}
use Rattle.std.proofs.lemmas.List.Sums.{sum_by-cons, sum_by-append, fold_push}
use Rattle.std.proofs.lemmas.List.Concat.{flat_map-append}
use Rattle.census_bundle.specs.declared.ticket.Ticket.{Ticket}
use Rattle.census_bundle.specs.declared.bundle.Folder.{Folder}
use Rattle.census_bundle.specs.Tickets.{ticket}
use Rattle.census_bundle.specs.Sizes.{IsWithinCounts, count_limit, worker_limit}
use Rattle.census_crew.specs.declared.item.Item.{Item}
use Rattle.census_crew.specs.declared.item.Item.TheVariants.{Work, Mark}
use Rattle.census_crew.specs.Items.{folder_tickets, tickets_from, end_marks, items, Before, Rises, same_item, has_item, is_mark, is_ticket, occurrence_count, mark_count, ends_with_mark}
use Rattle.census_crew.specs.Rule.{all_items_of, AllMarks}
use Rattle.census_crew.proofs.Orders.{same_is, same_itself, before_itself, all_at}

pub times_cons : (x y : Item) (ys : List Item) → occurrence_count x (y ∷ ys) ≡ cond (same_item x y) 1 0 + occurrence_count x ys
times_cons x y ys = sum_by-cons (λ z. cond (same_item x z) 1 0) y ys

pub times_join : (x : Item) (xs ys : List Item) → occurrence_count x (xs ++ ys) ≡ occurrence_count x xs + occurrence_count x ys
times_join x xs ys = sum_by-append (λ z. cond (same_item x z) 1 0) xs ys

pub marks_cons : (y : Item) (ys : List Item) → mark_count (y ∷ ys) ≡ cond (is_mark y) 1 0 + mark_count ys
marks_cons y ys = sum_by-cons (λ z. cond (is_mark z) 1 0) y ys

pub marks_join : (xs ys : List Item) → mark_count (xs ++ ys) ≡ mark_count xs + mark_count ys
marks_join xs ys = sum_by-append (λ z. cond (is_mark z) 1 0) xs ys

one_itself : (x : Item) → cond {A = ℕ} (same_item x x) 1 0 ≡ 1
one_itself x = cond-true (same_item x x) 1 0 (same_itself x)

pub times_has : (x : Item) (xs : List Item) → has_item xs x ≡ true → 0 < occurrence_count x xs
times_has x [] e = absurd (false≢true e)
times_has x (y ∷ ys) e = ⊎_elim (λ s. let c = cond-true {A = ℕ} (same_item x y) 1 0 s in omega (arith, times_cons x y ys)) (λ s. let h = times_has x ys s in omega (arith, times_cons x y ys)) (or_cases (same_item x y) (has_item ys x) e)

pub has_times : (x : Item) (xs : List Item) → 0 < occurrence_count x xs → has_item xs x ≡ true
has_times x [] h = absurd (omega arith)
has_times x (y ∷ ys) h = ⊎_elim (λ s. or_left (same_item x y) (has_item ys x) s) (λ s. or_right (same_item x y) (has_item ys x) (let c = cond-false {A = ℕ} (same_item x y) 1 0 s in has_times x ys (omega (arith, times_cons x y ys)))) (cases_Bool (same_item x y))

pub has_join : (x : Item) (xs ys : List Item) → has_item (xs ++ ys) x ≡ (has_item xs x || has_item ys x)
has_join x [] ys = refl
has_join x (y ∷ xs) ys = elim (same_item x y) as (λ b. (b || has_item (xs ++ ys) x) ≡ ((b || has_item xs x) || has_item ys x)) [ true ↦ refl | false ↦ has_join x xs ys ]

pub has_last : (xs : List Item) (x : Item) → has_item (xs ++ x ∷ []) x ≡ true
has_last xs x = has_join x xs (x ∷ []) ∙ or_right (has_item xs x) (has_item (x ∷ []) x) (or_left (same_item x x) false (same_itself x))

-- in a list that rises each item is at most once
pub times_rises : (x : Item) (xs : List Item) → Rises xs → occurrence_count x xs ≡ cond (has_item xs x) 1 0
times_rises x [] r = refl
times_rises x (y ∷ ys) r =
    ⊎_elim
    (λ s.
    let c = cond-true {A = ℕ} (same_item x y) 1 0 s in let d = cond-true {A = ℕ} (has_item (y ∷ ys) x) 1 0 (or_left (same_item x y) (has_item ys x) s) in
    let f : has_item ys x ≡ true → ⊥ = λ i. before_itself x (subst (λ z. Before z x) (sym (same_is x y s)) (all_at (Before y) ys x r.0 i)) in
    let z : occurrence_count x ys ≡ 0 = ⊎_elim (λ i. absurd (f i)) (λ i. times_rises x ys r.1 ∙ cond-false {A = ℕ} (has_item ys x) 1 0 i) (cases_Bool (has_item ys x)) in
    omega (arith, times_cons x y ys))
    (λ s. let c = cond-false {A = ℕ} (same_item x y) 1 0 s in let h = times_rises x ys r.1 in
    let d : cond {A = ℕ} (has_item (y ∷ ys) x) 1 0 ≡ cond {A = ℕ} (has_item ys x) 1 0 = ap (λ b. cond {A = ℕ} (b || has_item ys x) 1 0) s in omega (arith, times_cons x y ys))
    (cases_Bool (same_item x y))

-- a list is what comes before one of its items, the item, and what comes after it
find : (x : Item) (ys : List Item) → has_item ys x ≡ true → (front : List Item) × (behind : List Item) × (ys ≡ front ++ x ∷ behind)
find x [] e = absurd (false≢true e)
find x (y ∷ ys) e = ⊎_elim (λ s. ([], ys, ap (λ z. z ∷ ys) (sym (same_is x y s)))) (λ s. let r = find x ys s in (y ∷ r.0, r.1, ap (λ l. y ∷ l) r.2)) (or_cases (same_item x y) (has_item ys x) e)

-- lists in which each item is equally often weigh the same
pub same_weight : (h : Item → ℕ) (xs ys : List Item) → ((x : Item) → occurrence_count x xs ≡ occurrence_count x ys) → sum_by h xs ≡ sum_by h ys
same_weight h [] [] e = refl
same_weight h [] (y ∷ ys) e = absurd (let z = e y in let o = one_itself y in omega (arith, times_cons y y ys))
same_weight h (x ∷ xs) ys e =
    let o = one_itself x in let z = e x in
    let f = find x ys (has_times x ys (omega (arith, times_cons x x xs))) in
    let rest : (y : Item) → occurrence_count y xs ≡ occurrence_count y (f.0 ++ f.1) =
    λ y. let w = e y in let q = ap (occurrence_count y) f.2 in omega (arith, times_cons y x xs, times_join y f.0 (x ∷ f.1), times_cons y x f.1, times_join y f.0 f.1) in
    let r = same_weight h xs (f.0 ++ f.1) rest in let q = ap (sum_by h) f.2 in
    omega (arith, sum_by-cons h x xs, sum_by-append h f.0 (x ∷ f.1), sum_by-cons h x f.1, sum_by-append h f.0 f.1)

pub same_marks : (xs ys : List Item) → ((x : Item) → occurrence_count x xs ≡ occurrence_count x ys) → mark_count xs ≡ mark_count ys
same_marks xs ys e = same_weight (λ z. cond (is_mark z) 1 0) xs ys e

-- a list with a mark has one
pub mark_in : (xs : List Item) → 0 < mark_count xs → (k : ℕ) × (has_item xs (Mark k) ≡ true)
mark_in [] h = absurd (omega arith)
mark_in (Work t ∷ xs) h = let r = mark_in xs (omega (arith, marks_cons (Work t) xs)) in (r.0, r.1)
mark_in (Mark k ∷ xs) h = (k, or_left (same_item (Mark k) (Mark k)) (has_item xs (Mark k)) (same_itself (Mark k)))

-- how many marks a feed has
marks_folder : (c n : ℕ) → mark_count (folder_tickets c n) ≡ 0
marks_folder c zero = refl
marks_folder c (suc n) = let h = marks_folder c n in omega (arith, marks_join (folder_tickets c n) (Work (ticket c (suc n)) ∷ []))

marks_tickets : (c : ℕ) (fs : List Folder) → mark_count (tickets_from c fs) ≡ 0
marks_tickets c [] = refl
marks_tickets c (f ∷ fs) = let n = length f.entries in let h = marks_tickets (suc c) fs in let k = marks_folder c n in omega (arith, marks_join (folder_tickets c n) (tickets_from (suc c) fs))

marks_ends : (n : ℕ) → mark_count (end_marks n) ≡ n
marks_ends zero = refl
marks_ends (suc n) = let h = marks_ends n in omega (arith, marks_join (end_marks n) (Mark (suc n) ∷ []))

pub marks_items : (bundle : List Folder) (workers : ℕ) → mark_count (items bundle workers) ≡ workers
marks_items bundle workers = let h = marks_tickets 1 bundle in let k = marks_ends workers in omega (arith, marks_join (tickets_from 1 bundle) (end_marks workers))

-- lists of lists
pub joined_join : (a b : List (List Item)) → all_items_of (a ++ b) ≡ all_items_of a ++ all_items_of b
joined_join a b = flat_map-append (λ l. l) a b

pub times_joins : (x : Item) (a b : List (List Item)) → occurrence_count x (all_items_of (a ++ b)) ≡ occurrence_count x (all_items_of a) + occurrence_count x (all_items_of b)
times_joins x a b = let e = ap (occurrence_count x) (joined_join a b) in omega (arith, times_join x (all_items_of a) (all_items_of b))

pub times_joined : (x : Item) (a : List (List Item)) (l : List Item) (b : List (List Item)) → occurrence_count x (all_items_of (a ++ l ∷ b)) ≡ occurrence_count x (all_items_of a) + (occurrence_count x l + occurrence_count x (all_items_of b))
times_joined x a l b = let e = ap (occurrence_count x) (joined_join a (l ∷ b)) in omega (arith, times_join x (all_items_of a) (l ++ all_items_of b), times_join x l (all_items_of b))

pub marks_joined : (a : List (List Item)) (l : List Item) (b : List (List Item)) → mark_count (all_items_of (a ++ l ∷ b)) ≡ mark_count (all_items_of a) + (mark_count l + mark_count (all_items_of b))
marks_joined a l b = let e = ap mark_count (joined_join a (l ∷ b)) in omega (arith, marks_join (all_items_of a) (l ++ all_items_of b), marks_join l (all_items_of b))

pub few_marks : (ls : List (List Item)) → AllByRecursion (λ l. Rises l × (mark_count l ≤ 1)) ls → mark_count (all_items_of ls) ≤ length ls
few_marks [] a = omega arith
few_marks (l ∷ ls) a = let h = few_marks ls a.1 in let k = a.0.1 in omega (arith, marks_join l (all_items_of ls))

last_or_mark : (seen : Bool) (xs : List Item) → fold (λ seen x. is_mark x) seen xs ≡ true → (seen ≡ true) ⊎ (0 < mark_count xs)
last_or_mark seen [] e = inl e
last_or_mark seen (x ∷ xs) e = inr (⊎_elim (λ s. let c = cond-true {A = ℕ} (is_mark x) 1 0 s in omega (arith, marks_cons x xs)) (λ s. omega (arith, marks_cons x xs)) (last_or_mark (is_mark x) xs e))

pub marks_at_end : (xs : List Item) → ends_with_mark xs ≡ true → 0 < mark_count xs
marks_at_end xs e = ⊎_elim (λ s. absurd (false≢true s)) (λ s. s) (last_or_mark false xs e)

pub marked_at_end : (xs : List Item) (k : ℕ) → ends_with_mark (xs ++ Mark k ∷ []) ≡ true
marked_at_end xs k = fold_push (λ seen x. is_mark x) false xs (Mark k)

-- the tickets among items
pub times_tickets : (t : Ticket) (xs : List Item) → occurrence_count (Work t) (filter is_ticket xs) ≡ occurrence_count (Work t) xs
times_tickets t [] = refl
times_tickets t (Work s ∷ xs) = let h = times_tickets t xs in omega (arith, times_cons (Work t) (Work s) (filter is_ticket xs), times_cons (Work t) (Work s) xs)
times_tickets t (Mark k ∷ xs) = let h = times_tickets t xs in omega (arith, times_cons (Work t) (Mark k) xs)

pub no_tickets : (xs : List Item) → AllMarks xs → count_by is_ticket xs ≡ 0
no_tickets [] a = refl
no_tickets (Work t ∷ xs) a = absurd (false≢true a.0)
no_tickets (Mark k ∷ xs) a = let h = no_tickets xs a.1 in omega (arith, sum_by-cons (λ z. cond (is_ticket z) 1 0) (Mark k) xs)

pub one_ticket : (xs : List Item) (t : Ticket) → count_by is_ticket (xs ++ Work t ∷ []) ≡ count_by is_ticket xs + 1
one_ticket xs t = sum_by-append (λ z. cond (is_ticket z) 1 0) xs (Work t ∷ [])

pub one_mark : (xs : List Item) (k : ℕ) → count_by is_ticket (xs ++ Mark k ∷ []) ≡ count_by is_ticket xs
one_mark xs k = let e = sum_by-append (λ z. cond (is_ticket z) 1 0) xs (Mark k ∷ []) in omega arith

-- how many items a feed has
length_folder : (c n : ℕ) → length (folder_tickets c n) ≡ n
length_folder c zero = refl
length_folder c (suc n) = let h = length_folder c n in omega (arith, length-append (folder_tickets c n) (Work (ticket c (suc n)) ∷ []))

few_tickets : (c : ℕ) (fs : List Folder) → ((k : ℕ) (f : Folder) → slice_get fs k ≡ Some f → length f.entries ≤ count_limit) → length (tickets_from c fs) ≤ count_limit * length fs
few_tickets c [] small = omega arith
few_tickets c (f ∷ fs) small =
    let h = few_tickets (suc c) fs (λ k. small (suc k)) in let s = small 0 f refl in let n = length_folder c (length f.entries) in
    omega (arith, length-append (folder_tickets c (length f.entries)) (tickets_from (suc c) fs))

length_ends : (n : ℕ) → length (end_marks n) ≡ n
length_ends zero = refl
length_ends (suc n) = let h = length_ends n in omega (arith, length-append (end_marks n) (Mark (suc n) ∷ []))

pub few_items : (bundle : List Folder) (workers : ℕ) → IsWithinCounts bundle → workers ≤ worker_limit → length (items bundle workers) < 2 ^ 62
few_items bundle workers small some =
    let t = few_tickets 1 bundle small.entries in let e = length_ends workers in let few = small.folders in
    omega (arith, length-append (tickets_from 1 bundle) (end_marks workers))
