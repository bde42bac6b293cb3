-- Each event keeps the state of a feed sound, and what a sound state implies.
use Rattle.std.proofs.Common.{◌≡◌, ℕ, ◌+◌, ◌<◌, ◌≤◌, ◌||◌, true, false, cond, List, [], ◌∷◌, ◌++◌, length, sym, refl, ap, ◌∙◌, subst, ⊎_elim, append_assoc, arith, length-append}
use Rattle.std.proofs.Math.Bool.{or-false}
use Rattle.std.specs.List.{AllByRecursion}
use Rattle.std.proofs.lemmas.Bool.{or_left, or_right, cases_Bool, cases_lt, cond-true, cond-false}
use Rattle.std.proofs.lemmas.List.{append-nil, nil_from_length}
use Rattle.census_bundle.specs.declared.bundle.Folder.{Folder}
use Rattle.census_crew.specs.declared.item.Item.{Item}
use Rattle.census_crew.specs.declared.item.Item.TheVariants.{Work, Mark}
use Rattle.census_crew.specs.Items.{items, Before, Rises, same_item, has_item, is_mark, occurrence_count, mark_count}
use Rattle.census_crew.specs.Rule.{all_items_of, IsSoundFeed, AllMarks}
use Rattle.census_crew.proofs.Orders.{same_is, same_itself, before_itself, all_join, all_parts, all_weaker, all_at, all_from, Precedes, rises_join, rises_parts, items_rise}
use Rattle.census_crew.proofs.Counts.{times_cons, times_join, times_has, has_join, times_rises, same_marks, mark_in, marks_join, marks_cons, marks_items, times_joined, marks_joined, few_marks}

abbrev pub Each : List (List Item) → Type 0
Each ls = AllByRecursion (λ l. Rises l × (mark_count l ≤ 1)) ls

none_times : (x : Item) (ls : List (List Item)) → length ls ≡ 0 → occurrence_count x (all_items_of ls) ≡ 0
none_times x [] e = refl
none_times x (l ∷ ls) e = absurd (omega arith)

module _ (bundle : List Folder) (workers : ℕ) (pushed popped rest : List Item) (hands : List (List Item)) (ended : ℕ) (s : IsSoundFeed bundle workers pushed popped rest hands ended) where
  -- what was pushed rises
  pub pushed_rises : Rises pushed
  pushed_rises = (rises_parts pushed s.behind (subst Rises s.in_order (items_rise bundle workers))).0

  parts_rise : Rises (s.front ++ (popped ++ rest))
  parts_rise = subst Rises s.parts pushed_rises

  front_rises : Rises s.front
  front_rises = (rises_parts s.front (popped ++ rest) parts_rise).0

  pub front_first : Precedes s.front (popped ++ rest)
  front_first = (rises_parts s.front (popped ++ rest) parts_rise).2

  -- what is in a hand's list has left the deque
  pub in_front : (x : Item) → 0 < occurrence_count x (all_items_of hands) → has_item s.front x ≡ true
  in_front x h = ⊎_elim (λ e. e) (λ e. let c = cond-false {A = ℕ} (has_item s.front x) 1 0 e in absurd (let o = s.once x in omega arith)) (cases_Bool (has_item s.front x))

  pub as_often : (x : Item) → occurrence_count x (all_items_of hands) ≡ occurrence_count x s.front
  as_often x = s.once x ∙ sym (times_rises x s.front front_rises)

  pub marks_pushed : mark_count pushed ≤ workers
  marks_pushed = let e = ap mark_count s.in_order in let m = marks_items bundle workers in omega (arith, marks_join pushed s.behind)

  pub all_marks_pushed : 0 < length hands → mark_count pushed ≡ workers
  all_marks_pushed h = let e = ap mark_count (s.in_order ∙ ap (λ l. pushed ++ l) (s.all_pushed h)) in let m = marks_items bundle workers in omega (arith, marks_join pushed [])

after_mark : (k : ℕ) (x : Item) → Before (Mark k) x → is_mark x ≡ true
after_mark k (Work t) h = absurd h
after_mark k (Mark j) h = refl

behind_mark : (k : ℕ) (xs : List Item) → AllByRecursion (Before (Mark k)) xs → AllMarks xs
behind_mark k xs h = all_weaker (Before (Mark k)) (λ x. is_mark x ≡ true) (after_mark k) xs h

mark_weighs : (y : Item) → cond {A = ℕ} (is_mark y) 1 0 ≤ 1
mark_weighs (Work t) = omega arith
mark_weighs (Mark k) = omega arith

at_most_one : (l : List Item) (y : Item) → mark_count l ≡ 0 → mark_count (l ++ y ∷ []) ≤ 1
at_most_one l y e = let w = mark_weighs y in omega (arith, marks_join l (y ∷ []), marks_cons y [])

-- a push, before any hand has begun
pub push_sound : (bundle : List Folder) (workers : ℕ) (pushed popped rest : List Item) (hands : List (List Item)) (ended : ℕ) → IsSoundFeed bundle workers pushed popped rest hands ended → length hands ≡ 0 → length popped ≡ 0
    → (x : Item) (bundle' : List Folder) (workers' : ℕ) (behind : List Item) → items bundle' workers' ≡ (pushed ++ x ∷ []) ++ behind → IsSoundFeed bundle' workers' (pushed ++ x ∷ []) popped (rest ++ x ∷ []) hands ended
push_sound bundle workers pushed popped rest hands ended s none nothing x bundle' workers' behind next = record {
  front = s.front;
  behind = behind;
  in_order = next;
  all_pushed = λ h. absurd (omega arith);
  parts = ap (λ l. l ++ x ∷ []) s.parts ∙ append_assoc s.front (popped ++ rest) (x ∷ []) ∙ ap (λ l. s.front ++ l) (append_assoc popped rest (x ∷ []));
  once = s.once;
  each = s.each;
  few = omega arith;
  late = λ h. absurd (omega arith);
}

-- a hand begins, with an empty list
pub begin_sound : (bundle : List Folder) (workers : ℕ) (pushed popped rest : List Item) (hands : List (List Item)) (ended : ℕ) → IsSoundFeed bundle workers pushed popped rest hands ended → (bundle' : List Folder) (workers' : ℕ) → items bundle' workers' ≡ pushed → length hands < workers'
    → IsSoundFeed bundle' workers' pushed popped rest (hands ++ [] ∷ []) ended
begin_sound bundle workers pushed popped rest hands ended s bundle' workers' all room =
    let n = length-append hands ([] ∷ []) in
    let m : workers' ≤ workers = let a = ap mark_count all in omega (arith, marks_items bundle' workers', marks_pushed bundle workers pushed popped rest hands ended s) in
    record {
      front = s.front;
      behind = [];
      in_order = all ∙ sym (append-nil pushed);
      all_pushed = λ _. refl;
      parts = s.parts;
      once = λ x. (let t = times_joined x hands [] [] in let z : occurrence_count x (all_items_of hands) + 0 ≡ occurrence_count x (all_items_of hands) = omega arith in t ∙ z) ∙ s.once x;
      each = all_join (λ l. Rises l × (mark_count l ≤ 1)) hands ([] ∷ []) s.each ((tt, omega arith), tt);
      few = omega arith;
      late = λ h. let l = s.late h in omega arith;
    }

-- a hand that is under way, whose list is l
module _ (bundle : List Folder) (workers : ℕ) (pushed popped rest : List Item) (a : List (List Item)) (l : List Item) (b : List (List Item)) (ended : ℕ) (s : IsSoundFeed bundle workers pushed popped rest (a ++ l ∷ b) ended) where
  pub its_own : Rises l × (mark_count l ≤ 1)
  its_own = (all_parts (λ m. Rises m × (mark_count m ≤ 1)) a (l ∷ b) s.each).1.0

  pub its_items : (x : Item) → has_item l x ≡ true → has_item s.front x ≡ true
  its_items x i = in_front bundle workers pushed popped rest (a ++ l ∷ b) ended s x (let h = times_has x l i in omega (arith, times_joined x a l b))

  -- while it is under way nothing has been popped
  pub nothing_popped : ended ≤ length a + length b → popped ≡ []
  nothing_popped e =
      let f = s.few in
      nil_from_length popped
      (⊎_elim (λ (h : 0 < length popped). let w = s.late h in absurd (omega (arith, length-append a (l ∷ b)))) (λ (h : length popped ≤ 0). omega arith) (cases_lt 0 (length popped)))

  -- what it took comes before all that is left
  pub later_left : (x : Item) → has_item l x ≡ true → AllByRecursion (Before x) (popped ++ rest)
  later_left x i =
      all_at (λ z. AllByRecursion (Before z) (popped ++ rest)) s.front x (front_first bundle workers pushed popped rest (a ++ l ∷ b) ended s) (its_items x i)

  -- if its list has a mark, no ticket is left
  pub marks_left : 0 < mark_count l → AllMarks (popped ++ rest)
  marks_left h = let m = mark_in l h in behind_mark m.0 (popped ++ rest) (later_left (Mark m.0) m.1)

  -- a hand without a mark does not find the deque empty
  pub never_empty : ended ≤ length a + length b → mark_count l ≡ 0 → rest ≡ [] → ⊥
  never_empty e none empty =
      let hands = a ++ l ∷ b in
      let n = length-append a (l ∷ b) in
      let p = s.parts ∙ ap (λ m. s.front ++ m) (ap (λ m. m ++ rest) (nothing_popped e) ∙ empty) ∙ append-nil s.front in
      let all = all_marks_pushed bundle workers pushed popped rest hands ended s (omega arith) in
      let same = same_marks (all_items_of hands) s.front (as_often bundle workers pushed popped rest hands ended s) in
      let q = ap mark_count p in
      let each = all_parts (λ m. Rises m × (mark_count m ≤ 1)) a (l ∷ b) s.each in
      let f = few_marks a each.0 in let g = few_marks b each.1.1 in
      let w = s.few in
      omega (arith, marks_joined a l b)

-- a hand takes the first of the rest
module _ (bundle : List Folder) (workers : ℕ) (pushed popped : List Item) (y : Item) (rest : List Item) (a : List (List Item)) (l : List Item) (b : List (List Item)) (ended : ℕ) (s : IsSoundFeed bundle workers pushed popped (y ∷ rest) (a ++ l ∷ b) ended) where
  pub taken_rises : Rises (l ++ y ∷ [])
  taken_rises =
      let p = front_first bundle workers pushed popped (y ∷ rest) (a ++ l ∷ b) ended s in
      rises_join l (y ∷ []) (its_own bundle workers pushed popped (y ∷ rest) a l b ended s).0 (tt, tt)
      (all_from (λ x. AllByRecursion (Before x) (y ∷ [])) l
      (λ x i.
      let q = all_at (λ z. AllByRecursion (Before z) (popped ++ y ∷ rest)) s.front x p (its_items bundle workers pushed popped (y ∷ rest) a l b ended s x i) in
      ((all_parts (Before x) popped (y ∷ rest) q).1.0, tt)))

  pub taken_pushed : has_item pushed y ≡ true
  taken_pushed = subst (λ m. has_item m y ≡ true) (sym s.parts) (has_join y s.front (popped ++ y ∷ rest) ∙ or_right (has_item s.front y) (has_item (popped ++ y ∷ rest) y) (has_join y popped (y ∷ rest) ∙ or_right (has_item popped y) (has_item (y ∷ rest) y) (or_left (same_item y y) (has_item rest y) (same_itself y))))

  -- it was in no hand's list
  not_in_front : has_item s.front y ≡ true → ⊥
  not_in_front i =
      let p = front_first bundle workers pushed popped (y ∷ rest) (a ++ l ∷ b) ended s in
      let q = all_at (λ z. AllByRecursion (Before z) (popped ++ y ∷ rest)) s.front y p i in
      before_itself y (all_parts (Before y) popped (y ∷ rest) q).1.0

  once_more : (x : Item) → occurrence_count x (all_items_of (a ++ (l ++ y ∷ []) ∷ b)) ≡ cond (has_item (s.front ++ y ∷ []) x) 1 0
  once_more x =
      let o = s.once x in
      let j = has_join x s.front (y ∷ []) in
      let more : occurrence_count x (all_items_of (a ++ (l ++ y ∷ []) ∷ b)) ≡ occurrence_count x (all_items_of (a ++ l ∷ b)) + cond {A = ℕ} (same_item x y) 1 0 =
      omega (arith, times_joined x a (l ++ y ∷ []) b, times_joined x a l b, times_join x l (y ∷ []), times_cons x y []) in
      ⊎_elim
      (λ (e : same_item x y ≡ true).
      let c = cond-true {A = ℕ} (same_item x y) 1 0 e in
      let f : has_item s.front x ≡ true → ⊥ = λ i. not_in_front (subst (λ z. has_item s.front z ≡ true) (same_is x y e) i) in
      let d : cond {A = ℕ} (has_item s.front x) 1 0 ≡ 0 = ⊎_elim (λ i. absurd (f i)) (λ i. cond-false {A = ℕ} (has_item s.front x) 1 0 i) (cases_Bool (has_item s.front x)) in
      let g : cond {A = ℕ} (has_item (s.front ++ y ∷ []) x) 1 0 ≡ 1 =
      cond-true {A = ℕ} (has_item (s.front ++ y ∷ []) x) 1 0 (j ∙ or_right (has_item s.front x) (has_item (y ∷ []) x) (or_left (same_item x y) false e)) in
      omega arith)
      (λ (e : same_item x y ≡ false).
      let c = cond-false {A = ℕ} (same_item x y) 1 0 e in
      let g : cond {A = ℕ} (has_item (s.front ++ y ∷ []) x) 1 0 ≡ cond {A = ℕ} (has_item s.front x) 1 0 =
      ap (λ v. cond {A = ℕ} v 1 0) (j ∙ ap (λ v. has_item s.front x || (v || false)) e ∙ or-false (has_item s.front x)) in
      omega arith)
      (cases_Bool (same_item x y))

  pub take_sound : ended ≤ length a + length b → mark_count l ≡ 0 → IsSoundFeed bundle workers pushed popped rest (a ++ (l ++ y ∷ []) ∷ b) ended
  take_sound e none =
      let n = length-append a (l ∷ b) in let n' = length-append a ((l ++ y ∷ []) ∷ b) in
      let each = all_parts (λ m. Rises m × (mark_count m ≤ 1)) a (l ∷ b) s.each in
      let nothing = nothing_popped bundle workers pushed popped (y ∷ rest) a l b ended s e in
      let few = s.few in
      record {
        front = s.front ++ y ∷ [];
        behind = s.behind;
        in_order = s.in_order;
        all_pushed = λ h. s.all_pushed (omega arith);
        parts = s.parts ∙ ap (λ m. s.front ++ (m ++ y ∷ rest)) nothing ∙ sym (append_assoc s.front (y ∷ []) rest) ∙ ap (λ m. (s.front ++ y ∷ []) ++ (m ++ rest)) (sym nothing);
        once = once_more;
        each = all_join (λ m. Rises m × (mark_count m ≤ 1)) a ((l ++ y ∷ []) ∷ b) each.0 ((taken_rises, at_most_one l y none), each.1.1);
        few = omega arith;
        late = s.late;
      }

-- the lists of the hands in another order, and more of the hands have ended
pub reorder_sound : (bundle : List Folder) (workers : ℕ) (pushed popped rest : List Item) (hands : List (List Item)) (ended : ℕ) → IsSoundFeed bundle workers pushed popped rest hands ended
    → (hands' : List (List Item)) (ended' : ℕ) → length hands' ≡ length hands → ((x : Item) → occurrence_count x (all_items_of hands') ≡ occurrence_count x (all_items_of hands)) → Each hands' → ended ≤ ended' → IsSoundFeed bundle workers pushed popped rest hands' ended'
reorder_sound bundle workers pushed popped rest hands ended s hands' ended' n t each e = record {
  front = s.front;
  behind = s.behind;
  in_order = s.in_order;
  all_pushed = λ h. s.all_pushed (omega arith);
  parts = s.parts;
  once = λ x. t x ∙ s.once x;
  each = each;
  few = let f = s.few in omega arith;
  late = λ h. let l = s.late h in omega arith;
}

-- the filler pops the first of the rest, once all hands have ended
pub pop_sound : (bundle : List Folder) (workers : ℕ) (pushed popped : List Item) (y : Item) (rest : List Item) (hands : List (List Item)) (ended : ℕ) → IsSoundFeed bundle workers pushed popped (y ∷ rest) hands ended → 0 < length hands → mark_count pushed ≤ ended
    → IsSoundFeed bundle workers pushed (popped ++ y ∷ []) rest hands ended
pop_sound bundle workers pushed popped y rest hands ended s some done =
    let m = all_marks_pushed bundle workers pushed popped (y ∷ rest) hands ended s some in
    record {
      front = s.front;
      behind = s.behind;
      in_order = s.in_order;
      all_pushed = s.all_pushed;
      parts = s.parts ∙ ap (λ l. s.front ++ l) (sym (append_assoc popped (y ∷ []) rest));
      once = s.once;
      each = s.each;
      few = s.few;
      late = λ h. omega arith;
    }

pub popped_within : (bundle : List Folder) (workers : ℕ) (pushed popped rest : List Item) (hands : List (List Item)) (ended : ℕ) → IsSoundFeed bundle workers pushed popped rest hands ended → length popped + length rest ≤ length pushed
popped_within bundle workers pushed popped rest hands ended s = let e = ap length s.parts in omega (arith, length-append s.front (popped ++ rest), length-append popped rest)

-- what was pushed is in the hands' lists, popped or left
pub all_there : (bundle : List Folder) (workers : ℕ) (pushed popped rest : List Item) (hands : List (List Item)) (ended : ℕ) → IsSoundFeed bundle workers pushed popped rest hands ended
    → (x : Item) → occurrence_count x (all_items_of hands) + (occurrence_count x popped + occurrence_count x rest) ≡ occurrence_count x pushed
all_there bundle workers pushed popped rest hands ended s x =
    let e = ap (occurrence_count x) s.parts in let o = as_often bundle workers pushed popped rest hands ended s x in
    omega (arith, times_join x s.front (popped ++ rest), times_join x popped rest)

-- if a hand has a mark, no ticket was popped or is left
pub all_marks : (bundle : List Folder) (workers : ℕ) (pushed popped rest : List Item) (hands : List (List Item)) (ended : ℕ) → IsSoundFeed bundle workers pushed popped rest hands ended
    → 0 < mark_count (all_items_of hands) → AllMarks (popped ++ rest)
all_marks bundle workers pushed popped rest hands ended s h =
    let m = mark_in (all_items_of hands) h in
    let f = in_front bundle workers pushed popped rest hands ended s (Mark m.0) (times_has (Mark m.0) (all_items_of hands) m.1) in
    behind_mark m.0 (popped ++ rest) (all_at (λ x. AllByRecursion (Before x) (popped ++ rest)) s.front (Mark m.0) (front_first bundle workers pushed popped rest hands ended s) f)
