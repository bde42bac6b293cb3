-- Rows of slots: results that are kept or were dropped, and empty slots after them.
use Rattle.std.proofs.Common.{◌≡◌, ℕ, zero, suc, ◌+◌, ◌-◌, ◌<◌, ◌≤◌, Bool, true, false, List, [], ◌∷◌, ◌++◌, length, map, replicate, is_some, Option, None, Some, refl, sym, ap, ◌∙◌, arith, append_assoc, append-nil, slice_get}
use Rattle.std.specs.Prelude.{slice_set}
use Rattle.std.proofs.lemmas.List.{map-set, set-append_left, length-map, length-set, length-append, length-replicate, replicate-append-replicate}
use Rattle.std.proofs.Math.Seq.{set-append_seam}
use Rattle.census_book.specs.Slots.{Row, Taking, IsFull, dropped, work_in, kept, padded_row, row_of, work_at}
use Rattle.census_bundle.specs.Tickets.{element_at}
use Rattle.census_book.specs.Work.{Work}

pub length-padded : (n : ℕ) (row : List (Option Work)) → length (padded_row n row) ≡ length row + (n - length row)
length-padded n row = length-append row (replicate (n - length row) None) ∙ ap (λ k. length row + k) (length-replicate (n - length row) None)

-- empty slots in two steps
padded_twice : (n len : ℕ) (row : List (Option Work)) → n ≤ len → length row ≤ len → padded_row len (padded_row n row) ≡ padded_row len row
padded_twice n len row low within =
    let more = n - length row in
    let rest : len - length (padded_row n row) ≡ len - (length row + more) = ap (λ k. len - k) (length-padded n row) in
    ap (λ k. padded_row n row ++ replicate k None) rest
    ∙ append_assoc row (replicate more None) (replicate (len - (length row + more)) None)
    ∙ ap (λ xs. row ++ xs) (replicate-append-replicate more (len - (length row + more)) None)
    ∙ ap (λ k. row ++ replicate k None) (omega arith)

-- a slot is filled where it is first made
pub put_padded : (n len : ℕ) (row : List (Option Work)) (w : Option Work) → n < len → length row ≤ len → padded_row len (slice_set (padded_row (n + 1) row) n w) ≡ slice_set (padded_row len row) n w
put_padded n len row w within few =
    let made = padded_row (n + 1) row in
    let there : n < length made = omega (arith, length-padded (n + 1) row) in
    let behind = replicate (len - length made) None in
    ap (λ k. slice_set made n w ++ replicate (len - k) None) (length-set made n w)
    ∙ sym (set-append_left made behind n w there)
    ∙ ap (λ xs. slice_set xs n w) (padded_twice (n + 1) len row (omega arith) few)

-- none more
pub padded_none : (row : List (Option Work)) → row ≡ padded_row (length row) row
padded_none row =
    let none : length row - length row ≡ 0 = omega arith in
    sym (ap (λ k. row ++ replicate k None) none ∙ append-nil row)

pub none_in : {A : Type 0} (n i : ℕ) → work_in {A = A} (slice_get (replicate n None) i) ≡ None
none_in zero i = refl
none_in (suc n) zero = refl
none_in (suc n) (suc i) = none_in n i

-- what is in a slot of which something is made
pub held_map : {A B : Type 0} (f : Option A → Option B) → f None ≡ None → (xs : List (Option A)) (i : ℕ) → work_in (slice_get (map f xs) i) ≡ f (work_in (slice_get xs i))
held_map f none [] i = sym none
held_map f none (x ∷ xs) zero = refl
held_map f none (x ∷ xs) (suc i) = held_map f none xs i

held_padded : {A : Type 0} (xs : List (Option A)) (n i : ℕ) → work_in (slice_get (xs ++ replicate n None) i) ≡ work_in (slice_get xs i)
held_padded [] n i = none_in n i
held_padded (x ∷ xs) n zero = refl
held_padded (x ∷ xs) n (suc i) = held_padded xs n i

pub held_dropped : (x : Option Taking) → work_in (dropped x) ≡ None
held_dropped None = refl
held_dropped (Some taking) = refl

held_kept : (x : Option Work) → work_in (kept x) ≡ x
held_kept None = refl
held_kept (Some w) = refl

none_held : (len i : ℕ) → work_in (work_in {A = Taking} (slice_get (replicate len (Some None)) i)) ≡ None
none_held zero i = refl
none_held (suc len) zero = refl
none_held (suc len) (suc i) = none_held len i

-- the result that is kept in a slot
row_result : (is_dropped : Bool) (len : ℕ) (results : List (Option Work)) (i : ℕ) → (is_dropped ≡ true → results ≡ []) → work_in (work_in (slice_get (row_of is_dropped len results) i)) ≡ work_in (slice_get results i)
row_result true len results i empty = none_held len i ∙ sym (ap (λ rs. work_in (slice_get rs i)) (empty refl))
row_result false len results i empty =
    ap work_in (held_map kept refl (padded_row len results) i) ∙ held_kept (work_in (slice_get (padded_row len results) i)) ∙ held_padded results (len - length results) i

pub row_result_at : (is_dropped : Bool) (len : ℕ) (results : List (Option Work)) (i : ℕ) → (is_dropped ≡ true → results ≡ []) → work_in (work_at (row_of is_dropped len results) i) ≡ work_in (element_at results i)
row_result_at is_dropped len results zero empty = refl
row_result_at is_dropped len results (suc i) empty = row_result is_dropped len results i empty

is_some-kept : (x : Option Work) → is_some (work_in (kept x)) ≡ is_some (kept x)
is_some-kept None = refl
is_some-kept (Some w) = refl

-- if no result was dropped, one is kept in each slot that is taken
pub all_kept : (is_dropped : Bool) (len : ℕ) (results : List (Option Work)) (i : ℕ) → is_dropped ≡ false → is_some (work_in (work_at (row_of is_dropped len results) i)) ≡ is_some (work_at (row_of is_dropped len results) i)
all_kept true len results i is = absurd (cc)
all_kept false len results zero is = refl
all_kept false len results (suc i) is =
    let made = held_map kept refl (padded_row len results) i in
    ap (λ x. is_some (work_in x)) made ∙ is_some-kept (work_in (slice_get (padded_row len results) i)) ∙ ap is_some (sym made)

none_kept : (n : ℕ) → map kept (replicate n None) ≡ replicate n None
none_kept zero = refl
none_kept (suc n) = ap (λ (r : Row). None ∷ r) (none_kept n)

-- a row with no result
pub row_new : (len : ℕ) (results : List (Option Work)) → results ≡ [] → row_of false len results ≡ replicate len None
row_new len results empty =
    let all : len - 0 ≡ len = omega arith in
    ap (row_of false len) empty ∙ ap (λ n. map kept (replicate n None)) all ∙ none_kept len

-- how many slots there are
pub row_length : (is_dropped : Bool) (len : ℕ) (results : List (Option Work)) → length results ≤ len → length (row_of is_dropped len results) ≡ len
row_length true len results few = length-replicate len (Some None)
row_length false len results few = length-map (padded_row len results) kept ∙ length-padded len results ∙ omega arith

held_full : (len i : ℕ) → i < len → work_in {A = Taking} (slice_get (replicate len (Some None)) i) ≡ Some None
held_full zero i lt = absurd (omega arith)
held_full (suc len) zero lt = refl
held_full (suc len) (suc i) lt = held_full len i (omega arith)

held_past : (len i : ℕ) → len ≤ i → work_in {A = Taking} (slice_get (replicate len (Some None)) i) ≡ None
held_past zero i le = refl
held_past (suc len) zero le = absurd (omega arith)
held_past (suc len) (suc i) le = held_past len i (omega arith)

-- if the results are dropped, each slot is taken
pub slot_full : (len i : ℕ) → 0 < i → i ≤ len → work_at (replicate len (Some None)) i ≡ Some None
slot_full len zero pos le = absurd (omega arith)
slot_full len (suc i) pos le = held_full len i (omega arith)

-- and there is no other
pub slot_past : (len i : ℕ) → (0 < i → i ≤ len → ⊥) → work_at (replicate len (Some None)) i ≡ None
slot_past len zero out = refl
slot_past len (suc i) out = held_past len i (omega (arith, out))

-- if a slot is empty, no result was dropped
not_dropped : (is_dropped : Bool) (len : ℕ) (results : List (Option Work)) (i : ℕ) → 0 < i → i ≤ len → work_at (row_of is_dropped len results) i ≡ None → is_dropped ≡ true → ⊥
not_dropped true len results i pos le empty is = let full = slot_full len i pos le in absurd (cc)
not_dropped false len results i pos le empty is = absurd (cc)

-- a result is put into a slot that is empty
pub put_row : (is_dropped : Bool) (number len : ℕ) (results made : List (Option Work)) (w : Work) → 0 < number → number ≤ len → length results ≤ len → work_at (row_of is_dropped len results) number ≡ None
    → made ≡ slice_set (padded_row number results) (number - 1) (Some w) → row_of is_dropped len made ≡ slice_set (row_of is_dropped len results) (number - 1) (Some (Some w))
put_row true number len results made w pos within few empty is = absurd (not_dropped true len results number pos within empty refl)
put_row false number len results made w pos within few empty is =
    let next : number ≡ (number - 1) + 1 = omega arith in
    ap (λ xs. map kept (padded_row len xs)) (is ∙ ap (λ n. slice_set (padded_row n results) (number - 1) (Some w)) next)
    ∙ ap (map kept) (put_padded (number - 1) len results (Some w) (omega arith) few) ∙ map-set kept (padded_row len results) (number - 1) (Some w)

-- and it fits in the row
pub put_fits : (is_dropped : Bool) (number len : ℕ) (results made : List (Option Work)) (w : Work) → 0 < number → number ≤ len → length results ≤ len → work_at (row_of is_dropped len results) number ≡ None
    → made ≡ slice_set (padded_row number results) (number - 1) (Some w) → (length made ≤ len) × (is_dropped ≡ true → made ≡ [])
put_fits is_dropped number len results made w pos within few empty is =
    let size : length made ≡ length results + (number - length results) =
    ap length is ∙ length-set (padded_row number results) (number - 1) (Some w) ∙ length-padded number results in
    (omega arith, λ told. absurd (not_dropped is_dropped len results number pos within empty told))

-- a slot that was there before is filled
pub set_there : (number : ℕ) (results filled : List (Option Work)) (w : Work) → 0 < number → filled ≡ padded_row (number - 1) results → number - 1 < length filled
    → slice_set filled (number - 1) (Some w) ≡ slice_set (padded_row number results) (number - 1) (Some w)
set_there number results filled w pos is there =
    let size : length filled ≡ length results + (number - 1 - length results) = ap length is ∙ length-padded (number - 1) results in
    let none : number - 1 - length results ≡ number - length results = omega arith in
    ap (λ xs. slice_set xs (number - 1) (Some w)) (is ∙ ap (λ k. results ++ replicate k None) none)

-- a slot is made that is filled
pub set_behind : (number : ℕ) (results filled : List (Option Work)) (w : Work) → 0 < number → filled ≡ padded_row (number - 1) results → (number - 1 < length filled → ⊥)
    → filled ++ Some w ∷ [] ≡ slice_set (padded_row number results) (number - 1) (Some w)
set_behind number results filled w pos is behind =
    let size : length filled ≡ length results + (number - 1 - length results) = ap length is ∙ length-padded (number - 1) results in
    let at : length filled ≡ number - 1 = omega (arith, behind) in
    let more : (number - 1 - length results) + 1 ≡ number - length results = omega (arith, behind) in
    let next : filled ++ None ∷ [] ≡ padded_row number results =
    ap (λ xs. xs ++ None ∷ []) is
    ∙ append_assoc results (replicate (number - 1 - length results) None) (None ∷ [])
    ∙ ap (λ xs. results ++ xs) (replicate-append-replicate (number - 1 - length results) 1 None)
    ∙ ap (λ k. results ++ replicate k None) more in
    sym (set-append_seam filled None [] (Some w))
    ∙ ap (λ k. slice_set (filled ++ None ∷ []) k (Some w)) at
    ∙ ap (λ xs. slice_set xs (number - 1) (Some w)) next

-- the results of a row that is full are dropped
full_dropped : (row : Row) → ((i : ℕ) → i < length row → is_some (work_in (slice_get row i)) ≡ true) → replicate (length row) (Some None) ≡ map dropped row
full_dropped [] full = refl
full_dropped (None ∷ row) full = absurd (let no = full 0 (omega arith) in cc)
full_dropped (Some taking ∷ row) full = ap (λ r. Some None ∷ r) (full_dropped row (λ i lt. full (suc i) (omega arith)))

pub drop_row : (len : ℕ) (row : Row) → length row ≡ len → IsFull row → replicate len (Some None) ≡ map dropped row
drop_row len row is full = ap (λ n. replicate n (Some None)) (sym is) ∙ full_dropped row (λ i lt. full (suc i) (omega arith) (omega arith))
