-- Slots in which results are kept.
use Rattle.std.proofs.Common.{◌≡◌, ℕ, zero, suc, ◌+◌, ◌-◌, ◌<◌, ◌≤◌, Bool, true, false, cond, eqb, ◌||◌, List, [], ◌∷◌, ◌++◌, length, get_or, map, set, replicate, Option, None, Some, is_some, refl, sym, ap, subst, ◌∙◌, arith, slice_get, ◌⊎◌, inl, inr}
use Rattle.std.proofs.Math.Bool.{or-false}
use Rattle.std.proofs.lemmas.Bool.Decides.{nat_tests}
use Rattle.std.proofs.lemmas.List.{length-map, length-set, length-replicate}
use Rattle.std.proofs.lemmas.Bool.{or_right}
use Rattle.std.proofs.lemmas.List.Folds.{list_any-append}
use Rattle.std.proofs.lemmas.Option.{get_or_from_slice_get, slice_get_within}
use Rattle.std.specs.Cmp.{tied_itself}
use Rattle.std.specs.FinSet.{contains-insert, same_set}
use Rattle.std.specs.List.{list_any}
use Rattle.std.specs.Ordering.{eq_by_cmp, is_eq}
use Rattle.census_bundle.specs.declared.bundle.Entry.{Entry}
use Rattle.census_bundle.specs.declared.bundle.Folder.{Folder}
use Rattle.census_bundle.specs.declared.ticket.Ticket.{Ticket}
use Rattle.census_bundle.specs.Tickets.{IsTicketOf, entry_at, entry_in, folder_of, has_ticket, no_tickets, number_in_folder, element_at, ticket, ticket_cmp, tickets_of, with_ticket}
use Rattle.census_book.specs.Collecting.{HasCollection, IsResult, IsResultOf}
use Rattle.census_book.specs.Slots.{Row, Taking, HasSlot, IsFull, KeepsResults, dropped, empty_slots, work_in, result_at, row_tickets, rows_tickets, work_at, slot_in, taken_in, taking_at, with_result, without_results}
use Rattle.census_book.specs.Work.{Work}
use Rattle.census_book.proofs.Kept.{result_at_own}
use Rattle.census_book.proofs.Padding.{held_dropped, held_map, none_in}
use Rattle.census_book.proofs.TicketSets.{apart, eq_symm, has_list, one_ticket, some_or, ticket_cmp_same, ticket_cmp_total}
use Rattle.life_answer.specs.declared.question.Question.{Question}

get_set_same : {X : Type 0} (xs : List X) (i : ℕ) (y : X) → i < length xs → slice_get (set xs i y) i ≡ Some y
get_set_same [] i y h = absurd (omega arith)
get_set_same (x ∷ xs) zero y h = refl
get_set_same (x ∷ xs) (suc i) y h = get_set_same xs i y (omega arith)

get_set_other : {X : Type 0} (xs : List X) (i j : ℕ) (y : X) → (j ≡ i → ⊥) → slice_get (set xs i y) j ≡ slice_get xs j
get_set_other [] i j y ne = refl
get_set_other (x ∷ xs) zero zero y ne = absurd (ne refl)
get_set_other (x ∷ xs) zero (suc j) y ne = refl
get_set_other (x ∷ xs) (suc i) zero y ne = refl
get_set_other (x ∷ xs) (suc i) (suc j) y ne = get_set_other xs i j y (λ e. ne (ap suc e))

numbers : (m n : ℕ) → (eqb m n ≡ true → m ≡ n) × (eqb m n ≡ false → m ≡ n → ⊥)
numbers m n = (λ h. grind (arith, nat_tests), λ h e. grind (arith, nat_tests))

tied : (q t : Ticket) → q.folder ≡ t.folder → q.number ≡ t.number → eq_by_cmp ticket_cmp q t ≡ true
tied q t p n =
    let e : q ≡ t = λ i. record { folder = p i; number = n i } in
    ap (λ u. eq_by_cmp ticket_cmp q u) (sym e) ∙ ap is_eq (tied_itself ticket_cmp_total q)

row_other : (test : Ticket → Bool) (c i : ℕ) (row : Row) → ((j : ℕ) → i ≤ j → test (ticket c j) ≡ false) → list_any test (row_tickets c i row) ≡ false
row_other test c i [] none = refl
row_other test c i (None ∷ row) none = row_other test c (suc i) row (λ j le. none j (omega arith))
row_other test c i (Some w ∷ row) none =
    ap (λ b. b || list_any test (row_tickets c (suc i) row)) (none i (omega arith)) ∙ row_other test c (suc i) row (λ j le. none j (omega arith))

row_from : (q : Ticket) (c i j : ℕ) (row : Row) → q.folder ≡ c → q.number ≡ i + j → list_any (eq_by_cmp ticket_cmp q) (row_tickets c i row) ≡ is_some (work_in (slice_get row j))
row_from q c i j [] p n = refl
row_from q c i zero (None ∷ row) p n =
    row_other (eq_by_cmp ticket_cmp q) c (suc i) row (λ k le. apart q (ticket c k) (λ e. let same : q.number ≡ k = ap number_in_folder e in absurd (omega arith)))
row_from q c i zero (Some w ∷ row) p n =
    let here : q.number ≡ i = omega (arith, n) in
    ap (λ b. b || list_any (eq_by_cmp ticket_cmp q) (row_tickets c (suc i) row)) (tied q (ticket c i) p here)
row_from q c i (suc j) (None ∷ row) p n = row_from q c (suc i) j row p (omega (arith, n))
row_from q c i (suc j) (Some w ∷ row) p n =
    ap (λ b. b || list_any (eq_by_cmp ticket_cmp q) (row_tickets c (suc i) row)) (apart q (ticket c i) (λ e. let same : q.number ≡ i = ap number_in_folder e in absurd (omega arith)))
    ∙ row_from q c (suc i) j row p (omega (arith, n))

row_at : (c n : ℕ) (row : Row) → list_any (eq_by_cmp ticket_cmp (ticket c n)) (row_tickets c 1 row) ≡ is_some (work_at row n)
row_at c zero row = row_other (eq_by_cmp ticket_cmp (ticket c 0)) c 1 row (λ k le. apart (ticket c 0) (ticket c k) (λ e. let same : 0 ≡ k = ap number_in_folder e in absurd (omega arith)))
row_at c (suc j) row = row_from (ticket c (suc j)) c 1 j row refl (omega arith)

rows_other : (q : Ticket) (c : ℕ) (rows : List Row) → q.folder < c → list_any (eq_by_cmp ticket_cmp q) (rows_tickets c rows) ≡ false
rows_other q c [] lt = refl
rows_other q c (row ∷ rows) lt =
    list_any-append (eq_by_cmp ticket_cmp q) (row_tickets c 1 row) (rows_tickets (suc c) rows)
    ∙ ap (λ b. b || list_any (eq_by_cmp ticket_cmp q) (rows_tickets (suc c) rows)) (row_other (eq_by_cmp ticket_cmp q) c 1 row (λ k le. apart q (ticket c k) (λ e. let same : q.folder ≡ c = ap folder_of e in absurd (omega arith))))
    ∙ rows_other q (suc c) rows (omega arith)

rows_from : (d n c j : ℕ) (rows : List Row) → d ≡ c + j → list_any (eq_by_cmp ticket_cmp (ticket d n)) (rows_tickets c rows) ≡ is_some (slot_in (slice_get rows j) n)
rows_from d n c j [] e = refl
rows_from d n c zero (row ∷ rows) e =
    let here : d ≡ c = omega (arith, e) in
    list_any-append (eq_by_cmp ticket_cmp (ticket d n)) (row_tickets c 1 row) (rows_tickets (suc c) rows)
    ∙ ap (λ b. list_any (eq_by_cmp ticket_cmp (ticket d n)) (row_tickets c 1 row) || b) (rows_other (ticket d n) (suc c) rows (omega (arith, here)))
    ∙ or-false _
    ∙ subst (λ x. list_any (eq_by_cmp ticket_cmp (ticket d n)) (row_tickets x 1 row) ≡ is_some (work_at row n)) here (row_at d n row)
rows_from d n c (suc j) (row ∷ rows) e =
    list_any-append (eq_by_cmp ticket_cmp (ticket d n)) (row_tickets c 1 row) (rows_tickets (suc c) rows)
    ∙ ap (λ b. b || list_any (eq_by_cmp ticket_cmp (ticket d n)) (rows_tickets (suc c) rows)) (row_other (eq_by_cmp ticket_cmp (ticket d n)) c 1 row (λ k le. apart (ticket d n) (ticket c k) (λ s. let same : d ≡ c = ap folder_of s in absurd (omega arith))))
    ∙ rows_from d n (suc c) j rows (omega (arith, e))

in_rows : (d n : ℕ) (rows : List Row) → list_any (eq_by_cmp ticket_cmp (ticket d n)) (rows_tickets 1 rows) ≡ is_some (taking_at rows (ticket d n))
in_rows zero n rows = rows_other (ticket 0 n) 1 rows (omega arith)
in_rows (suc j) n rows = rows_from (suc j) n 1 j rows (omega arith)

-- the tickets whose slots are taken
pub has_result : (rows : List Row) (q : Ticket) → has_ticket (taken_in rows) q ≡ is_some (taking_at rows q)
has_result rows q = has_list (rows_tickets 1 rows) q ∙ in_rows q.folder q.number rows

same_or_not : (m n : ℕ) → (m ≡ n) ⊎ (m ≡ n → ⊥)
same_or_not m n =
    elim (eqb m n) as (λ b. eqb m n ≡ b → (m ≡ n) ⊎ (m ≡ n → ⊥)) [
      | true ↦ λ is. let e : m ≡ n = grind (arith, nat_tests) in inl e
      | false ↦ λ is. inr (λ e. grind (arith, nat_tests))
    ] refl

-- a choice whose test is known
cond_no : {A : Type 0} (b : Bool) (x y z : A) → b ≡ false → z ≡ y → z ≡ cond b x y
cond_no b x y z is e = e ∙ ap (λ c. cond c x y) (sym is)

cond_yes : {A : Type 0} (b : Bool) (x y z : A) → b ≡ true → z ≡ x → z ≡ cond b x y
cond_yes b x y z is e = e ∙ ap (λ c. cond c x y) (sym is)

slot_put : (row : Row) (c m n : ℕ) (w : Taking) → m < length row → work_at (set row m (Some w)) n ≡ cond (eq_by_cmp ticket_cmp (ticket c (suc m)) (ticket c n)) (Some w) (work_at row n)
slot_put row c m zero w lt = cond_no _ _ _ _ (apart (ticket c (suc m)) (ticket c 0) (λ e. let same : suc m ≡ 0 = ap number_in_folder e in absurd (omega arith))) refl
slot_put row c m (suc i) w lt = at (same_or_not i m)
  where
    at : (i ≡ m) ⊎ (i ≡ m → ⊥) → work_in (slice_get (set row m (Some w)) i) ≡ cond (eq_by_cmp ticket_cmp (ticket c (suc m)) (ticket c (suc i))) (Some w) (work_in (slice_get row i))
    at (inl is) =
        cond_yes _ _ _ _ (tied (ticket c (suc m)) (ticket c (suc i)) refl (ap suc (sym is)))
        (ap (λ j. work_in (slice_get (set row m (Some w)) j)) is ∙ ap work_in (get_set_same row m (Some w) lt))
    at (inr not) =
        cond_no _ _ _ _ (apart (ticket c (suc m)) (ticket c (suc i)) (λ e. let same : suc m ≡ suc i = ap number_in_folder e in not (omega arith)))
        (ap work_in (get_set_other row m i (Some w) not))

row_put : (rows : List Row) (k m d n : ℕ) (row : Row) (w : Taking) → slice_get rows k ≡ Some row → m < length row
    → slot_in (element_at (set rows k (set row m (Some w))) d) n ≡ cond (eq_by_cmp ticket_cmp (ticket (suc k) (suc m)) (ticket d n)) (Some w) (slot_in (element_at rows d) n)
row_put rows k m zero n row w at lt = cond_no _ _ _ _ (apart (ticket (suc k) (suc m)) (ticket 0 n) (λ e. let same : suc k ≡ 0 = ap folder_of e in absurd (omega arith))) refl
row_put rows k m (suc j) n row w at lt = here (same_or_not j k)
  where
    here : (j ≡ k) ⊎ (j ≡ k → ⊥) → slot_in (slice_get (set rows k (set row m (Some w))) j) n ≡ cond (eq_by_cmp ticket_cmp (ticket (suc k) (suc m)) (ticket (suc j) n)) (Some w) (slot_in (slice_get rows j) n)
    here (inl is) =
        let new = ap (slice_get (set rows k (set row m (Some w)))) is ∙ get_set_same rows k (set row m (Some w)) (slice_get_within rows k row at) in
        let old = ap (slice_get rows) is ∙ at in
        ap (λ o. slot_in o n) new
        ∙ slot_put row (suc k) m n w lt
        ∙ ap (λ c. cond (eq_by_cmp ticket_cmp (ticket (suc k) (suc m)) (ticket (suc c) n)) (Some w) (work_at row n)) (sym is)
        ∙ ap (λ o. cond (eq_by_cmp ticket_cmp (ticket (suc k) (suc m)) (ticket (suc j) n)) (Some w) (slot_in o n)) (sym old)
    here (inr not) =
        cond_no _ _ _ _ (apart (ticket (suc k) (suc m)) (ticket (suc j) n) (λ e. let same : suc k ≡ suc j = ap folder_of e in not (omega arith)))
        (ap (λ o. slot_in o n) (get_set_other rows k j (set row m (Some w)) not))

put_any : (rows : List Row) (c i : ℕ) (w : Taking) (q : Ticket) → HasSlot rows (ticket c i)
    → taking_at (set rows (c - 1) (set (get_or rows (c - 1) []) (i - 1) (Some w))) q ≡ cond (eq_by_cmp ticket_cmp (ticket c i) q) (Some w) (taking_at rows q)
put_any rows zero i w q has = absurd (let no = has.1 in cc)
put_any rows (suc k) zero w q has = absurd (let no = has.2 in omega arith)
put_any rows (suc k) (suc m) w q has =
    let row = has.0 in
    let p : k ≡ suc k - 1 = omega arith in
    let r : m ≡ suc m - 1 = omega arith in
    let lt : m < length row = let le = has.3 in omega arith in
    let is : row ≡ get_or rows k [] = sym (get_or_from_slice_get rows k row [] has.1) in
    let P : List Row → Type 0 = λ new. taking_at new q ≡ cond (eq_by_cmp ticket_cmp (ticket (suc k) (suc m)) q) (Some w) (taking_at rows q) in
    subst (λ x. P (set rows x (set (get_or rows x []) (suc m - 1) (Some w)))) p
    (subst (λ y. P (set rows k (set (get_or rows k []) y (Some w)))) r
    (subst (λ (s : Row). P (set rows k (set s m (Some w)))) is (row_put rows k m q.folder q.number row w has.1 lt)))

-- what is in each slot, once one more result was put into its own
pub result_put : (rows : List Row) (w : Work) (q : Ticket) → HasSlot rows w.ticket → taking_at (with_result rows w) q ≡ cond (eq_by_cmp ticket_cmp w.ticket q) (Some (Some w)) (taking_at rows q)
result_put rows w q has = put_any rows w.ticket.folder w.ticket.number (Some w) q has

-- the tickets taken, once one more result was put into its slot
pub tickets_put : (rows : List Row) (w : Work) → HasSlot rows w.ticket → taken_in (with_result rows w) ≡ with_ticket (taken_in rows) w.ticket
tickets_put rows w has =
    same_set ticket_cmp_total ticket_cmp_same (taken_in (with_result rows w)) (with_ticket (taken_in rows) w.ticket) (λ q.
    has_result (with_result rows w) q ∙ ap is_some (result_put rows w q has) ∙ some_or (eq_by_cmp ticket_cmp w.ticket q) (Some w) (taking_at rows q) ∙ ap (λ b. b || is_some (taking_at rows q)) (eq_symm q w.ticket)
    ∙ ap (λ b. eq_by_cmp ticket_cmp q w.ticket || b) (sym (has_result rows q)) ∙ sym (contains-insert ticket_cmp_total (taken_in rows) w.ticket q))

-- a ticket of the bundle has a slot
pub has_slot : (b : List Folder) (question : Question) (rows : List Row) (t : Ticket) (e : Entry) → KeepsResults b question rows → entry_at b t ≡ Some e → HasSlot rows t
has_slot b question rows t e keeps at = slot t.folder t.number at
  where
    in_row : (k i : ℕ) (f : Folder) (row : Row) → slice_get rows k ≡ Some row → length row ≡ length f.entries → element_at f.entries i ≡ Some e → HasSlot rows (ticket (suc k) i)
    in_row k zero f row here len is = absurd (cc)
    in_row k (suc m) f row here len is =
        let lt : m < length f.entries = slice_get_within f.entries m e is in
        (row, here, omega arith, omega (arith, lt, len))

    slot : (c i : ℕ) → entry_in (element_at b c) i ≡ Some e → HasSlot rows (ticket c i)
    slot zero i is = absurd (cc)
    slot (suc k) i is =
        elim (slice_get b k) as (λ o. slice_get b k ≡ o → entry_in o i ≡ Some e → HasSlot rows (ticket (suc k) i)) [
          | None ↦ λ _ no. absurd (cc)
          | Some f ↦ λ here in_f. let kept = keeps.slots k f here in in_row k i f kept.0 kept.1 kept.2 in_f
        ] refl is

-- one more result that belongs there
pub keeps_put : (b : List Folder) (question : Question) (rows : List Row) (w : Work) → KeepsResults b question rows → IsResultOf b question w → KeepsResults b question (with_result rows w)
keeps_put b question rows w keeps belongs =
    let has = has_slot b question rows w.ticket belongs.entry keeps belongs.at in
    record {
      slots = λ k f at.
          let kept = keeps.slots k f at in
          slots k (length f.entries) kept.0 kept.1 kept.2;
      results = λ q v at.
          elim (eq_by_cmp ticket_cmp w.ticket q) as (λ x. eq_by_cmp ticket_cmp w.ticket q ≡ x → work_in (cond x (Some (Some w)) (taking_at rows q)) ≡ Some v → IsResult b question q v) [
            | true ↦ λ is here.
                let same : w ≡ v = cc in
                subst (IsResult b question q) same (result_at_own b question q w (one_ticket w.ticket q is) belongs)
            | false ↦ λ _ there. keeps.results q v there
          ] refl (ap work_in (sym (result_put rows w q has)) ∙ at);
      whole = λ q at u of same.
          elim (eq_by_cmp ticket_cmp w.ticket q) as (λ x. cond x (Some (Some w)) (taking_at rows q) ≡ Some None → is_some (taking_at (with_result rows w) u) ≡ true) [
            | true ↦ λ here. absurd (cc)
            | false ↦ λ there.
                ap is_some (result_put rows w u has) ∙ some_or (eq_by_cmp ticket_cmp w.ticket u) (Some w) (taking_at rows u)
                ∙ ap (λ b. eq_by_cmp ticket_cmp w.ticket u || b) (keeps.whole q there u of same) ∙ or_right (eq_by_cmp ticket_cmp w.ticket u) true refl
          ] (sym (result_put rows w q has) ∙ at);
    }
  where
    slots : (k n : ℕ) (row : Row) → slice_get rows k ≡ Some row → length row ≡ n → (new : Row) × (slice_get (with_result rows w) k ≡ Some new) × (length new ≡ n)
    slots k n row here len = by (same_or_not k (w.ticket.folder - 1))
      where
        by : (k ≡ w.ticket.folder - 1) ⊎ (k ≡ w.ticket.folder - 1 → ⊥) → (new : Row) × (slice_get (with_result rows w) k ≡ Some new) × (length new ≡ n)
        by (inl is) =
            let at : slice_get rows (w.ticket.folder - 1) ≡ Some row = subst (λ j. slice_get rows j ≡ Some row) is here in
            let old : get_or rows (w.ticket.folder - 1) [] ≡ row = get_or_from_slice_get rows (w.ticket.folder - 1) row [] at in
            let new = set (get_or rows (w.ticket.folder - 1) []) (w.ticket.number - 1) (Some (Some w)) in (
              new,
              ap (slice_get (with_result rows w)) is ∙ get_set_same rows (w.ticket.folder - 1) new (slice_get_within rows (w.ticket.folder - 1) row at),
              length-set (get_or rows (w.ticket.folder - 1) []) (w.ticket.number - 1) (Some (Some w)) ∙ ap length old ∙ len,
            )
        by (inr not) = (row, get_set_other rows (w.ticket.folder - 1) k _ not ∙ here, len)

slot_empty : (n i : ℕ) → work_at (replicate n None) i ≡ None
slot_empty n zero = refl
slot_empty n (suc i) = none_in n i

rows_empty : (b : List Folder) (k i : ℕ) → slot_in (slice_get (empty_slots b) k) i ≡ None
rows_empty [] k i = refl
rows_empty (f ∷ b) zero i = slot_empty (length f.entries) i
rows_empty (f ∷ b) (suc k) i = rows_empty b k i

-- nothing is in slots that are empty
pub result_empty : (b : List Folder) (t : Ticket) → taking_at (empty_slots b) t ≡ None
result_empty b t = at t.folder t.number
  where
    at : (c i : ℕ) → slot_in (element_at (empty_slots b) c) i ≡ None
    at zero i = refl
    at (suc k) i = rows_empty b k i

no_tickets_from : (c i n : ℕ) → row_tickets c i (replicate n None) ≡ []
no_tickets_from c i zero = refl
no_tickets_from c i (suc n) = no_tickets_from c (suc i) n

no_tickets_in : (c : ℕ) (b : List Folder) → rows_tickets c (empty_slots b) ≡ []
no_tickets_in c [] = refl
no_tickets_in c (f ∷ b) = ap (λ ts. ts ++ rows_tickets (suc c) (empty_slots b)) (no_tickets_from c 1 (length f.entries)) ∙ no_tickets_in (suc c) b

-- no ticket is taken in empty slots
pub taken_empty : (b : List Folder) → taken_in (empty_slots b) ≡ no_tickets
taken_empty b = ap tickets_of (no_tickets_in 1 b)

empty_row : (b : List Folder) (k : ℕ) (f : Folder) → slice_get b k ≡ Some f → (row : Row) × (slice_get (empty_slots b) k ≡ Some row) × (length row ≡ length f.entries)
empty_row [] k f at = absurd (cc)
empty_row (g ∷ b) zero f at =
    let same : g ≡ f = cc in
    (replicate (length g.entries) None, refl, length-replicate (length g.entries) None ∙ ap (λ (x : Folder). length x.entries) same)
empty_row (g ∷ b) (suc k) f at = empty_row b k f at

-- empty slots keep nothing that doesn't belong
pub keeps_empty : (b : List Folder) (question : Question) → KeepsResults b question (empty_slots b)
keeps_empty b question = record {
  slots = empty_row b;
  results = λ t w at. absurd (let none = ap work_in (result_empty b t) in cc);
  whole = λ t at u of same. absurd (let none = result_empty b t in cc);
}

row_dropped : (c i : ℕ) (row : Row) → row_tickets c i (map dropped row) ≡ row_tickets c i row
row_dropped c i [] = refl
row_dropped c i (None ∷ row) = row_dropped c (suc i) row
row_dropped c i (Some taking ∷ row) = ap (λ ts. ticket c i ∷ ts) (row_dropped c (suc i) row)

rows_dropped : (c : ℕ) (rows : List Row) (k : ℕ) → rows_tickets c (set rows k (map dropped (get_or rows k []))) ≡ rows_tickets c rows
rows_dropped c [] k = refl
rows_dropped c (row ∷ rows) zero = ap (λ ts. ts ++ rows_tickets (suc c) rows) (row_dropped c 1 row)
rows_dropped c (row ∷ rows) (suc k) = ap (λ ts. row_tickets c 1 row ++ ts) (rows_dropped (suc c) rows k)

-- the tickets taken, if a collection's results are dropped
pub tickets_dropped : (rows : List Row) (c : ℕ) → taken_in (without_results rows c) ≡ taken_in rows
tickets_dropped rows c = ap tickets_of (rows_dropped 1 rows (c - 1))

slot_dropped : (row : Row) (i : ℕ) → work_at (map dropped row) i ≡ dropped (work_at row i)
slot_dropped row zero = refl
slot_dropped row (suc i) = held_map dropped refl row i

dropped_here : (rows : List Row) (k i : ℕ) → slot_in (slice_get (set rows k (map dropped (get_or rows k []))) k) i ≡ dropped (slot_in (slice_get rows k) i)
dropped_here [] k i = refl
dropped_here (row ∷ rows) zero i = slot_dropped row i
dropped_here (row ∷ rows) (suc k) i = dropped_here rows k i

-- what is in the slots of a collection whose results are dropped
taking_dropped : (rows : List Row) (c : ℕ) (t : Ticket) → 0 < c → t.folder ≡ c → taking_at (without_results rows c) t ≡ dropped (taking_at rows t)
taking_dropped rows c t pos own = at t.folder own
  where
    at : (d : ℕ) → d ≡ c → slot_in (element_at (without_results rows c) d) t.number ≡ dropped (slot_in (element_at rows d) t.number)
    at zero e = absurd (omega arith)
    at (suc j) e =
        let k : j ≡ c - 1 = omega arith in
        subst (λ i. slot_in (slice_get (set rows i (map dropped (get_or rows i []))) j) t.number ≡ dropped (slot_in (slice_get rows j) t.number)) k (dropped_here rows j t.number)

-- and in those of the others
taking_other : (rows : List Row) (c : ℕ) (t : Ticket) → 0 < c → (t.folder ≡ c → ⊥) → taking_at (without_results rows c) t ≡ taking_at rows t
taking_other rows c t pos apart = at t.folder apart
  where
    at : (d : ℕ) → (d ≡ c → ⊥) → slot_in (element_at (without_results rows c) d) t.number ≡ slot_in (element_at rows d) t.number
    at zero ne = refl
    at (suc j) ne = ap (λ o. slot_in o t.number) (get_set_other rows (c - 1) j (map dropped (get_or rows (c - 1) [])) (λ e. ne (omega arith)))

-- a row keeps its length if its results are dropped
row_length : (rows : List Row) (c k n : ℕ) (row : Row) → slice_get rows k ≡ Some row → length row ≡ n → (new : Row) × (slice_get (without_results rows c) k ≡ Some new) × (length new ≡ n)
row_length rows c k n row here len = by (same_or_not k (c - 1))
  where
    by : (k ≡ c - 1) ⊎ (k ≡ c - 1 → ⊥) → (new : Row) × (slice_get (without_results rows c) k ≡ Some new) × (length new ≡ n)
    by (inl is) =
        let at : slice_get rows (c - 1) ≡ Some row = subst (λ j. slice_get rows j ≡ Some row) is here in
        let old : get_or rows (c - 1) [] ≡ row = get_or_from_slice_get rows (c - 1) row [] at in
        let new = map dropped (get_or rows (c - 1) []) in
        (new, ap (slice_get (without_results rows c)) is ∙ get_set_same rows (c - 1) new (slice_get_within rows (c - 1) row at), length-map (get_or rows (c - 1) []) dropped ∙ ap length old ∙ len)
    by (inr not) = (row, get_set_other rows (c - 1) k (map dropped (get_or rows (c - 1) [])) not ∙ here, len)

-- the results of a collection that has arrived whole are dropped
pub keeps_dropped : (b : List Folder) (question : Question) (rows : List Row) (c : ℕ) → KeepsResults b question rows → 0 < c → HasCollection b (taken_in rows) c → KeepsResults b question (without_results rows c)
keeps_dropped b question rows c keeps pos whole = record {
  slots = λ k f at. let kept = keeps.slots k f at in row_length rows c k (length f.entries) kept.0 kept.1 kept.2;
  results = λ t w at. by t w at (same_or_not t.folder c);
  whole = λ t at u of same.
      alike u ∙ full t at u of same (same_or_not t.folder c);
}
  where
    alike : (u : Ticket) → is_some (taking_at (without_results rows c) u) ≡ is_some (taking_at rows u)
    alike u = sym (has_result (without_results rows c) u) ∙ ap (λ ts. has_ticket ts u) (tickets_dropped rows c) ∙ has_result rows u

    by : (t : Ticket) (w : Work) → result_at (without_results rows c) t ≡ Some w → (t.folder ≡ c) ⊎ (t.folder ≡ c → ⊥) → IsResult b question t w
    by t w at (inl own) = absurd (let none = ap work_in (taking_dropped rows c t pos own) ∙ held_dropped (taking_at rows t) in cc)
    by t w at (inr apart) = keeps.results t w (ap work_in (sym (taking_other rows c t pos apart)) ∙ at)

    full : (t : Ticket) → taking_at (without_results rows c) t ≡ Some None → (u : Ticket) → IsTicketOf b u → u.folder ≡ t.folder → (t.folder ≡ c) ⊎ (t.folder ≡ c → ⊥) → is_some (taking_at rows u) ≡ true
    full t at u of same (inl own) = sym (has_result rows u) ∙ whole u of (same ∙ own)
    full t at u of same (inr apart) = keeps.whole t (sym (taking_other rows c t pos apart) ∙ at) u of same

-- a ticket that is taken but whose result is not kept is of a collection that has arrived whole
pub not_kept : (b : List Folder) (question : Question) (rows : List Row) (t : Ticket) → KeepsResults b question rows → result_at rows t ≡ None → has_ticket (taken_in rows) t ≡ true → HasCollection b (taken_in rows) t.folder
not_kept b question rows t keeps none has u of same =
    has_result rows u ∙ keeps.whole t (was_dropped (taking_at rows t) none (sym (has_result rows t) ∙ has)) u of same
  where
    was_dropped : (x : Option Taking) → work_in x ≡ None → is_some x ≡ true → x ≡ Some None
    was_dropped None not is = absurd (cc)
    was_dropped (Some taking) not is = ap Some not

-- the slot of a ticket that is not taken is empty
pub slot_free : (rows : List Row) (t : Ticket) → has_ticket (taken_in rows) t ≡ false → taking_at rows t ≡ None
slot_free rows t not = free (taking_at rows t) (sym (has_result rows t) ∙ not)
  where
    free : (x : Option Taking) → is_some x ≡ false → x ≡ None
    free None not = refl
    free (Some taking) not = absurd (cc)

element_here : {A : Type 0} (xs : List A) (k : ℕ) → k < length xs → (x : A) × (slice_get xs k ≡ Some x)
element_here [] k lt = absurd (omega arith)
element_here (x ∷ xs) zero lt = (x, refl)
element_here (x ∷ xs) (suc k) lt = element_here xs k (omega arith)

element_numbered : {A : Type 0} (xs : List A) (i : ℕ) → 0 < i → i ≤ length xs → (x : A) × (element_at xs i ≡ Some x)
element_numbered xs zero pos le = absurd (omega arith)
element_numbered xs (suc i) pos le = element_here xs i (omega arith)

-- each collection has a row
pub row_within : (b : List Folder) (question : Question) (rows : List Row) (c : ℕ) → KeepsResults b question rows → c ≤ length b → c ≤ length rows
row_within b question rows zero keeps within = omega arith
row_within b question rows (suc k) keeps within =
    let f = element_here b k (omega arith) in
    let kept = keeps.slots k f.0 f.1 in
    let lt = slice_get_within rows k kept.0 kept.1 in
    omega arith

-- each slot of a collection that has arrived whole is taken
pub row_full : (b : List Folder) (question : Question) (rows : List Row) (c : ℕ) (row : Row) → KeepsResults b question rows → c ≤ length b → HasCollection b (taken_in rows) c → element_at rows c ≡ Some row → IsFull row
row_full b question rows zero row keeps within whole at i pos le = absurd (cc)
row_full b question rows (suc k) row keeps within whole at i pos le =
    let f = element_here b k (omega arith) in
    let kept = keeps.slots k f.0 f.1 in
    let same : Some kept.0 ≡ Some row = sym kept.1 ∙ at in
    let is : kept.0 ≡ row = cc in
    let size : length row ≡ length f.0.entries = ap length (sym is) ∙ kept.2 in
    let e = element_numbered f.0.entries i pos (omega arith) in
    ap (λ o. is_some (slot_in o i)) (sym at) ∙ sym (has_result rows (ticket (suc k) i)) ∙ whole (ticket (suc k) i) (e.0, ap (λ o. entry_in o i) f.1 ∙ e.1) refl
