-- How far each collection has come.
use Rattle.std.proofs.Common.{◌≡◌, ℕ, zero, suc, ◌+◌, ◌-◌, ◌<◌, ◌≤◌, true, false, cond, eqb, ltb, List, [], ◌∷◌, ◌++◌, length, get_or, set, Option, Some, refl, sym, ap, subst, ◌∙◌, arith, slice_get, slice_index}
use Rattle.std.proofs.lemmas.Bool.Decides.{nat_tests}
use Rattle.std.proofs.lemmas.List.{get_or-set_same, get_or-set_other, length-set, get_or_read}
use Rattle.std.proofs.lemmas.Option.{slice_get_within}
use Rattle.census_bundle.specs.declared.bundle.Entry.{Entry}
use Rattle.census_bundle.specs.declared.bundle.Folder.{Folder}
use Rattle.census_bundle.specs.declared.ticket.Ticket.{Ticket}
use Rattle.census_bundle.specs.Tickets.{Tickets, no_tickets, element_at, entry_at, with_ticket, has_ticket, ticket}
use Rattle.census_book.specs.Front.{FolderRun, IsFront, IsNextOpen, run_at}
use Rattle.census_book.specs.Collecting.{Belongs, IsLeastMissing}
use Rattle.census_format.specs.Lines.{end_line, groups_text}
use Rattle.census_format.specs.Reports.{run_of, has_all, end_if, folder_out, text_released, folder_text_released}
use Rattle.census_book.proofs.TicketSets.{has_other, has_kept}
use Rattle.census_book.proofs.Runs.{run_same, run_before, run_within}
use Rattle.census_book.proofs.Missing.{least_missing}
use Rattle.census_bundle.specs.Sizes.{IsWithinCounts, count_limit}
use Rattle.census_book.proofs.Releases.{all_each, all_not, run_none, folder_at, not_whole}
use Rattle.census_book.proofs.Texts.{ticket_in}
use Rattle.census_format.proofs.Owning.{eqb_same, eqb_apart}
use Rattle.census_rows.specs.Lines.{text_of}
use Rattle.life_answer.specs.declared.question.Question.{Question}

-- the runs are those of these tickets, and the first open collection was looked for from one before which all are whole
pub next_front : (b : List Folder) (taken : Tickets) (new runs : List ℕ) (come : FolderRun) (from first : ℕ) → length new ≡ length b
    → ((k : ℕ) (f : Folder) → slice_get b k ≡ Some f → slice_index new k ≡ run_at runs come k)
    → ((k : ℕ) (f : Folder) → slice_get b k ≡ Some f → run_at runs come k ≡ run_of taken (1 + k) f)
    → ((k : ℕ) → k < from → (f : Folder) → slice_get b k ≡ Some f → run_of taken (1 + k) f ≡ length f.entries)
    → IsNextOpen b runs come from first → IsFront b taken new first
next_front b taken new runs come from first size same is before next = record {
  each = size;
  run = λ k f at. same k f at ∙ is k f at;
  whole = λ k lt f at.
      elim (ltb k from) as (λ x. ltb k from ≡ x → run_of taken (1 + k) f ≡ length f.entries) [
        | true ↦ λ e. before k (grind (arith, nat_tests)) f at
        | false ↦ λ e. sym (is k f at) ∙ next.whole k (grind (arith, nat_tests)) lt f at
      ] refl;
  within = next.within;
  part = λ f at full. next.part f at (is first f at ∙ full);
}

run_at-other : (runs : List ℕ) (come : FolderRun) (k : ℕ) → (k + 1 ≡ come.folder → ⊥) → run_at runs come k ≡ slice_index runs k
run_at-other runs come k apart = ap (λ b. cond b come.run (slice_index runs k)) (eqb_apart (k + 1) come.folder apart)

-- nothing has arrived
pub front_new : (b : List Folder) (runs : List ℕ) (first : ℕ) → length runs ≡ length b → ((k : ℕ) → k < length b → slice_index runs k ≡ 0) → IsNextOpen b runs (record { folder = 0; run = 0 }) 0 first → IsFront b no_tickets runs first
front_new b runs first size zeros next =
    let none : FolderRun = record { folder = 0; run = 0 } in
    let other : (k : ℕ) → run_at runs none k ≡ slice_index runs k = λ k. run_at-other runs none k (λ e. absurd (omega arith)) in
    next_front b no_tickets runs runs none 0 first size (λ k f at. sym (other k)) (λ k f at. other k ∙ zeros k (slice_get_within b k f at) ∙ sym (run_none (1 + k) 1 f.entries))
    (λ k lt f at. absurd (omega arith)) next

numbered_before : {A : Type 0} (xs : List A) (c k : ℕ) (x : A) → k + 1 ≡ c → slice_get xs k ≡ Some x → element_at xs c ≡ Some x
numbered_before xs zero k x is at = absurd (omega arith)
numbered_before xs (suc c) k x is at = let n : k ≡ c = omega arith in subst (λ m. slice_get xs m ≡ Some x) n at

-- one more ticket leaves the runs of the other collections
run_other : (taken : Tickets) (t : Ticket) (c : ℕ) (f : Folder) → (c ≡ t.folder → ⊥) → run_of taken c f ≡ run_of (with_ticket taken t) c f
run_other taken t c f apart =
    run_same (λ i. has_ticket taken (ticket c i)) (λ i. has_ticket (with_ticket taken t) (ticket c i)) (λ j. sym (has_other taken t (ticket c j) (λ e. apart (ap (λ (u : Ticket). u.folder) e)))) 1 f.entries

-- the runs, once one more ticket has arrived
pub runs_with : (b : List Folder) (taken : Tickets) (runs : List ℕ) (first : ℕ) (t : Ticket) (m : ℕ) → IsFront b taken runs first
    → ((f : Folder) → element_at b t.folder ≡ Some f → m ≡ run_of (with_ticket taken t) t.folder f)
    → (k : ℕ) (f : Folder) → slice_get b k ≡ Some f → run_at runs (record { folder = t.folder; run = m }) k ≡ run_of (with_ticket taken t) (1 + k) f
runs_with b taken runs first t m front here k f at =
    let one : k + 1 ≡ 1 + k = omega arith in
    elim (eqb (k + 1) t.folder) as (λ x. eqb (k + 1) t.folder ≡ x → cond x m (slice_index runs k) ≡ run_of (with_ticket taken t) (1 + k) f) [
      | true ↦ λ e.
          let c : k + 1 ≡ t.folder = grind (arith, nat_tests) in
          here f (numbered_before b t.folder k f c at) ∙ ap (λ n. run_of (with_ticket taken t) n f) (sym c ∙ one)
      | false ↦ λ e.
          let apart : 1 + k ≡ t.folder → ⊥ = λ is. absurd (false≢true (sym e ∙ eqb_same (k + 1) t.folder (one ∙ is))) in
          front.run k f at ∙ run_other taken t (1 + k) f apart
    ] refl
  where
    false≢true : false ≡ true → ⊥
    false≢true e = cc

-- a collection that was whole before is whole afterwards
whole_with : (b : List Folder) (taken : Tickets) (runs : List ℕ) (first : ℕ) (t : Ticket) → IsFront b taken runs first
    → ((f : Folder) → element_at b t.folder ≡ Some f → run_of taken t.folder f ≡ length f.entries → ⊥)
    → (k : ℕ) → k < first → (f : Folder) → slice_get b k ≡ Some f → run_of (with_ticket taken t) (1 + k) f ≡ length f.entries
whole_with b taken runs first t front part k lt f at =
    let one : k + 1 ≡ 1 + k = omega arith in
    let whole = front.whole k lt f at in
    sym (run_other taken t (1 + k) f (λ is. part f (numbered_before b t.folder k f (one ∙ is) at) (ap (λ n. run_of taken n f) (sym is) ∙ whole))) ∙ whole

-- the front, once one more ticket has arrived
pub front_with : (b : List Folder) (taken : Tickets) (runs : List ℕ) (first next : ℕ) (t : Ticket) (m : ℕ) → IsFront b taken runs first
    → (0 < t.folder) × (t.folder ≤ length b)
    → ((f : Folder) → element_at b t.folder ≡ Some f → m ≡ run_of (with_ticket taken t) t.folder f)
    → ((f : Folder) → element_at b t.folder ≡ Some f → run_of taken t.folder f ≡ length f.entries → ⊥)
    → IsNextOpen b runs (record { folder = t.folder; run = m }) first next → IsFront b (with_ticket taken t) (set runs (t.folder - 1) m) next
front_with b taken runs first next t m front within here part behind =
    let new = set runs (t.folder - 1) m in
    next_front b (with_ticket taken t) new runs (record { folder = t.folder; run = m }) first next (length-set runs (t.folder - 1) m ∙ front.each)
    (λ k f at.
    elim (eqb (k + 1) t.folder) as (λ x. eqb (k + 1) t.folder ≡ x → get_or new k 0 ≡ cond x m (get_or runs k 0)) [
      | true ↦ λ e.
          let n : t.folder - 1 ≡ k = grind (arith, nat_tests) in
          let lt : t.folder - 1 < length runs = let s = front.each in omega arith in
          ap (λ j. get_or new j 0) (sym n) ∙ get_or-set_same runs (t.folder - 1) m 0 lt
      | false ↦ λ e. get_or-set_other runs (t.folder - 1) k m 0 (λ is. grind (arith, nat_tests))
    ] refl)
    (runs_with b taken runs first t m front here)
    (whole_with b taken runs first t front part)
    behind

-- each collection has arrived whole exactly if none is open
pub all_front : (b : List Folder) (taken : Tickets) (runs : List ℕ) (first : ℕ) → IsFront b taken runs first → first ≡ length b → has_all b taken ≡ true
all_front b taken runs first front is = all_each taken 1 b (λ j f at. front.whole j (let lt = slice_get_within b j f at in omega arith) f at)

pub part_front : (b : List Folder) (taken : Tickets) (runs : List ℕ) (first : ℕ) → IsFront b taken runs first → (first ≡ length b → ⊥) → has_all b taken ≡ false
part_front b taken runs first front apart =
    let lt : first < length b = let w = front.within in omega (arith, apart) in
    let f = folder_here b first lt in
    all_not taken (1 + first) 1 first b f.0 refl f.1 (front.part f.0 f.1)
  where
    folder_here : (fs : List Folder) (k : ℕ) → k < length fs → (f : Folder) × (slice_get fs k ≡ Some f)
    folder_here [] k lt = absurd (omega arith)
    folder_here (f ∷ fs) zero lt = (f, refl)
    folder_here (f ∷ fs) (suc k) lt = folder_here fs k (omega arith)

-- the run of a collection
pub front_run : (b : List Folder) (taken : Tickets) (runs : List ℕ) (first c : ℕ) (f : Folder) → IsFront b taken runs first → element_at b c ≡ Some f → slice_index runs (c - 1) ≡ run_of taken c f
front_run b taken runs first zero f front at = absurd (cc)
front_run b taken runs first (suc k) f front at =
    let one : 1 + k ≡ suc k = omega arith in
    let less : suc k - 1 ≡ k = omega arith in
    ap (slice_index runs) less ∙ front.run k f at ∙ ap (λ n. run_of taken n f) one

-- each pattern of a run has arrived, also once one more ticket has
pub run_kept : (taken : Tickets) (t : Ticket) (c k : ℕ) (f : Folder) → k ≡ run_of taken c f → (j : ℕ) → j < k → has_ticket (with_ticket taken t) (ticket c (1 + j)) ≡ true
run_kept taken t c k f is j lt =
    let within : j < run_of taken c f = subst (λ n. j < n) is lt in
    has_kept taken t (ticket c (1 + j)) (run_before (λ i. has_ticket taken (ticket c i)) 1 f.entries j within)

-- the front after a result that belongs there
pub front_after : (b : List Folder) (question : Question) (taken : Tickets) (runs : List ℕ) (first next : ℕ) (t : Ticket) (m : ℕ) (worked : Entry) (asked : Question) → IsFront b taken runs first → Belongs b question t worked asked → has_ticket taken t ≡ false
    → ((f : Folder) → element_at b t.folder ≡ Some f → m ≡ run_of (with_ticket taken t) t.folder f) → IsNextOpen b runs (record { folder = t.folder; run = m }) first next → IsFront b (with_ticket taken t) (set runs (t.folder - 1) m) next
front_after b question taken runs first next t m worked n front belongs new here behind =
    let at = folder_at (element_at b t.folder) t.number belongs.entry belongs.at in
    front_with b taken runs first next t m front (ticket_in b t belongs.entry belongs.at) here
    (λ f is whole.
    let one : Some at.0 ≡ Some f = sym at.1 ∙ is in
    let same : at.0 ≡ f = cc in
    not_whole taken f t belongs.entry (ap (λ (g : Folder). element_at g.entries t.number) (sym same) ∙ at.2) new whole)
    behind

-- if no collection is open, the last line
pub end_when : (b : List Folder) (taken : Tickets) (runs : List ℕ) (first : ℕ) → IsFront b taken runs first → first ≡ length b → text_of (end_line b) ≡ end_if (has_all b taken) b
end_when b taken runs first front is = ap (λ x. end_if x b) (sym (all_front b taken runs first front is))

pub no_end_when : (b : List Folder) (taken : Tickets) (runs : List ℕ) (first : ℕ) → IsFront b taken runs first → (first ≡ length b → ⊥) → [] ≡ end_if (has_all b taken) b
no_end_when b taken runs first front apart = ap (λ x. end_if x b) (sym (part_front b taken runs first front apart))

-- the text that a result releases
pub released_text : (b : List Folder) (question : Question) (taken : Tickets) (t : Ticket) (f : Folder) (k m : ℕ) (text ended : List ℕ) → element_at b t.folder ≡ Some f → k ≡ run_of taken t.folder f → m ≡ run_of (with_ticket taken t) t.folder f
    → ended ≡ end_if (has_all b (with_ticket taken t)) b → text ≡ groups_text (folder_out question t.folder f k m) ++ ended → text ≡ text_released b question taken t
released_text b question taken t f k m text ended at is_k is_m is_ended is =
    let after = with_ticket taken t in
    is ∙ ap (λ x. groups_text (folder_out question t.folder f k m) ++ x) is_ended
    ∙ ap (λ n. groups_text (folder_out question t.folder f n m) ++ end_if (has_all b after) b) is_k
    ∙ ap (λ n. groups_text (folder_out question t.folder f (run_of taken t.folder f) n) ++ end_if (has_all b after) b) is_m
    ∙ ap (λ o. folder_text_released question o taken t ++ end_if (has_all b after) b) (sym at)

pub same_folder : (o : Option Folder) (f g : Folder) → o ≡ Some f → o ≡ Some g → f ≡ g
same_folder o f g one other = let both : Some f ≡ Some g = sym one ∙ other in cc

-- the run that is in the list
pub run_read : (b : List Folder) (taken : Tickets) (runs : List ℕ) (first : ℕ) (t : Ticket) (e : Entry) (f : Folder) (k : ℕ) → IsFront b taken runs first → entry_at b t ≡ Some e → element_at b t.folder ≡ Some f
    → k ≡ get_or runs (t.folder - 1) k → k ≡ run_of taken t.folder f
run_read b taken runs first t e f k front of at is =
    let w = ticket_in b t e of in
    let s = front.each in
    let lt : t.folder - 1 < length runs = omega arith in
    get_or_read runs (t.folder - 1) k lt is 0 ∙ front_run b taken runs first t.folder f front at

folder_here : (fs : List Folder) (k : ℕ) → k < length fs → (f : Folder) × (slice_get fs k ≡ Some f)
folder_here [] k lt = absurd (omega arith)
folder_here (f ∷ fs) zero lt = (f, refl)
folder_here (f ∷ fs) (suc k) lt = folder_here fs k (omega arith)

-- the first open collection's run is followed by the least ticket that is missing
pub first_missing : (b : List Folder) (taken : Tickets) (runs : List ℕ) (first k : ℕ) → IsFront b taken runs first → IsWithinCounts b → (first ≡ length b → ⊥) → k ≡ get_or runs first k
    → IsLeastMissing b taken (ticket (first + 1) (k + 1)) × (k ≤ count_limit)
first_missing b taken runs first k front small apart is =
    let lt : first < length b = let w = front.within in omega (arith, apart) in
    let f = folder_here b first lt in
    let read : k ≡ slice_index runs first = get_or_read runs first k (let s = front.each in omega arith) is 0 in
    let one : 1 + first ≡ suc first = omega arith in
    let run : k ≡ run_of taken (suc first) f.0 = read ∙ front.run first f.0 f.1 ∙ ap (λ n. run_of taken n f.0) one in
    let within : run_of taken (suc first) f.0 ≤ length f.0.entries = run_within (λ i. has_ticket taken (ticket (suc first) i)) 1 f.0.entries in
    let part : run_of taken (suc first) f.0 ≡ length f.0.entries → ⊥ = λ e. front.part f.0 f.1 (ap (λ n. run_of taken n f.0) one ∙ e) in
    let less : k < length f.0.entries = omega (arith, part) in
    let few : length f.0.entries ≤ count_limit = small.entries first f.0 f.1 in
    let m : suc first ≡ first + 1 = omega arith in
    let n : suc k ≡ k + 1 = omega arith in
    (subst (λ x. IsLeastMissing b taken (ticket x (k + 1))) m (subst (λ y. IsLeastMissing b taken (ticket (suc first) y)) n (least_missing b taken first k f.0 front.whole f.1 run less)), omega arith)
