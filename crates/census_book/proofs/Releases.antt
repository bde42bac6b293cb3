-- What a collector releases is a beginning of a report, and in the end a report.
use Rattle.std.proofs.Common.{◌≡◌, ℕ, zero, suc, ◌+◌, ◌-◌, ◌<◌, ◌≤◌, Bool, true, false, cond, eqb, ◌&&◌, List, [], ◌∷◌, ◌++◌, length, take, drop, Option, Some, None, refl, sym, ap, subst, ◌∙◌, arith, append_assoc, append-nil, slice_get}
use Rattle.std.proofs.lemmas.Bool.{false≢true}
use Rattle.std.proofs.lemmas.Bool.Decides.{nat_tests}
use Rattle.std.proofs.lemmas.List.{take-append-drop}
use Rattle.std.proofs.Math.Seq.{take-add, take-length}
use Rattle.std.proofs.lemmas.Option.{slice_get_within}
use Rattle.std.specs.FinSet.{contains-empty}
use Rattle.census_bundle.specs.declared.bundle.Entry.{Entry}
use Rattle.census_bundle.specs.declared.bundle.Folder.{Folder}
use Rattle.census_bundle.specs.declared.ticket.Ticket.{Ticket}
use Rattle.census_bundle.specs.Tickets.{Tickets, ticket, ticket_cmp, no_tickets, with_ticket, has_ticket, element_at, entry_in, IsTicketOf, HasAllTickets}
use Rattle.census_format.specs.Lines.{Group, groups_text, open_line, end_line, pattern_lines, pattern_count}
use Rattle.census_format.specs.Reports.{IsReport, IsReportFront, text_at_start, text_released, folder_text_released, folder_out, lines_of, owned_text, closing, closing_if, end_if, opening, run_of, run_from, all_from, has_all}
use Rattle.census_book.specs.Released.{IsReleased, lines_released, shown_of, shown_lines}
use Rattle.census_book.proofs.TicketSets.{has_other, has_kept}
use Rattle.census_book.proofs.Runs.{run_grows, run_same, run_whole, run_all}
use Rattle.census_format.proofs.Said.{folder_section, folder_section_if, report-under}
use Rattle.census_format.proofs.Owning.{own, gathered, given, eqb_same, eqb_apart, lines_of-append, lines_of-own, lines_of-other, owned_text-append, owned_text-own, lines_of-gathered}
use Rattle.census_rows.specs.Lines.{text_of}
use Rattle.life_answer.specs.declared.question.Question.{Question}

-- cases on a number's test
pub cases : (P : Type 0) (m n : ℕ) → (m ≡ n → P) → ((m ≡ n → ⊥) → P) → P
cases P m n same apart =
    elim (eqb m n) as (λ b. eqb m n ≡ b → P) [
      | true ↦ λ e. same (grind (arith, nat_tests))
      | false ↦ λ e. apart (λ is. absurd (false≢true (sym e ∙ eqb_same m n is)))
    ] refl

length-pattern_lines : (question : Question) (c i : ℕ) (es : List Entry) → length (pattern_lines question c i es) ≡ length es
length-pattern_lines question c i [] = refl
length-pattern_lines question c i (e ∷ es) = ap suc (length-pattern_lines question c (suc i) es)

-- the folder of a pattern
pub folder_at : (o : Option Folder) (i : ℕ) (e : Entry) → entry_in o i ≡ Some e → (f : Folder) × (o ≡ Some f) × (element_at f.entries i ≡ Some e)
folder_at None i e is = absurd (cc)
folder_at (Some f) i e is = (f, refl, is)

pub numbered_bounds : {A : Type 0} (xs : List A) (i : ℕ) (x : A) → element_at xs i ≡ Some x → (0 < i) × (i ≤ length xs)
numbered_bounds xs zero x is = absurd (cc)
numbered_bounds xs (suc i) x is = let w = slice_get_within xs i x is in (omega arith, omega arith)

passes : Tickets → ℕ → ℕ → Bool
passes taken c i = has_ticket taken (ticket c i)

-- a collection with a missing ticket has not arrived whole
pub not_whole : (taken : Tickets) (f : Folder) (t : Ticket) (e : Entry) → element_at f.entries t.number ≡ Some e → has_ticket taken t ≡ false → run_of taken t.folder f ≡ length f.entries → ⊥
not_whole taken f t e at not whole =
    let b = numbered_bounds f.entries t.number e at in
    let has = run_whole (λ i. has_ticket taken (ticket t.folder i)) 1 f.entries whole (t.number - 1) (omega (arith, b)) in
    let same : 1 + (t.number - 1) ≡ t.number = omega (arith, b) in
    false≢true (sym not ∙ subst (λ n. has_ticket taken (ticket t.folder n) ≡ true) same has)

pub all_not : (taken : Tickets) (d c j : ℕ) (fs : List Folder) (f : Folder) → d ≡ c + j → slice_get fs j ≡ Some f → (run_of taken d f ≡ length f.entries → ⊥) → all_from taken c fs ≡ false
all_not taken d c j [] f e at part = absurd (cc)
all_not taken d c zero (g ∷ fs) f e at part =
    let same : g ≡ f = cc in
    let n : c ≡ d = omega arith in
    ap (λ b. b && all_from taken (suc c) fs) (eqb_apart (run_of taken c g) (length g.entries) (λ is. part (subst (λ m. run_of taken m f ≡ length f.entries) n (subst (λ h. run_of taken c h ≡ length h.entries) same is))))
all_not taken d c (suc j) (g ∷ fs) f e at part =
    ap (λ b. eqb (run_of taken c g) (length g.entries) && b) (all_not taken d (suc c) j fs f (omega arith) at part) ∙ and-false _
  where
    and-false : (b : Bool) → (b && false) ≡ false
    and-false true = refl
    and-false false = refl

all_at : (taken : Tickets) (d c j : ℕ) (fs : List Folder) (f : Folder) → d ≡ c + j → slice_get fs j ≡ Some f → all_from taken c fs ≡ true → run_of taken d f ≡ length f.entries
all_at taken d c j fs f e at all =
    cases _ (run_of taken d f) (length f.entries) (λ is. is) (λ part. absurd (false≢true (sym (all_not taken d c j fs f e at part) ∙ all)))

pub all_each : (taken : Tickets) (c : ℕ) (fs : List Folder) → ((j : ℕ) (f : Folder) → slice_get fs j ≡ Some f → run_of taken (c + j) f ≡ length f.entries) → all_from taken c fs ≡ true
all_each taken c [] each = refl
all_each taken c (f ∷ fs) each =
    let here : run_of taken c f ≡ length f.entries = subst (λ n. run_of taken n f ≡ length f.entries) (omega arith) (each 0 f refl) in
    ap (λ b. b && all_from taken (suc c) fs) (eqb_same (run_of taken c f) (length f.entries) here)
    ∙ all_each taken (suc c) fs (λ j g at. subst (λ n. run_of taken n g ≡ length g.entries) (omega arith) (each (suc j) g at))

-- if a collection's run grows, what it shows grows by what is released
shown_step : (question : Question) (c : ℕ) (f : Folder) (k m : ℕ) → k ≤ m → (k ≡ length f.entries → ⊥) → shown_lines question c f k ++ folder_out question c f k m ≡ shown_lines question c f m
shown_step question c f k m le part =
    let ls = pattern_lines question c 1 f.entries in
    let more = closing_if (eqb m (length f.entries)) question c f in
    let unclosed : closing_if (eqb k (length f.entries)) question c f ≡ [] = ap (λ b. closing_if b question c f) (eqb_apart k (length f.entries) part) in
    let sum : k + (m - k) ≡ m = omega arith in
    let joined : take k ls ++ (take (m - k) (drop k ls) ++ more) ≡ take m ls ++ more =
    sym (append_assoc (take k ls) (take (m - k) (drop k ls)) more) ∙ ap (λ xs. xs ++ more) (sym (take-add k (m - k) ls) ∙ ap (λ n. take n ls) sum) in
    ap (λ xs. open_line c f ∷ ((take k ls ++ xs) ++ (take (m - k) (drop k ls) ++ more))) unclosed
    ∙ ap (λ xs. open_line c f ∷ (xs ++ (take (m - k) (drop k ls) ++ more))) (append-nil (take k ls))
    ∙ ap (λ xs. open_line c f ∷ xs) joined

-- what a collection shows once it has arrived whole is its section
shown_all : (question : Question) (c : ℕ) (f : Folder) (k : ℕ) → k ≡ length f.entries → shown_lines question c f k ≡ folder_section question c f
shown_all question c f k whole =
    let ls = pattern_lines question c 1 f.entries in
    let n : k ≡ length ls = whole ∙ sym (length-pattern_lines question c 1 f.entries) in
    ap (λ b. open_line c f ∷ (take k ls ++ closing_if b question c f)) (eqb_same k (length f.entries) whole)
    ∙ ap (λ xs. open_line c f ∷ (xs ++ closing question c f)) (ap (λ m. take m ls) n ∙ take-length ls)

-- the lines of a collection that are not shown yet
hidden_lines : Question → ℕ → Folder → ℕ → List Group
hidden_lines question c f k = drop k (pattern_lines question c 1 f.entries) ++ cond (eqb k (length f.entries)) [] (closing question c f)

shown_and_hidden : (question : Question) (c : ℕ) (f : Folder) (k : ℕ) → shown_lines question c f k ++ hidden_lines question c f k ≡ folder_section question c f
unfolding hidden_lines
shown_and_hidden question c f k =
    let ls = pattern_lines question c 1 f.entries in
    cases _ k (length f.entries) (λ whole.
    let n : k ≡ length ls = whole ∙ sym (length-pattern_lines question c 1 f.entries) in
    let none : drop k ls ≡ [] = ap (λ m. drop m ls) n ∙ drop_whole ls in
    ap (λ b. shown_lines question c f k ++ (drop k ls ++ cond b [] (closing question c f))) (eqb_same k (length f.entries) whole)
    ∙ ap (λ xs. shown_lines question c f k ++ (xs ++ [])) none
    ∙ append-nil (shown_lines question c f k)
    ∙ shown_all question c f k whole) (λ part.
    let e = eqb_apart k (length f.entries) part in
    ap (λ b. (open_line c f ∷ (take k ls ++ cond b (closing question c f) [])) ++ (drop k ls ++ cond b [] (closing question c f))) e
    ∙ ap (λ xs. open_line c f ∷ (xs ++ (drop k ls ++ closing question c f))) (append-nil (take k ls))
    ∙ ap (λ xs. open_line c f ∷ xs) (sym (append_assoc (take k ls) (drop k ls) (closing question c f)) ∙ ap (λ xs. xs ++ closing question c f) (take-append-drop k ls)))
  where
    drop_whole : (xs : List Group) → drop (length xs) xs ≡ []
    drop_whole [] = refl
    drop_whole (x ∷ xs) = drop_whole xs

abbrev opened : Question → ℕ → Folder → List Group
opened question c f = open_line c f ∷ closing_if (eqb 0 (length f.entries)) question c f

pub run_none : (c i : ℕ) (es : List Entry) → run_from (λ j. has_ticket no_tickets (ticket c j)) i es ≡ 0
run_none c i [] = refl
run_none c i (e ∷ es) = ap (λ b. cond b (suc (run_from (λ j. has_ticket no_tickets (ticket c j)) (suc i) es)) 0) (contains-empty ticket_cmp (ticket c i))

opened_shown : (question : Question) (d : ℕ) (o : Option Folder) → given (opened question) d o ≡ shown_of question d o no_tickets
opened_shown question d None = refl
opened_shown question d (Some f) = ap (shown_lines question d f) (sym (run_none d 1 f.entries))

opening_owned : (question : Question) (c : ℕ) (fs : List Folder) → opening question c fs ≡ owned_text (gathered (opened question) c fs)
opening_owned question c [] = refl
opening_owned question c (f ∷ fs) =
    ap (λ xs. (text_of (open_line c f) ++ groups_text (closing_if (eqb 0 (length f.entries)) question c f)) ++ xs) (opening_owned question (suc c) fs)
    ∙ ap (λ xs. xs ++ owned_text (gathered (opened question) (suc c) fs)) (sym (owned_text-own c (opened question c f)))
    ∙ sym (owned_text-append (own c (opened question c f)) (gathered (opened question) (suc c) fs))

none_here : (n m : ℕ) (b : Bool) → b ≡ eqb m 0 → (eqb 0 n && b) ≡ eqb (n + m) 0
none_here zero m b e = e ∙ ap (λ k. eqb k 0) (omega arith)
none_here (suc n) m b e =
    ap (λ x. x && b) (eqb_apart 0 (suc n) (λ is. absurd (omega arith))) ∙ sym (eqb_apart (suc n + m) 0 (λ is. absurd (omega arith)))

none_all : (c : ℕ) (fs : List Folder) → all_from no_tickets c fs ≡ eqb (pattern_count fs) 0
none_all c [] = refl
none_all c (f ∷ fs) =
    ap (λ n. eqb n (length f.entries) && all_from no_tickets (suc c) fs) (run_none c 1 f.entries)
    ∙ none_here (length f.entries) (pattern_count fs) _ (none_all (suc c) fs)

pub released_start : (b : List Folder) (question : Question) → IsReleased b question no_tickets (text_at_start b question)
released_start b question = record {
  groups = gathered (opened question) 1 b;
  sections = λ d. lines_of-gathered (opened question) d b ∙ opened_shown question d (element_at b d);
  whole = ap (λ xs. xs ++ end_if (eqb (pattern_count b) 0) b) (opening_owned question 1 b) ∙ ap (λ x. owned_text (gathered (opened question) 1 b) ++ end_if x b) (sym (none_all 1 b));
}

-- a collection other than a ticket's shows the same
shown_other : (question : Question) (d : ℕ) (taken : Tickets) (t : Ticket) (o : Option Folder) → (t.folder ≡ d → ⊥) → shown_of question d o taken ≡ shown_of question d o (with_ticket taken t)
shown_other question d taken t None other = refl
shown_other question d taken t (Some f) other =
    ap (shown_lines question d f) (run_same (λ i. has_ticket taken (ticket d i)) (λ i. has_ticket (with_ticket taken t) (ticket d i)) (λ j. sym (has_other taken t (ticket d j) (λ e. other (sym (ap (λ (u : Ticket). u.folder) e))))) 1 f.entries)

not_all_with : (b : List Folder) (taken : Tickets) (c : ℕ) (f : Folder) → element_at b c ≡ Some f → (run_of taken c f ≡ length f.entries → ⊥) → has_all b taken ≡ false
not_all_with b taken zero f at part = absurd (cc)
not_all_with b taken (suc j) f at part = all_not taken (suc j) 1 j b f (omega arith) at part

pub released_more : (b : List Folder) (question : Question) (taken : Tickets) (text : List ℕ) (t : Ticket) → IsReleased b question taken text → IsTicketOf b t → has_ticket taken t ≡ false → IsReleased b question (with_ticket taken t) (text ++ text_released b question taken t)
released_more b question taken text t released of not =
    let at = folder_at (element_at b t.folder) t.number of.0 of.1 in
    let f = at.0 in
    let c = t.folder in
    let after = with_ticket taken t in
    let k = run_of taken c f in
    let m = run_of after c f in
    let grows : k ≤ m = run_grows (λ i. has_ticket taken (ticket c i)) (λ i. has_ticket after (ticket c i)) (λ j. has_kept taken t (ticket c j)) 1 f.entries in
    let part : k ≡ length f.entries → ⊥ = not_whole taken f t of.0 at.2 not in
    let more = folder_out question c f k m in
    let parted : has_all b taken ≡ false = not_all_with b taken c f at.1 part in
    let given_out : text_released b question taken t ≡ groups_text more ++ end_if (has_all b after) b = ap (λ o. folder_text_released question o taken t ++ end_if (has_all b after) b) at.1 in
    record {
      groups = released.groups ++ own c more;
      sections = λ d.
          cases _ c d (λ same.
          lines_of-append d released.groups (own c more)
          ∙ ap (λ xs. lines_of d released.groups ++ xs) (lines_of-own c d more same)
          ∙ ap (λ xs. xs ++ more) (released.sections d)
          ∙ ap (λ n. lines_released b question taken n ++ more) (sym same)
          ∙ ap (λ o. shown_of question c o taken ++ more) at.1
          ∙ shown_step question c f k m grows part
          ∙ ap (λ o. shown_of question c o after) (sym at.1)
          ∙ ap (λ n. lines_released b question after n) same) (λ other.
          lines_of-append d released.groups (own c more)
          ∙ ap (λ xs. lines_of d released.groups ++ xs) (lines_of-other c d more other)
          ∙ append-nil (lines_of d released.groups)
          ∙ released.sections d
          ∙ shown_other question d taken t (element_at b d) other);
      whole =
          ap (λ xs. xs ++ text_released b question taken t) (released.whole ∙ ap (λ x. owned_text released.groups ++ end_if x b) parted ∙ append-nil (owned_text released.groups))
          ∙ ap (λ xs. owned_text released.groups ++ xs) given_out
          ∙ sym (append_assoc (owned_text released.groups) (groups_text more) (end_if (has_all b after) b))
          ∙ ap (λ xs. (owned_text released.groups ++ xs) ++ end_if (has_all b after) b) (sym (owned_text-own c more))
          ∙ ap (λ xs. xs ++ end_if (has_all b after) b) (sym (owned_text-append released.groups (own c more)));
    }

pub entry_here : (es : List Entry) (k : ℕ) → k < length es → (e : Entry) × (slice_get es k ≡ Some e)
entry_here [] k lt = absurd (omega arith)
entry_here (e ∷ es) zero lt = (e, refl)
entry_here (e ∷ es) (suc k) lt = entry_here es k (omega arith)

section_shown : (question : Question) (d : ℕ) (taken : Tickets) (o : Option Folder) → ((f : Folder) → o ≡ Some f → run_of taken d f ≡ length f.entries) → shown_of question d o taken ≡ folder_section_if question d o
section_shown question d taken None all = refl
section_shown question d taken (Some f) all = shown_all question d f (run_of taken d f) (all f refl)

whole_at : (b : List Folder) (taken : Tickets) (d : ℕ) (f : Folder) → has_all b taken ≡ true → element_at b d ≡ Some f → run_of taken d f ≡ length f.entries
whole_at b taken zero f all at = absurd (cc)
whole_at b taken (suc j) f all at = all_at taken (suc j) 1 j b f (omega arith) at all

report_when : (b : List Folder) (question : Question) (taken : Tickets) (text : List ℕ) → IsReleased b question taken text → has_all b taken ≡ true → IsReport b question text
report_when b question taken text released all =
    report-under b question text released.groups
    (λ d. released.sections d ∙ section_shown question d taken (element_at b d) (λ f at. whole_at b taken d f all at))
    (released.whole ∙ ap (λ x. owned_text released.groups ++ end_if x b) all)

completed : (question : Question) (d : ℕ) (taken : Tickets) (o : Option Folder) → shown_of question d o taken ++ given (λ c f. hidden_lines question c f (run_of taken c f)) d o ≡ folder_section_if question d o
completed question d taken None = refl
completed question d taken (Some f) = shown_and_hidden question d f (run_of taken d f)

-- if each ticket is taken, each collection has arrived whole
pub has_all-each : (b : List Folder) (taken : Tickets) → HasAllTickets b taken → has_all b taken ≡ true
has_all-each b taken all = all_each taken 1 b (λ j f at. run_all (λ i. has_ticket taken (ticket (1 + j) i)) 1 f.entries (λ k lt. each b taken all j f at k lt))
  where
    each : (b : List Folder) (taken : Tickets) → HasAllTickets b taken → (j : ℕ) (f : Folder) → slice_get b j ≡ Some f → (k : ℕ) → k < length f.entries → has_ticket taken (ticket (1 + j) (1 + k)) ≡ true
    each b taken all j f at k lt =
        let one : suc j ≡ 1 + j = omega arith in
        let two : suc k ≡ 1 + k = omega arith in
        let e = entry_here f.entries k lt in
        let has : has_ticket taken (ticket (suc j) (suc k)) ≡ true = all (ticket (suc j) (suc k)) (e.0, ap (λ o. entry_in o (suc k)) at ∙ e.1) in
        subst (λ m. has_ticket taken (ticket m (1 + k)) ≡ true) one (subst (λ n. has_ticket taken (ticket (suc j) n) ≡ true) two has)

pub released_front : (b : List Folder) (question : Question) (taken : Tickets) (text rest : List ℕ) → IsReleased b question taken (text ++ rest) → IsReportFront b question text
released_front b question taken text rest released =
    elim (has_all b taken) as (λ x. has_all b taken ≡ x → IsReportFront b question text) [
      | true ↦ λ all. record { rest = rest; report = report_when b question taken (text ++ rest) released all }
      | false ↦ λ part.
          let hidden = gathered (λ c f. hidden_lines question c f (run_of taken c f)) 1 b in
          let shown_text : text ++ rest ≡ owned_text released.groups = released.whole ∙ ap (λ x. owned_text released.groups ++ end_if x b) part ∙ append-nil (owned_text released.groups) in
          record {
            rest = rest ++ (owned_text hidden ++ text_of (end_line b));
            report = report-under b question (text ++ (rest ++ (owned_text hidden ++ text_of (end_line b)))) (released.groups ++ hidden)
                (λ d.
                lines_of-append d released.groups hidden
                ∙ ap (λ xs. xs ++ lines_of d hidden) (released.sections d)
                ∙ ap (λ xs. lines_released b question taken d ++ xs) (lines_of-gathered (λ c f. hidden_lines question c f (run_of taken c f)) d b)
                ∙ completed question d taken (element_at b d))
                (sym (append_assoc text rest (owned_text hidden ++ text_of (end_line b)))
                ∙ ap (λ xs. xs ++ (owned_text hidden ++ text_of (end_line b))) shown_text
                ∙ sym (append_assoc (owned_text released.groups) (owned_text hidden) (text_of (end_line b)))
                ∙ ap (λ xs. xs ++ text_of (end_line b)) (sym (owned_text-append released.groups hidden)));
          }
    ] refl

pub released_whole : (b : List Folder) (question : Question) (taken : Tickets) (text : List ℕ) → IsReleased b question taken text → HasAllTickets b taken → IsReport b question text
released_whole b question taken text released all = report_when b question taken text released (has_all-each b taken all)
