-- A run that continues where texts are lost.
use Rattle.std.proofs.Common.{◌≡◌, ℕ, suc, ◌+◌, ◌<◌, Bool, true, false, eqb, ◌&&◌, ◌||◌, List, [], ◌∷◌, ◌++◌, length, drop, get_or, slice_get, Option, None, Some, Result, Ok, Err, MatchResult, IfErr, IfOk, IfSome, OnOk, refl, sym, ap, subst, ◌∙◌, arith, append_assoc}
use Rattle.std.specs.Cmp.{tied_itself}
use Rattle.std.specs.List.{All, list_any}
use Rattle.std.specs.Ordering.{eq_by_cmp, is_eq}
use Rattle.std.proofs.lemmas.Bool.{eqb-true}
use Rattle.std.proofs.lemmas.List.{drop_more}
use Rattle.std.proofs.lemmas.List.Elements.{All-push, All-nil}
use Rattle.census_bundle.specs.declared.bundle.Entry.{Entry}
use Rattle.census_bundle.specs.declared.bundle.Folder.{Folder}
use Rattle.census_bundle.specs.declared.ticket.Ticket.{Ticket}
use Rattle.census_bundle.specs.Entries.{entry_of, lost_entry}
use Rattle.census_bundle.specs.Growing.{on_last, on_last_of, with_entry, with_folder, with_one_more}
use Rattle.census_bundle.specs.Sizes.{IsWithinCounts}
use Rattle.census_bundle.specs.Tickets.{IsTicketOf, Tickets, element_at, entry_in, has_ticket, ticket, ticket_cmp, tickets_of}
use Rattle.census_book.specs.Losses.{AreMissing, Loses, lose_all, lose_entries, lose_folder, lose_folders, lose_if, over}
use Rattle.census_book.specs.Progress.{Progress, initial_progress}
use Rattle.census_book.specs.Released.{IsReleased}
use Rattle.census_book.proofs.Kept.{numbered_next}
use Rattle.census_book.proofs.Releases.{cases, entry_here}
use Rattle.census_book.proofs.TicketSets.{apart, has_list, ticket_cmp_total}
use Rattle.census_format.proofs.Owning.{eqb_apart, eqb_same}
use Rattle.census_book.proofs.Losses.{missing_more, missing_none, none_lost, released_lost, taken_lost, ticket_before}
use Rattle.census_faults.specs.declared.run_fault.RunFault.{RunFault}
use Rattle.census_faults.specs.declared.run_fault.RunFault.TheVariants.{Memory, Write}
use Rattle.census_format.specs.Lines.{is_refused, is_resolved, is_unresolved}
use Rattle.census_crew.specs.Faults.{MayTellTicket, TellsNoTicket, TellsTicketOf}
use Rattle.census_crew.specs.Losing.{Misses, with_entries}
use Rattle.census_crew.specs.RunStates.{IsRunState}
use Rattle.census_crew.specs.Tallying.{TalliesPatterns, TalliesTaken}
use Rattle.census_crew.specs.Writing.{EndsInStep, IsInStep, StaysInStep, StopsInStep, WritesPrefix, WritesReport}
use Rattle.census_crew.specs.declared.tally.Tally.{Tally}
use Rattle.census_crew.proofs.Settles.{ends_report}
use Rattle.census_crew.proofs.Steps.{in_step_start}
use Rattle.life_answer.specs.declared.question.Question.{Question}

-- # Tickets that are missing

pub misses_none : (b : List Folder) (taken : Tickets) (tickets : List Ticket) → tickets ≡ [] → Misses b taken tickets
misses_none b taken tickets none = record { of_bundle = subst (All (IsTicketOf b)) (sym none) (All-nil (IsTicketOf b)); missing = missing_none taken tickets none }

pub misses_more : (b : List Folder) (taken : Tickets) (tickets : List Ticket) (t : Ticket) → IsTicketOf b t → has_ticket taken t ≡ false → Misses b taken tickets → Misses b taken (tickets ++ t ∷ [])
misses_more b taken tickets t of not before = record {
  of_bundle = All-push (IsTicketOf b) tickets t before.of_bundle of;
  missing = missing_more taken tickets t not before.missing;
}

-- no ticket
pub none_of : (b : List Folder) (tickets : List Ticket) → tickets ≡ [] → All (IsTicketOf b) tickets
none_of b tickets none = subst (All (IsTicketOf b)) (sym none) (All-nil (IsTicketOf b))

-- # A copy

last_of : {A : Type 0} (f : A → A) (y : A) (ys : List A) (x : A) → on_last_of f y (ys ++ x ∷ []) ≡ y ∷ (ys ++ f x ∷ [])
last_of f y [] x = refl
last_of f y (z ∷ zs) x = ap (λ xs. y ∷ xs) (last_of f z zs x)

last_changed : {A : Type 0} (f : A → A) (xs : List A) (x : A) → on_last f (xs ++ x ∷ []) ≡ xs ++ f x ∷ []
last_changed f [] x = refl
last_changed f (y ∷ ys) x = last_of f y ys x

entries_added : (b : List Folder) (name : List ℕ) (es more : List Entry)
    → with_entries (b ++ record { name = name; entries = es } ∷ []) more ≡ b ++ record { name = name; entries = es ++ more } ∷ []
entries_added b name es [] = ap (λ xs. b ++ record { name = name; entries = xs } ∷ []) (sym (nil es))
  where
    nil : (xs : List Entry) → xs ++ [] ≡ xs
    nil [] = refl
    nil (x ∷ xs) = ap (λ ys. x ∷ ys) (nil xs)
entries_added b name es (e ∷ more) =
    ap (λ fs. with_entries fs more) (last_changed (with_one_more e) b (record { name = name; entries = es }))
    ∙ entries_added b name (es ++ e ∷ []) more
    ∙ ap (λ xs. b ++ record { name = name; entries = xs } ∷ []) (append_assoc es (e ∷ []) more)

-- a folder with these entries was added
pub folder_added : (b : List Folder) (name : List ℕ) (es : List Entry) → with_entries (with_folder b name) es ≡ b ++ record { name = name; entries = es } ∷ []
folder_added b name es = entries_added b name [] es

-- an entry that is lost or not
pub kept_as_is : (e : Entry) → e.is_lost ≡ false → entry_of e.name e.text ≡ e
kept_as_is e kept = λ i. record { name = e.name; text = e.text; is_lost = sym kept i }

pub lost_as_is : (e : Entry) → e.is_lost ≡ true → e.text ≡ [] → lost_entry e.name ≡ e
lost_as_is e lost none = λ i. record { name = e.name; text = sym none i; is_lost = sym lost i }

-- # The state

pub state_lost : (p q : Progress) (t : Tally) (lossy : List Folder) → IsRunState p t → Loses p.bundle p.taken lossy → IsWithinCounts lossy → q ≡ over lossy p → IsRunState q t
state_lost p q t lossy g loses small is =
    let lost = λ (u : Ticket). has_ticket (tickets_of loses.lost) u in
    let counted : TalliesTaken t (lose_folders lost 1 p.bundle) p.question p.taken = record {
      patterns = g.counted.patterns ∙ sym (taken_lost lost p.taken loses.missing (λ a. true) p.bundle p.question);
      resolved = g.counted.resolved ∙ sym (taken_lost lost p.taken loses.missing is_resolved p.bundle p.question);
      unresolved = g.counted.unresolved ∙ sym (taken_lost lost p.taken loses.missing is_unresolved p.bundle p.question);
      refused = g.counted.refused ∙ sym (taken_lost lost p.taken loses.missing is_refused p.bundle p.question);
    } in
    subst (λ r. IsRunState r t) (sym is) (record {
      small = small;
      lawful = g.lawful;
      counted = subst (λ fs. TalliesTaken t fs p.question p.taken) (sym loses.is) counted;
    })

-- what was in step is so with the bundle in which texts are lost
step_lost : (old new : Option (List ℕ)) (p q : Progress) (lost : List Ticket) → AreMissing p.taken lost → q ≡ over (lose_all lost p.bundle) p → IsInStep old new p → IsInStep old new q
step_lost old new p q lost missing is s =
    subst (IsInStep old new) (sym is) (record {
      text = s.text;
      released = released_lost (λ t. has_ticket (tickets_of lost) t) p.taken missing p.bundle p.question (s.text ++ p.unsent) s.released;
      written = s.written;
    })

-- # The end

-- what ends with the same bundle, where nothing is lost
pub kept_report : {E : Type 0} (r : Result Tally E) (k l m : Option (List ℕ)) (p q : Progress) (b : List Folder) (question : Question) (lost : List Ticket) → lost ≡ [] → p ≡ initial_progress b question → StaysInStep k p l q
    → MatchResult r (λ _. EndsInStep l q m) (λ _. StopsInStep l q m) → MatchResult r (λ _. WritesReport k m (lose_all lost b) question) (λ _. WritesPrefix k m (lose_all lost b) question)
kept_report r k l m p q b question lost none is stays ends =
    subst (λ fs. MatchResult r (λ _. WritesReport k m fs question) (λ _. WritesPrefix k m fs question)) (sym (none_lost lost b none)) (ends_report r k l m p q b question is stays ends)

-- what ends with the bundle in which texts are lost
module _ (k l m : Option (List ℕ)) (p q s : Progress) (b : List Folder) (question : Question) (lost : List Ticket) (is : p ≡ initial_progress b question) (stays : StaysInStep k p l q)
    (missing : AreMissing q.taken lost) (lossy : s ≡ over (lose_all lost b) q) where
  start : StaysInStep k (initial_progress b question) l q
  start = subst (λ r. StaysInStep k r l q) is stays

  here : IsInStep k l s
  here = step_lost k l q s lost missing (lossy ∙ ap (λ fs. over (lose_all lost fs) q) (sym start.same_bundle)) (start.in_step k (in_step_start k b question))

  same_asked : s.question ≡ question
  same_asked = ap (λ (r : Progress). r.question) lossy ∙ start.same_question

  pub lost_report : {E : Type 0} (r : Result Tally E) → MatchResult r (λ _. EndsInStep l s m) (λ _. StopsInStep l s m)
      → MatchResult r (λ _. WritesReport k m (lose_all lost b) question) (λ _. WritesPrefix k m (lose_all lost b) question)
  lost_report (Ok t) ends =
      subst (λ fs. WritesReport k m fs question) (ap (λ (r : Progress). r.bundle) lossy) (subst (λ n. WritesReport k m s.bundle n) same_asked (ends.report k here))
  lost_report (Err e) stops =
      subst (λ fs. WritesPrefix k m fs question) (ap (λ (r : Progress). r.bundle) lossy) (subst (λ n. WritesPrefix k m s.bundle n) same_asked (stops.front k here))

-- a prefix of the report, where nothing is lost
pub front_kept : (k m : Option (List ℕ)) (b : List Folder) (question : Question) (lost : List Ticket) → lost ≡ [] → WritesPrefix k m b question → WritesPrefix k m (lose_all lost b) question
front_kept k m b question lost none front = subst (λ fs. WritesPrefix k m fs question) (sym (none_lost lost b none)) front

-- # Counts and faults

pub tally_at : {E : Type 0} (r : Result Tally E) (b fs : List Folder) (question n : Question) → fs ≡ b → n ≡ question → IfOk r (TalliesPatterns fs n) → IfOk r (TalliesPatterns b question)
tally_at (Ok t) b fs question n bundle asked h = subst (λ g. TalliesPatterns g question t) bundle (subst (λ q. TalliesPatterns fs q t) asked h)
tally_at (Err e) b fs question n bundle asked h = tt

pub may_tell_of : {A : Type 0} (r : Result A RunFault) (b fs : List Folder) → fs ≡ b → IfErr r (TellsTicketOf fs) → IfErr r (MayTellTicket b)
may_tell_of (Ok a) b fs is h = tt
may_tell_of (Err (Memory None)) b fs is h = absurd h
may_tell_of (Err (Memory (Some t))) b fs is h = subst (λ g. IsTicketOf g t) is h
may_tell_of (Err Write) b fs is h = tt

pub may_tell_lost : {A : Type 0} (r : Result A RunFault) (b fs : List Folder) (lost : List Ticket) → fs ≡ lose_all lost b → IfErr r (TellsTicketOf fs) → IfErr r (MayTellTicket b)
may_tell_lost (Ok a) b fs lost is h = tt
may_tell_lost (Err (Memory None)) b fs lost is h = absurd h
may_tell_lost (Err (Memory (Some t))) b fs lost is h = ticket_before (λ u. has_ticket (tickets_of lost) u) b t (subst (λ g. IsTicketOf g t) is h)
may_tell_lost (Err Write) b fs lost is h = tt

-- # Places

-- the ticket of an entry of a collection
pub ticket_here : (b : List Folder) (c i : ℕ) (f : Folder) → element_at b c ≡ Some f → i < length f.entries → IsTicketOf b (ticket c (i + 1))
ticket_here b c i f at within =
    let e = entry_here f.entries i within in
    (e.0, ap (λ o. entry_in o (i + 1)) at ∙ numbered_next f.entries i e.0 e.1)

-- an entry and those after it
pub entries_left : (lost : Ticket → Bool) (c i : ℕ) (es : List Entry) (e : Entry) → i < length es → e ≡ get_or es i e
    → lose_entries lost c (1 + i) (drop i es) ≡ lose_if (lost (ticket c (i + 1))) e ∷ lose_entries lost c (1 + (i + 1)) (drop (i + 1) es)
entries_left lost c i es e within is =
    let one : 1 + i ≡ i + 1 = omega arith in
    let two : suc (1 + i) ≡ 1 + (i + 1) = omega arith in
    ap (lose_entries lost c (1 + i)) (drop_more es i e within ∙ ap (λ x. x ∷ drop (i + 1) es) (sym is))
    ∙ ap (λ n. lose_if (lost (ticket c n)) e ∷ lose_entries lost c (suc (1 + i)) (drop (i + 1) es)) one
    ∙ ap (λ n. lose_if (lost (ticket c (i + 1))) e ∷ lose_entries lost c n (drop (i + 1) es)) two

-- a folder and those after it
pub folders_left : (lost : Ticket → Bool) (k : ℕ) (fs : List Folder) (f : Folder) → k < length fs → f ≡ get_or fs k f
    → lose_folders lost (1 + k) (drop k fs) ≡ lose_folder lost (k + 1) f ∷ lose_folders lost (1 + (k + 1)) (drop (k + 1) fs)
folders_left lost k fs f within is =
    let one : 1 + k ≡ k + 1 = omega arith in
    let two : suc (1 + k) ≡ 1 + (k + 1) = omega arith in
    ap (lose_folders lost (1 + k)) (drop_more fs k f within ∙ ap (λ x. x ∷ drop (k + 1) fs) (sym is))
    ∙ ap (λ n. lose_folder lost n f ∷ lose_folders lost (suc (1 + k)) (drop (k + 1) fs)) one
    ∙ ap (λ n. lose_folder lost (k + 1) f ∷ lose_folders lost n (drop (k + 1) fs)) two

-- one entry was added, by another spelling
pub added_as : {A E : Type 0} (r : Result A E) (new old : List Folder) (e f : Entry) → e ≡ f → OnOk r (new ≡ with_entry old e) → OnOk r (new ≡ with_entry old f)
added_as (Ok a) new old e f is h = h ∙ ap (with_entry old) is
added_as (Err x) new old e f is h = tt

pub misses_of : (b fs : List Folder) (tickets : List Ticket) → fs ≡ b → All (IsTicketOf fs) tickets → All (IsTicketOf b) tickets
misses_of b fs tickets is all = subst (λ g. All (IsTicketOf g) tickets) is all

-- the first of tickets of a bundle
pub first_of_bundle : (b : List Folder) (tickets : List Ticket) (t : Ticket) → slice_get tickets 0 ≡ Some t → All (IsTicketOf b) tickets → IsTicketOf b t
first_of_bundle b [] t is all = absurd (cc)
first_of_bundle b (u ∷ tickets) t is all = let same : u ≡ t = cc in subst (IsTicketOf b) same (all 0 u (omega arith))

-- a list that is said to be empty is
pub empty_list : (ts us : List Ticket) (is_empty : Bool) → us ≡ ts → is_empty ≡ eqb (length us) 0 → is_empty ≡ true → ts ≡ []
empty_list [] us is_empty same is true_is = refl
empty_list (t ∷ ts) us is_empty same is true_is =
    let zero = eqb-true (length us) 0 (sym is ∙ true_is) in
    let size : length us ≡ suc (length ts) = ap (λ (vs : List Ticket). length vs) same in
    absurd (omega (arith, zero, size))

-- the first of some tickets of a bundle, if there is one
pub first_may_tell : (b : List Folder) (tickets us : List Ticket) (first : Option Ticket) → us ≡ tickets → IfSome first (λ t. slice_get us 0 ≡ Some t) → All (IsTicketOf b) tickets → MayTellTicket b (Memory first)
first_may_tell b tickets us None same is all = tt
first_may_tell b tickets us (Some t) same is all = first_of_bundle b tickets t (subst (λ (ts : List Ticket). slice_get ts 0 ≡ Some t) same is) all

-- # Tickets that are the same

same_test : (u t : Ticket) → (eqb u.folder t.folder && eqb u.number t.number) ≡ eq_by_cmp ticket_cmp t u
same_test u t =
    cases _ u.folder t.folder
    (λ p. cases _ u.number t.number
    (λ n. ap (λ b. b && eqb u.number t.number) (eqb_same u.folder t.folder p) ∙ eqb_same u.number t.number n ∙ sym (tied n p))
    (λ n. ap (λ b. b && eqb u.number t.number) (eqb_same u.folder t.folder p) ∙ eqb_apart u.number t.number n ∙ sym (apart t u (λ e. n (sym (ap (λ (v : Ticket). v.number) e))))))
    (λ p. ap (λ b. b && eqb u.number t.number) (eqb_apart u.folder t.folder p) ∙ sym (apart t u (λ e. p (sym (ap (λ (v : Ticket). v.folder) e)))))
  where
    tied : u.number ≡ t.number → u.folder ≡ t.folder → eq_by_cmp ticket_cmp t u ≡ true
    tied n p =
        let e : u ≡ t = λ i. record { folder = p i; number = n i } in
        ap (λ v. eq_by_cmp ticket_cmp t v) e ∙ ap is_eq (tied_itself ticket_cmp_total t)

-- whether a ticket is among these
pub among : (test : Ticket → Bool) (ts : List Ticket) (t : Ticket) → ((u : Ticket) → test u ≡ (eqb u.folder t.folder && eqb u.number t.number)) → list_any test ts ≡ has_ticket (tickets_of ts) t
among test ts t same = any test ts ∙ sym (has_list ts t)
  where
    any : (f : Ticket → Bool) (us : List Ticket) → list_any test us ≡ list_any (eq_by_cmp ticket_cmp t) us
    any f [] = refl
    any f (u ∷ us) = ap (λ b. b || list_any test us) (same u ∙ same_test u t) ∙ ap (λ b. eq_by_cmp ticket_cmp t u || b) (any f us)
