-- A bundle whose texts are lost at tickets that were not taken.
use Rattle.std.proofs.Common.{◌≡◌, ℕ, zero, suc, ◌+◌, Bool, true, false, cond, eqb, ◌&&◌, ◌||◌, List, [], ◌∷◌, ◌++◌, length, take, Option, None, Some, is_some, refl, sym, ap, subst, ◌∙◌, arith, slice_get}
use Rattle.std.proofs.lemmas.List.Folds.{list_any-append}
use Rattle.std.specs.FinSet.{contains-empty}
use Rattle.std.specs.Ordering.{eq_by_cmp}
use Rattle.std.specs.Prelude.{option_map}
use Rattle.census_bundle.specs.declared.bundle.Entry.{Entry}
use Rattle.census_bundle.specs.declared.bundle.Folder.{Folder}
use Rattle.census_bundle.specs.declared.ticket.Ticket.{Ticket}
use Rattle.census_bundle.specs.Tickets.{Tickets, element_at, entry_at, entry_in, has_ticket, ticket, ticket_cmp, tickets_of, IsTicketOf}
use Rattle.census_book.specs.Collecting.{IsResult}
use Rattle.census_book.specs.Counts.{bundle_weight, numbered_sum, one_if, taken_count}
use Rattle.census_book.specs.Front.{IsFront}
use Rattle.census_book.specs.Losses.{AreMissing, Loses, lose_all, lose_entries, lose_folder, lose_folders, lose_if}
use Rattle.census_book.specs.Released.{IsReleased, lines_released, shown_lines, shown_of}
use Rattle.census_book.specs.Slots.{KeepsResults, Row, result_at, taken_in, taking_at, work_in}
use Rattle.census_book.specs.Work.{Work}
use Rattle.census_book.proofs.Releases.{cases}
use Rattle.census_book.proofs.Rows.{has_result}
use Rattle.census_book.proofs.TicketSets.{apart, has_list}
use Rattle.census_format.proofs.Owning.{eqb_apart}
use Rattle.census_format.specs.Lines.{answer_to_entry, end_line, open_line, opening_line, ending_line, pattern_count, pattern_lines, pattern_rows}
use Rattle.census_format.specs.Reports.{all_from, closing_if, end_if, has_all, owned_text, run_from, run_of}
use Rattle.census_rows.specs.Lines.{text_of}
use Rattle.life_answer.specs.declared.finding.Answer.{Answer}
use Rattle.life_answer.specs.declared.question.Question.{Question}

-- # Places

-- what a value was made of
mapped : {A B : Type 0} (f : A → B) (o : Option A) (y : B) → option_map f o ≡ Some y → (x : A) × (o ≡ Some x) × (f x ≡ y)
mapped f None y is = absurd (cc)
mapped f (Some x) y is = (x, refl, cc)

module _ (lost : Ticket → Bool) where
  length-lost : (c i : ℕ) (es : List Entry) → length (lose_entries lost c i es) ≡ length es
  length-lost c i [] = refl
  length-lost c i (e ∷ es) = ap suc (length-lost c (suc i) es)

  entries_get : (c i j k : ℕ) (es : List Entry) → j ≡ i + k → slice_get (lose_entries lost c i es) k ≡ option_map (lose_if (lost (ticket c j))) (slice_get es k)
  entries_get c i j k [] is = refl
  entries_get c i j zero (e ∷ es) is = let n : i ≡ j = omega (arith, is) in ap (λ m. Some (lose_if (lost (ticket c m)) e)) n
  entries_get c i j (suc k) (e ∷ es) is = entries_get c (suc i) j k es (omega (arith, is))

  folders_get : (c d k : ℕ) (fs : List Folder) → d ≡ c + k → slice_get (lose_folders lost c fs) k ≡ option_map (lose_folder lost d) (slice_get fs k)
  folders_get c d k [] is = refl
  folders_get c d zero (f ∷ fs) is = let n : c ≡ d = omega (arith, is) in ap (λ m. Some (lose_folder lost m f)) n
  folders_get c d (suc k) (f ∷ fs) is = folders_get (suc c) d k fs (omega (arith, is))

  folder_at_lost : (b : List Folder) (d : ℕ) → element_at (lose_folders lost 1 b) d ≡ option_map (lose_folder lost d) (element_at b d)
  folder_at_lost b zero = refl
  folder_at_lost b (suc k) = folders_get 1 (suc k) k b (omega arith)

  entry_in_lost : (o : Option Folder) (d n : ℕ) → entry_in (option_map (lose_folder lost d) o) n ≡ option_map (lose_if (lost (ticket d n))) (entry_in o n)
  entry_in_lost None d n = refl
  entry_in_lost (Some f) d zero = refl
  entry_in_lost (Some f) d (suc k) = entries_get d 1 (suc k) k f.entries (omega arith)

  -- the pattern of a ticket
  pub entry_at_lost : (b : List Folder) (t : Ticket) → entry_at (lose_folders lost 1 b) t ≡ option_map (lose_if (lost t)) (entry_at b t)
  entry_at_lost b t = ap (λ o. entry_in o t.number) (folder_at_lost b t.folder) ∙ entry_in_lost (element_at b t.folder) t.folder t.number

  -- a ticket of the bundle is one where texts are lost, and the other way round
  pub ticket_lost : (b : List Folder) (t : Ticket) → IsTicketOf b t → IsTicketOf (lose_folders lost 1 b) t
  ticket_lost b t of = (lose_if (lost t) of.0, entry_at_lost b t ∙ ap (option_map (lose_if (lost t))) of.1)

  pub ticket_before : (b : List Folder) (t : Ticket) → IsTicketOf (lose_folders lost 1 b) t → IsTicketOf b t
  ticket_before b t of = let w = mapped (lose_if (lost t)) (entry_at b t) of.0 (sym (entry_at_lost b t) ∙ of.1) in (w.0, w.1)

  -- # Runs

  run_lost : (p : ℕ → Bool) (c i j : ℕ) (es : List Entry) → run_from p j (lose_entries lost c i es) ≡ run_from p j es
  run_lost p c i j [] = refl
  run_lost p c i j (e ∷ es) = ap (λ n. cond (p j) (suc n) 0) (run_lost p c (suc i) (suc j) es)

  pub run_of_lost : (taken : Tickets) (c d : ℕ) (f : Folder) → run_of taken c (lose_folder lost d f) ≡ run_of taken c f
  run_of_lost taken c d f = run_lost (λ i. has_ticket taken (ticket c i)) d 1 1 f.entries

  all_lost : (taken : Tickets) (c : ℕ) (fs : List Folder) → all_from taken c (lose_folders lost c fs) ≡ all_from taken c fs
  all_lost taken c [] = refl
  all_lost taken c (f ∷ fs) =
      ap (λ n. eqb n (length (lose_entries lost c 1 f.entries)) && all_from taken (suc c) (lose_folders lost (suc c) fs)) (run_of_lost taken c c f)
      ∙ ap (λ n. eqb (run_of taken c f) n && all_from taken (suc c) (lose_folders lost (suc c) fs)) (length-lost c 1 f.entries)
      ∙ ap (λ b. eqb (run_of taken c f) (length f.entries) && b) (all_lost taken (suc c) fs)

  count_lost : (c : ℕ) (fs : List Folder) → pattern_count (lose_folders lost c fs) ≡ pattern_count fs
  count_lost c [] = refl
  count_lost c (f ∷ fs) =
      ap (λ n. n + pattern_count (lose_folders lost (suc c) fs)) (length-lost c 1 f.entries) ∙ ap (λ n. length f.entries + n) (count_lost (suc c) fs)

  length-folders : (c : ℕ) (fs : List Folder) → length (lose_folders lost c fs) ≡ length fs
  length-folders c [] = refl
  length-folders c (f ∷ fs) = ap suc (length-folders (suc c) fs)

  pub front_lost : (b : List Folder) (taken : Tickets) (runs : List ℕ) (first : ℕ) → IsFront b taken runs first → IsFront (lose_folders lost 1 b) taken runs first
  front_lost b taken runs first front = record {
    each = front.each ∙ sym (length-folders 1 b);
    run = λ k f at.
        let was = mapped (lose_folder lost (1 + k)) (slice_get b k) f (sym (folders_get 1 (1 + k) k b refl) ∙ at) in
        front.run k was.0 was.1 ∙ sym (run_of_lost taken (1 + k) (1 + k) was.0) ∙ ap (run_of taken (1 + k)) was.2;
    whole = λ k lt f at.
        let was = mapped (lose_folder lost (1 + k)) (slice_get b k) f (sym (folders_get 1 (1 + k) k b refl) ∙ at) in
        subst (λ (g : Folder). run_of taken (1 + k) g ≡ length g.entries) was.2
        (run_of_lost taken (1 + k) (1 + k) was.0 ∙ front.whole k lt was.0 was.1 ∙ sym (length-lost (1 + k) 1 was.0.entries));
    within = let n = length-folders 1 b in omega (arith, front.within, n);
    part = λ f at full.
        let was = mapped (lose_folder lost (1 + first)) (slice_get b first) f (sym (folders_get 1 (1 + first) first b refl) ∙ at) in
        front.part was.0 was.1
        (sym (run_of_lost taken (1 + first) (1 + first) was.0)
        ∙ subst (λ (g : Folder). run_of taken (1 + first) g ≡ length g.entries) (sym was.2) full
        ∙ length-lost (1 + first) 1 was.0.entries);
  }

  -- # What was taken

  module _ (taken : Tickets) (missing : (t : Ticket) → has_ticket taken t ≡ true → lost t ≡ false) where
    -- the first patterns, up to one that was not taken
    take_lost : (question : Question) (c i : ℕ) (es : List Entry)
        → take (run_from (λ j. has_ticket taken (ticket c j)) i es) (pattern_lines question c i (lose_entries lost c i es)) ≡ take (run_from (λ j. has_ticket taken (ticket c j)) i es) (pattern_lines question c i es)
    take_lost question c i [] = refl
    take_lost question c i (e ∷ es) =
        let p = λ (j : ℕ). has_ticket taken (ticket c j) in
        elim (p i) as (λ b. p i ≡ b → take (cond b (suc (run_from p (suc i) es)) 0) (pattern_lines question c i (lose_entries lost c i (e ∷ es))) ≡ take (cond b (suc (run_from p (suc i) es)) 0) (pattern_lines question c i (e ∷ es))) [
          | true ↦ λ has.
              ap (λ x. take (suc (run_from p (suc i) es)) (pattern_lines question c i (lose_if x e ∷ lose_entries lost c (suc i) es))) (missing (ticket c i) has)
              ∙ ap (λ ls. pattern_rows question c i e ∷ ls) (take_lost question c (suc i) es)
          | false ↦ λ _. refl
        ] refl

    -- all patterns, where each was taken
    whole_lost : (c i : ℕ) (es : List Entry) → run_from (λ j. has_ticket taken (ticket c j)) i es ≡ length es → lose_entries lost c i es ≡ es
    whole_lost c i [] whole = refl
    whole_lost c i (e ∷ es) whole =
        let p = λ (j : ℕ). has_ticket taken (ticket c j) in
        elim (p i) as (λ b. p i ≡ b → cond b (suc (run_from p (suc i) es)) 0 ≡ suc (length es) → lose_entries lost c i (e ∷ es) ≡ e ∷ es) [
          | true ↦ λ has all.
              ap (λ x. lose_if x e ∷ lose_entries lost c (suc i) es) (missing (ticket c i) has)
              ∙ ap (λ xs. e ∷ xs) (whole_lost c (suc i) es (omega (arith, all)))
          | false ↦ λ _ none. absurd (omega (arith, none))
        ] refl whole

    closing_lost : (question : Question) (c : ℕ) (f : Folder)
        → closing_if (eqb (run_of taken c f) (length (lose_entries lost c 1 f.entries))) question c (lose_folder lost c f) ≡ closing_if (eqb (run_of taken c f) (length f.entries)) question c f
    closing_lost question c f =
        let k = run_of taken c f in
        ap (λ n. closing_if (eqb k n) question c (lose_folder lost c f)) (length-lost c 1 f.entries)
        ∙ cases _ k (length f.entries)
        (λ whole. ap (λ es. closing_if (eqb k (length f.entries)) question c (record { name = f.name; entries = es })) (whole_lost c 1 f.entries whole))
        (λ part. ap (λ b. closing_if b question c (lose_folder lost c f)) (eqb_apart k (length f.entries) part) ∙ sym (ap (λ b. closing_if b question c f) (eqb_apart k (length f.entries) part)))

    open_lost : (c : ℕ) (f : Folder) → open_line c (lose_folder lost c f) ≡ open_line c f
    unfolding open_line
    open_lost c f = ap (λ n. opening_line c n f.name) (length-lost c 1 f.entries)

    end_lost : (b : List Folder) → end_line (lose_folders lost 1 b) ≡ end_line b
    unfolding end_line
    end_lost b = ap (λ n. ending_line n (pattern_count (lose_folders lost 1 b))) (length-folders 1 b) ∙ ap (ending_line (length b)) (count_lost 1 b)

    shown_lost : (question : Question) (c : ℕ) (o : Option Folder) → shown_of question c (option_map (lose_folder lost c) o) taken ≡ shown_of question c o taken
    shown_lost question c None = refl
    shown_lost question c (Some f) =
        ap (shown_lines question c (lose_folder lost c f)) (run_of_lost taken c c f)
        ∙ ap (λ l. l ∷ (take (run_of taken c f) (pattern_lines question c 1 (lose_entries lost c 1 f.entries)) ++ closing_if (eqb (run_of taken c f) (length (lose_entries lost c 1 f.entries))) question c (lose_folder lost c f))) (open_lost c f)
        ∙ ap (λ ls. open_line c f ∷ (ls ++ closing_if (eqb (run_of taken c f) (length (lose_entries lost c 1 f.entries))) question c (lose_folder lost c f))) (take_lost question c 1 f.entries)
        ∙ ap (λ ls. open_line c f ∷ (take (run_of taken c f) (pattern_lines question c 1 f.entries) ++ ls)) (closing_lost question c f)

    -- what is released is the same
    pub released_lost : (b : List Folder) (question : Question) (text : List ℕ) → IsReleased b question taken text → IsReleased (lose_folders lost 1 b) question taken text
    released_lost b question text released = record {
      groups = released.groups;
      sections = λ c. released.sections c ∙ sym (ap (λ o. shown_of question c o taken) (folder_at_lost b c) ∙ shown_lost question c (element_at b c));
      whole = released.whole
          ∙ ap (λ x. owned_text released.groups ++ end_if x b) (sym (all_lost taken 1 b))
          ∙ ap (λ l. owned_text released.groups ++ cond (has_all (lose_folders lost 1 b) taken) (text_of l) []) (sym (end_lost b));
    }

    -- # Counts

    sum_lost : (w : Ticket → Entry → ℕ) → ((t : Ticket) (e : Entry) → w t (lose_if (lost t) e) ≡ w t e) → (c i : ℕ) (es : List Entry)
        → numbered_sum (λ j e. w (ticket c j) e) i (lose_entries lost c i es) ≡ numbered_sum (λ j e. w (ticket c j) e) i es
    sum_lost w same c i [] = refl
    sum_lost w same c i (e ∷ es) =
        ap (λ n. n + numbered_sum (λ j e. w (ticket c j) e) (suc i) (lose_entries lost c (suc i) es)) (same (ticket c i) e)
        ∙ ap (λ n. w (ticket c i) e + n) (sum_lost w same c (suc i) es)

    weight_lost : (w : Ticket → Entry → ℕ) → ((t : Ticket) (e : Entry) → w t (lose_if (lost t) e) ≡ w t e) → (c : ℕ) (fs : List Folder)
        → numbered_sum (λ d (f : Folder). numbered_sum (λ i e. w (ticket d i) e) 1 f.entries) c (lose_folders lost c fs) ≡ numbered_sum (λ d (f : Folder). numbered_sum (λ i e. w (ticket d i) e) 1 f.entries) c fs
    weight_lost w same c [] = refl
    weight_lost w same c (f ∷ fs) =
        ap (λ n. n + numbered_sum (λ d (g : Folder). numbered_sum (λ i e. w (ticket d i) e) 1 g.entries) (suc c) (lose_folders lost (suc c) fs)) (sum_lost w same c 1 f.entries)
        ∙ ap (λ n. numbered_sum (λ i e. w (ticket c i) e) 1 f.entries + n) (weight_lost w same (suc c) fs)

    one_lost : (kind : Answer → Bool) (question : Question) (t : Ticket) (e : Entry)
        → cond (has_ticket taken t) (one_if (kind (answer_to_entry question (lose_if (lost t) e)))) 0 ≡ cond (has_ticket taken t) (one_if (kind (answer_to_entry question e))) 0
    one_lost kind question t e =
        elim (has_ticket taken t) as (λ b. has_ticket taken t ≡ b → cond b (one_if (kind (answer_to_entry question (lose_if (lost t) e)))) 0 ≡ cond b (one_if (kind (answer_to_entry question e))) 0) [
          | true ↦ λ has. ap (λ x. one_if (kind (answer_to_entry question (lose_if x e)))) (missing t has)
          | false ↦ λ _. refl
        ] refl

    -- as many were taken of each kind
    pub taken_lost : (kind : Answer → Bool) (b : List Folder) (question : Question) → taken_count kind (lose_folders lost 1 b) question taken ≡ taken_count kind b question taken
    taken_lost kind b question = weight_lost (λ t e. cond (has_ticket taken t) (one_if (kind (answer_to_entry question e))) 0) (one_lost kind question) 1 b

  -- # Results

  pub keeps_lost : (b : List Folder) (question : Question) (rows : List Row) → ((t : Ticket) → has_ticket (taken_in rows) t ≡ true → lost t ≡ false) → KeepsResults b question rows → KeepsResults (lose_folders lost 1 b) question rows
  keeps_lost b question rows missing keeps = record {
    slots = λ k f at.
        let was = mapped (lose_folder lost (1 + k)) (slice_get b k) f (sym (folders_get 1 (1 + k) k b refl) ∙ at) in
        let row = keeps.slots k was.0 was.1 in
        (row.0, row.1, row.2 ∙ sym (length-lost (1 + k) 1 was.0.entries) ∙ ap (λ (g : Folder). length g.entries) was.2);
    results = λ t w at.
        let is = keeps.results t w at in
        let has : has_ticket (taken_in rows) t ≡ true = has_result rows t ∙ held (taking_at rows t) w at in
        record {
          own = is.own;
          belongs = record {
            entry = is.belongs.entry;
            at = entry_at_lost b t ∙ ap (λ x. option_map (lose_if x) (entry_at b t)) (missing t has) ∙ ap (option_map (lose_if false)) is.belongs.at;
            same_text = is.belongs.same_text;
            same_loss = is.belongs.same_loss;
            same_question = is.belongs.same_question;
          };
        };
    whole = λ t at u of same. keeps.whole t at u (ticket_before b u of) same;
  }
    where
      held : (x : Option (Option Work)) (w : Work) → work_in x ≡ Some w → is_some x ≡ true
      held None w is = absurd (cc)
      held (Some y) w is = refl

-- # A bundle that loses texts

pub keeps_loses : (b : List Folder) (question : Question) (rows : List Row) (lossy : List Folder) → Loses b (taken_in rows) lossy → KeepsResults b question rows → KeepsResults lossy question rows
keeps_loses b question rows lossy loses keeps =
    subst (λ fs. KeepsResults fs question rows) (sym loses.is) (keeps_lost (λ t. has_ticket (tickets_of loses.lost) t) b question rows loses.missing keeps)

pub front_loses : (b : List Folder) (taken : Tickets) (lossy : List Folder) (runs : List ℕ) (first : ℕ) → Loses b taken lossy → IsFront b taken runs first → IsFront lossy taken runs first
front_loses b taken lossy runs first loses front =
    subst (λ fs. IsFront fs taken runs first) (sym loses.is) (front_lost (λ t. has_ticket (tickets_of loses.lost) t) b taken runs first front)

-- where nothing is lost the bundle is the same
entries_kept : (lost : Ticket → Bool) → ((t : Ticket) → lost t ≡ false) → (c i : ℕ) (es : List Entry) → lose_entries lost c i es ≡ es
entries_kept lost none c i [] = refl
entries_kept lost none c i (e ∷ es) = ap (λ b. lose_if b e ∷ lose_entries lost c (suc i) es) (none (ticket c i)) ∙ ap (λ xs. e ∷ xs) (entries_kept lost none c (suc i) es)

folders_kept : (lost : Ticket → Bool) → ((t : Ticket) → lost t ≡ false) → (c : ℕ) (fs : List Folder) → lose_folders lost c fs ≡ fs
folders_kept lost none c [] = refl
folders_kept lost none c (f ∷ fs) =
    ap (λ es. record { name = f.name; entries = es } ∷ lose_folders lost (suc c) fs) (entries_kept lost none c 1 f.entries) ∙ ap (λ gs. f ∷ gs) (folders_kept lost none (suc c) fs)

pub none_lost : (lost : List Ticket) (b : List Folder) → lost ≡ [] → lose_all lost b ≡ b
none_lost lost b none = ap (λ ts. lose_all ts b) none ∙ folders_kept (λ t. has_ticket (tickets_of []) t) (λ t. contains-empty ticket_cmp t) 1 b

-- one more ticket that was not taken
pub missing_more : (taken : Tickets) (lost : List Ticket) (t : Ticket) → has_ticket taken t ≡ false → AreMissing taken lost → AreMissing taken (lost ++ t ∷ [])
missing_more taken lost t not missing u has =
    has_list (lost ++ t ∷ []) u
    ∙ list_any-append (eq_by_cmp ticket_cmp u) lost (t ∷ [])
    ∙ ap (λ b. b || (eq_by_cmp ticket_cmp u t || false)) (sym (has_list lost u) ∙ missing u has)
    ∙ ap (λ b. b || false) (apart u t (λ e. let same : has_ticket taken u ≡ has_ticket taken t = ap (λ v. has_ticket taken v) e in let both : true ≡ false = sym has ∙ same ∙ not in absurd (cc)))

-- nothing is missing
pub missing_none : (taken : Tickets) (lost : List Ticket) → lost ≡ [] → AreMissing taken lost
missing_none taken lost none t has = ap (λ ts. has_ticket (tickets_of ts) t) none ∙ contains-empty ticket_cmp t
