-- The least ticket that is not taken.
use Rattle.std.proofs.Common.{◌≡◌, ℕ, zero, suc, ◌+◌, ◌-◌, ◌<◌, ◌≤◌, true, false, cond, eqb, ltb, List, length, Some, refl, sym, ap, subst, ◌∙◌, inl, inr, ◌⊎◌, ⊎_elim, arith, slice_get, Ordering}
use Rattle.std.proofs.lemmas.Bool.{false≢true}
use Rattle.std.proofs.lemmas.Bool.Decides.{nat_tests}
use Rattle.std.specs.declared.cmp.Ordering.TheVariants.{Less, Equal, Greater}
use Rattle.std.specs.Ordering.{nat_cmp, ordering_then}
use Rattle.std.specs.FinSet.{nat_cmp-IsAntisymmetric}
use Rattle.census_bundle.specs.declared.bundle.Folder.{Folder}
use Rattle.census_bundle.specs.declared.ticket.Ticket.{Ticket}
use Rattle.census_bundle.specs.Tickets.{Tickets, ticket, has_ticket, element_at, entry_in, IsTicketOf, HasAllTickets}
use Rattle.census_format.specs.Reports.{run_of, run_from}
use Rattle.census_book.specs.Collecting.{HasCollection, IsLeastMissing}
use Rattle.census_book.proofs.Runs.{run_end, run_before}
use Rattle.census_book.proofs.Releases.{folder_at, numbered_bounds, not_whole, entry_here}
use Rattle.census_book.proofs.Texts.{ticket_in}

abbrev pub WholeBefore : List Folder → Tickets → ℕ → Type 0
WholeBefore b taken i = (j : ℕ) → j < i → (f : Folder) → slice_get b j ≡ Some f → run_of taken (1 + j) f ≡ length f.entries

whole_here : (b : List Folder) (taken : Tickets) (i c : ℕ) (f : Folder) → WholeBefore b taken i → element_at b c ≡ Some f → c ≤ i → run_of taken c f ≡ length f.entries
whole_here b taken i zero f before at le = absurd (cc)
whole_here b taken i (suc j) f before at le = subst (λ n. run_of taken n f ≡ length f.entries) (omega arith) (before j (omega arith) f at)

taken_before : (b : List Folder) (taken : Tickets) (i : ℕ) → WholeBefore b taken i → (u : Ticket) → IsTicketOf b u → u.folder ≤ i → has_ticket taken u ≡ true
taken_before b taken i before u of le =
    let at = folder_at (element_at b u.folder) u.number of.0 of.1 in
    let whole = whole_here b taken i u.folder at.0 before at.1 le in
    elim (has_ticket taken u) as (λ x. has_ticket taken u ≡ x → has_ticket taken u ≡ true) [
      | true ↦ λ e. e
      | false ↦ λ e. absurd (not_whole taken at.0 u of.0 at.2 e whole)
    ] refl

-- if each collection has arrived whole, each ticket is taken
pub all_taken : (b : List Folder) (taken : Tickets) (i : ℕ) → WholeBefore b taken i → length b ≤ i → HasAllTickets b taken
all_taken b taken i before le t of = let w = ticket_in b t of.0 of.1 in taken_before b taken i before t of (omega (arith, w))

-- a collection whose run is all of it has arrived whole
pub run_collection : (b : List Folder) (taken : Tickets) (c : ℕ) (f : Folder) → element_at b c ≡ Some f → run_of taken c f ≡ length f.entries → HasCollection b taken c
run_collection b taken c f at whole t of own =
    let g = folder_at (element_at b t.folder) t.number of.0 of.1 in
    let one : Some g.0 ≡ Some f = sym g.1 ∙ ap (element_at b) own ∙ at in
    let same : g.0 ≡ f = cc in
    let is : run_of taken t.folder g.0 ≡ length g.0.entries = ap (λ n. run_of taken n g.0) own ∙ ap (run_of taken c) same ∙ whole ∙ ap (λ (x : Folder). length x.entries) (sym same) in
    elim (has_ticket taken t) as (λ x. has_ticket taken t ≡ x → x ≡ true) [
      | true ↦ λ e. refl
      | false ↦ λ e. absurd (not_whole taken g.0 t of.0 g.2 e is)
    ] refl

nat_less : (m n : ℕ) → nat_cmp m n ≡ Less → m < n
nat_less m n is =
    elim (ltb m n) as (λ b. ltb m n ≡ b → cond b Less (cond (eqb m n) Equal Greater) ≡ Less → m < n) [
      | true ↦ λ e h. grind (arith, nat_tests)
      | false ↦ λ e h. elim (eqb m n) as (λ b. cond b Equal Greater ≡ Less → m < n) [ true ↦ λ h. absurd (cc) | false ↦ λ h. absurd (cc) ] h
    ] refl is

then_less : (r s : Ordering) → ordering_then r s ≡ Less → (r ≡ Less) ⊎ ((r ≡ Equal) × (s ≡ Less))
then_less Less s e = inl refl
then_less Equal s e = inr (refl, e)
then_less Greater s e = absurd (cc)

pub least_missing : (b : List Folder) (taken : Tickets) (i k : ℕ) (f : Folder) → WholeBefore b taken i → slice_get b i ≡ Some f → k ≡ run_of taken (suc i) f → k < length f.entries → IsLeastMissing b taken (ticket (suc i) (suc k))
least_missing b taken i k f before at is lt =
    let p = λ (n : ℕ). has_ticket taken (ticket (suc i) n) in
    let e = entry_here f.entries k lt in
    let part : run_from p 1 f.entries < length f.entries = omega arith in
    let last : 1 + run_from p 1 f.entries ≡ suc k = omega arith in
    record {
      of_bundle = (e.0, ap (λ o. entry_in o (suc k)) at ∙ e.1);
      not_taken = subst (λ n. p n ≡ false) last (run_end p 1 f.entries part);
      least = λ u of not less.
          ⊎_elim
          (λ earlier. let le = nat_less u.folder (suc i) earlier in false≢true (sym not ∙ taken_before b taken i before u of (omega arith)))
          (λ same.
          let c = nat_cmp-IsAntisymmetric u.folder (suc i) same.0 in
          let n = nat_less u.number (suc k) same.1 in
          let g = folder_at (element_at b u.folder) u.number of.0 of.1 in
          let pos = numbered_bounds g.0.entries u.number of.0 g.2 in
          let has : p (1 + (u.number - 1)) ≡ true = run_before p 1 f.entries (u.number - 1) (omega (arith, pos)) in
          let m : 1 + (u.number - 1) ≡ u.number = omega (arith, pos) in
          false≢true (sym not ∙ ap (λ d. has_ticket taken (ticket d u.number)) c ∙ subst (λ x. p x ≡ true) m has))
          (then_less (nat_cmp u.folder (suc i)) (nat_cmp u.number (suc k)) less);
    }
