-- Which tickets a feed has.
use Rattle.std.proofs.Common.{◌≡◌, ℕ, zero, suc, ◌-◌, ◌<◌, ◌≤◌, true, List, [], ◌∷◌, length, Some, None, Option, slice_get, sym, refl, ap, ◌∙◌, subst, ⊎_elim, arith}
use Rattle.std.specs.List.{AllByRecursion}
use Rattle.std.proofs.lemmas.Option.{none-some, same_Some, slice_get_within}
use Rattle.std.proofs.lemmas.Bool.{false≢true, or_cases, or_left, or_right, cases_eq}
use Rattle.census_bundle.specs.declared.bundle.Entry.{Entry}
use Rattle.census_bundle.specs.declared.bundle.Folder.{Folder}
use Rattle.census_bundle.specs.declared.ticket.Ticket.{Ticket}
use Rattle.census_bundle.specs.Tickets.{ticket, entry_in, IsTicketOf}
use Rattle.census_crew.specs.declared.item.Item.{Item}
use Rattle.census_crew.specs.declared.item.Item.TheVariants.{Work, Mark}
use Rattle.census_crew.specs.Items.{folder_tickets, tickets_from, tickets, end_marks, items, has_item}
use Rattle.census_crew.proofs.Orders.{all_at, all_join, all_weaker, up_to, MarkUpTo}
use Rattle.census_crew.proofs.Counts.{has_join, has_last}

-- the ticket (f, k) is one of these folders, of which the first has the number c
abbrev Within : ℕ → List Folder → ℕ → ℕ → Type 0
Within c fs f k = (c ≤ f) × (folder : Folder) × (slice_get fs (f - c) ≡ Some folder) × (1 ≤ k) × (k ≤ length folder.entries)

abbrev Numbered : ℕ → ℕ → Item → Type 0
Numbered c n (Work t) = (t.folder ≡ c) × (1 ≤ t.number) × (t.number ≤ n)
Numbered c n (Mark k) = ⊥

wider : (c n : ℕ) (x : Item) → Numbered c n x → Numbered c (suc n) x
wider c n (Work t) h = (h.0, h.1, omega arith)
wider c n (Mark k) h = h

all_numbered : (c n : ℕ) → AllByRecursion (Numbered c n) (folder_tickets c n)
all_numbered c zero = tt
all_numbered c (suc n) = all_join (Numbered c (suc n)) (folder_tickets c n) (Work (ticket c (suc n)) ∷ []) (all_weaker (Numbered c n) (Numbered c (suc n)) (wider c n) (folder_tickets c n) (all_numbered c n)) ((refl, omega arith, omega arith), tt)

below : (k n : ℕ) → k ≤ suc n → (k ≡ suc n → ⊥) → k ≤ n
below k n h e = omega arith

in_folder : (c n k : ℕ) → 1 ≤ k → k ≤ n → has_item (folder_tickets c n) (Work (ticket c k)) ≡ true
in_folder c zero k l h = absurd (omega arith)
in_folder c (suc n) k l h =
    ⊎_elim (λ (e : k ≡ suc n). subst (λ (m : ℕ). has_item (folder_tickets c (suc n)) (Work (ticket c m)) ≡ true) (sym e) (has_last (folder_tickets c n) (Work (ticket c (suc n)))))
    (λ (e : k ≡ suc n → ⊥). has_join (Work (ticket c k)) (folder_tickets c n) (Work (ticket c (suc n)) ∷ []) ∙ or_left (has_item (folder_tickets c n) (Work (ticket c k))) (has_item (Work (ticket c (suc n)) ∷ []) (Work (ticket c k))) (in_folder c n k l (below k n h e)))
    (cases_eq k (suc n))

within : (c : ℕ) (fs : List Folder) (f k : ℕ) → has_item (tickets_from c fs) (Work (ticket f k)) ≡ true → Within c fs f k
within c [] f k e = absurd (false≢true e)
within c (x ∷ fs) f k e =
    let n = length x.entries in
    ⊎_elim
    (λ (s : has_item (folder_tickets c n) (Work (ticket f k)) ≡ true).
    let h = all_at (Numbered c n) (folder_tickets c n) (Work (ticket f k)) (all_numbered c n) s in
    let z : f - c ≡ 0 = omega arith in
    (omega arith, x, ap (slice_get (x ∷ fs)) z, h.1, h.2))
    (λ (s : has_item (tickets_from (suc c) fs) (Work (ticket f k)) ≡ true).
    let h = within (suc c) fs f k s in
    let z : f - c ≡ suc (f - suc c) = omega arith in
    (omega arith, h.1, ap (slice_get (x ∷ fs)) z ∙ h.2, h.3, h.4))
    (or_cases (has_item (folder_tickets c n) (Work (ticket f k))) (has_item (tickets_from (suc c) fs) (Work (ticket f k))) (sym (has_join (Work (ticket f k)) (folder_tickets c n) (tickets_from (suc c) fs)) ∙ e))

there : (c : ℕ) (fs : List Folder) (f k : ℕ) → Within c fs f k → has_item (tickets_from c fs) (Work (ticket f k)) ≡ true
there c [] f k h = absurd (none-some h.1 h.2)
there c (x ∷ fs) f k h =
    let n = length x.entries in
    has_join (Work (ticket f k)) (folder_tickets c n) (tickets_from (suc c) fs)
    ∙ ⊎_elim
    (λ (e : f ≡ c).
    let z : f - c ≡ 0 = omega arith in
    let same : x ≡ h.1 = same_Some x h.1 (sym (ap (slice_get (x ∷ fs)) z) ∙ h.2) in
    let l : k ≤ n = subst (λ (y : Folder). k ≤ length y.entries) (sym same) h.4 in
    or_left (has_item (folder_tickets c n) (Work (ticket f k))) (has_item (tickets_from (suc c) fs) (Work (ticket f k))) (subst (λ (m : ℕ). has_item (folder_tickets c n) (Work (ticket m k)) ≡ true) (sym e) (in_folder c n k h.3 l)))
    (λ (e : f ≡ c → ⊥).
    let z : f - c ≡ suc (f - suc c) = omega arith in
    let more : suc c ≤ f = omega arith in
    let at : slice_get fs (f - suc c) ≡ Some h.1 = sym (ap (slice_get (x ∷ fs)) z) ∙ h.2 in
    or_right (has_item (folder_tickets c n) (Work (ticket f k))) (has_item (tickets_from (suc c) fs) (Work (ticket f k))) (there (suc c) fs f k (more, h.1, at, h.3, h.4)))
    (cases_eq f c)

element_at : {X : Type 0} (xs : List X) (i : ℕ) → i < length xs → (x : X) × (slice_get xs i ≡ Some x)
element_at [] i h = absurd (omega arith)
element_at (x ∷ xs) zero h = (x, refl)
element_at (x ∷ xs) (suc i) h = element_at xs i (omega arith)

-- the first folder has the number 1
is_ticket_at : (bundle : List Folder) (f k : ℕ) → Within 1 bundle f k → IsTicketOf bundle (ticket f k)
is_ticket_at bundle zero k h = absurd (let l = h.0 in omega arith)
is_ticket_at bundle (suc f) zero h = absurd (let l = h.3 in omega arith)
is_ticket_at bundle (suc f) (suc k) h =
    let z : f ≡ suc f - 1 = omega arith in
    let at : slice_get bundle f ≡ Some h.1 = ap (slice_get bundle) z ∙ h.2 in
    let l = h.4 in
    let r = element_at h.1.entries k (omega arith) in
    (r.0, ap (λ (o : Option Folder). entry_in o (suc k)) at ∙ r.1)

its_folder : (o : Option Folder) (k : ℕ) (e : Entry) → entry_in o k ≡ Some e → (folder : Folder) × (o ≡ Some folder) × (1 ≤ k) × (k ≤ length folder.entries)
its_folder None k e h = absurd (none-some e h)
its_folder (Some f) zero e h = absurd (none-some e h)
its_folder (Some f) (suc k) e h = (f, refl, omega arith, let w = slice_get_within f.entries k e h in omega arith)

place_of_ticket : (bundle : List Folder) (f k : ℕ) → IsTicketOf bundle (ticket f k) → Within 1 bundle f k
place_of_ticket bundle zero k h = absurd (none-some h.0 h.1)
place_of_ticket bundle (suc f) k h =
    let r = its_folder (slice_get bundle f) k h.0 h.1 in
    let z : suc f - 1 ≡ f = omega arith in
    (omega arith, r.0, ap (slice_get bundle) z ∙ r.1, r.2, r.3)

not_a_mark : (n : ℕ) (t : Ticket) → has_item (end_marks n) (Work t) ≡ true → ⊥
not_a_mark n t e = all_at (MarkUpTo n) (end_marks n) (Work t) (up_to n) e

-- the tickets among the items are those of the bundle
pub is_ticket_of : (bundle : List Folder) (workers : ℕ) (t : Ticket) → has_item (items bundle workers) (Work t) ≡ true → IsTicketOf bundle t
is_ticket_of bundle workers t e =
    ⊎_elim (λ (s : has_item (tickets bundle) (Work t) ≡ true). is_ticket_at bundle t.folder t.number (within 1 bundle t.folder t.number s))
    (λ (s : has_item (end_marks workers) (Work t) ≡ true). absurd (not_a_mark workers t s))
    (or_cases (has_item (tickets bundle) (Work t)) (has_item (end_marks workers) (Work t)) (sym (has_join (Work t) (tickets bundle) (end_marks workers)) ∙ e))

pub ticket_is_there : (bundle : List Folder) (workers : ℕ) (t : Ticket) → IsTicketOf bundle t → has_item (items bundle workers) (Work t) ≡ true
ticket_is_there bundle workers t h =
    has_join (Work t) (tickets bundle) (end_marks workers)
    ∙ or_left (has_item (tickets bundle) (Work t)) (has_item (end_marks workers) (Work t)) (there 1 bundle t.folder t.number (place_of_ticket bundle t.folder t.number h))

-- the tickets among what a hand's feed was filled with are those of the bundle
pub is_ticket_for : (filled : List Item) (t : Ticket) → has_item filled (Work t) ≡ true → (bundle : List Folder) → (workers : ℕ) × (filled ≡ items bundle workers) → IsTicketOf bundle t
is_ticket_for filled t h bundle f = is_ticket_of bundle f.0 t (subst (λ (l : List Item). has_item l (Work t) ≡ true) f.1 h)
