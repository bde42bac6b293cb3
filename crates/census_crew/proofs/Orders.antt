-- The order of items, and lists that rise.
use Rattle.std.proofs.Common.{◌≡◌, ℕ, zero, suc, ◌<◌, ◌≤◌, ◌==◌, true, List, [], ◌∷◌, ◌++◌, length, sym, refl, ap, ◌∙◌, subst, ⊎_elim, arith}
use Rattle.std.specs.Cmp.{IsTotalOrder, nat_cmp_is}
use Rattle.std.specs.Ordering.{nat_cmp, ordering_then}
use Rattle.std.specs.declared.cmp.Ordering.TheVariants.{Less, Equal}
use Rattle.std.proofs.lemmas.Cmp.{nat_cmp_total, on_total, then_total, tied_itself}
use Rattle.std.specs.List.{AllByRecursion}
use Rattle.std.proofs.lemmas.Bool.{false≢true, and_parts, and_from, or_cases, or_left, or_right, eqb-true, eq-eqb}
use Rattle.census_bundle.specs.declared.bundle.Folder.{Folder}
use Rattle.census_bundle.specs.declared.ticket.Ticket.{Ticket}
use Rattle.census_bundle.specs.Tickets.{ticket, folder_of, number_in_folder, ticket_cmp}
use Rattle.census_crew.specs.declared.item.Item.{Item}
use Rattle.census_crew.specs.declared.item.Item.TheVariants.{Work, Mark}
use Rattle.census_crew.specs.Items.{folder_tickets, tickets_from, end_marks, items, Before, Rises, same_item, has_item}

pub same_is : (x y : Item) → same_item x y ≡ true → x ≡ y
same_is (Work s) (Work t) e = let h = and_parts (s.folder == t.folder) (s.number == t.number) e in let p = eqb-true s.folder t.folder h.0 in let q = eqb-true s.number t.number h.1 in λ i. Work (record { folder = p i; number = q i })
same_is (Work s) (Mark k) e = absurd (false≢true e)
same_is (Mark j) (Work t) e = absurd (false≢true e)
same_is (Mark j) (Mark k) e = ap Mark (eqb-true j k e)

pub same_itself : (x : Item) → same_item x x ≡ true
same_itself (Work t) = and_from _ _ (eq-eqb t.folder t.folder refl) (eq-eqb t.number t.number refl)
same_itself (Mark k) = eq-eqb k k refl

ticket_total : IsTotalOrder ticket_cmp
ticket_total = then_total (on_total folder_of nat_cmp_total) (on_total number_in_folder nat_cmp_total)

by_folder : (s t : Ticket) → s.folder < t.folder → ticket_cmp s t ≡ Less
by_folder s t h = ap (λ o. ordering_then o (nat_cmp s.number t.number)) (sym (nat_cmp_is s.folder t.folder Less h))

by_number : (s t : Ticket) → s.folder ≡ t.folder → s.number < t.number → ticket_cmp s t ≡ Less
by_number s t e h = ap (λ o. ordering_then o (nat_cmp s.number t.number)) (sym (nat_cmp_is s.folder t.folder Equal e)) ∙ sym (nat_cmp_is s.number t.number Less h)

pub before_itself : (x : Item) → Before x x → ⊥
before_itself (Work t) h = let e : Less ≡ Equal = sym h ∙ tied_itself ticket_total t in cc
before_itself (Mark k) h = omega arith

-- what holds of each element
module _ {X : Type 0} (P : X → Type 0) where
  pub all_join : (xs ys : List X) → AllByRecursion P xs → AllByRecursion P ys → AllByRecursion P (xs ++ ys)
  all_join [] ys a b = b
  all_join (x ∷ xs) ys a b = (a.0, all_join xs ys a.1 b)

  pub all_parts : (xs ys : List X) → AllByRecursion P (xs ++ ys) → AllByRecursion P xs × AllByRecursion P ys
  all_parts [] ys h = (tt, h)
  all_parts (x ∷ xs) ys h = let r = all_parts xs ys h.1 in ((h.0, r.0), r.1)

  pub all_weaker : (Q : X → Type 0) → ((x : X) → P x → Q x) → (xs : List X) → AllByRecursion P xs → AllByRecursion Q xs
  all_weaker Q f [] h = tt
  all_weaker Q f (x ∷ xs) h = (f x h.0, all_weaker Q f xs h.1)

pub all_at : (P : Item → Type 0) (xs : List Item) (x : Item) → AllByRecursion P xs → has_item xs x ≡ true → P x
all_at P [] x a e = absurd (false≢true e)
all_at P (y ∷ ys) x a e = ⊎_elim (λ s. subst P (sym (same_is x y s)) a.0) (λ s. all_at P ys x a.1 s) (or_cases (same_item x y) (has_item ys x) e)

pub all_from : (P : Item → Type 0) (xs : List Item) → ((x : Item) → has_item xs x ≡ true → P x) → AllByRecursion P xs
all_from P [] f = tt
all_from P (y ∷ ys) f = (f y (or_left (same_item y y) (has_item ys y) (same_itself y)), all_from P ys (λ x e. f x (or_right (same_item x y) (has_item ys x) e)))

abbrev pub Precedes : List Item → List Item → Type 0
Precedes xs ys = AllByRecursion (λ x. AllByRecursion (Before x) ys) xs

pub rises_join : (xs ys : List Item) → Rises xs → Rises ys → Precedes xs ys → Rises (xs ++ ys)
rises_join [] ys a b p = b
rises_join (x ∷ xs) ys a b p = (all_join (Before x) xs ys a.0 p.0, rises_join xs ys a.1 b p.1)

pub rises_parts : (xs ys : List Item) → Rises (xs ++ ys) → Rises xs × Rises ys × Precedes xs ys
rises_parts [] ys h = (tt, h, tt)
rises_parts (x ∷ xs) ys h = let r = rises_parts xs ys h.1 in let a = all_parts (Before x) xs ys h.0 in ((a.0, r.0), r.1, (a.1, r.2))

precedes_by : (P Q : Item → Type 0) → ((x y : Item) → P x → Q y → Before x y) → (xs ys : List Item) → AllByRecursion P xs → AllByRecursion Q ys → Precedes xs ys
precedes_by P Q f xs ys a b = all_weaker P (λ x. AllByRecursion (Before x) ys) (λ x p. all_weaker Q (Before x) (λ y q. f x y p q) ys b) xs a

-- where the items of a feed are
abbrev InFolder : ℕ → ℕ → Item → Type 0
InFolder c n (Work t) = (t.folder ≡ c) × (t.number ≤ n)
InFolder c n (Mark k) = ⊥

abbrev FromFolder : ℕ → Item → Type 0
FromFolder c (Work t) = c ≤ t.folder
FromFolder c (Mark k) = ⊥

abbrev pub MarkUpTo : ℕ → Item → Type 0
MarkUpTo n (Work t) = ⊥
MarkUpTo n (Mark k) = k ≤ n

in_wider : (c n m : ℕ) → n ≤ m → (x : Item) → InFolder c n x → InFolder c m x
in_wider c n m l (Work t) h = (h.0, omega arith)
in_wider c n m l (Mark k) h = h

in_folder : (c n : ℕ) → AllByRecursion (InFolder c n) (folder_tickets c n)
in_folder c zero = tt
in_folder c (suc n) = all_join (InFolder c (suc n)) (folder_tickets c n) (Work (ticket c (suc n)) ∷ []) (all_weaker (InFolder c n) (InFolder c (suc n)) (in_wider c n (suc n) (omega arith)) (folder_tickets c n) (in_folder c n)) ((refl, omega arith), tt)

numbers_rise : (c n : ℕ) (x y : Item) → InFolder c n x → y ≡ Work (ticket c (suc n)) → Before x y
numbers_rise c n (Work t) y h e = subst (Before (Work t)) (sym e) (by_number t (ticket c (suc n)) h.0 (omega arith))
numbers_rise c n (Mark k) y h e = absurd h

folder_rises : (c n : ℕ) → Rises (folder_tickets c n)
folder_rises c zero = tt
folder_rises c (suc n) = rises_join (folder_tickets c n) (Work (ticket c (suc n)) ∷ []) (folder_rises c n) (tt, tt) (precedes_by (InFolder c n) (λ y. y ≡ Work (ticket c (suc n))) (numbers_rise c n) (folder_tickets c n) (Work (ticket c (suc n)) ∷ []) (in_folder c n) (refl, tt))

from_in : (c n : ℕ) (x : Item) → InFolder c n x → FromFolder c x
from_in c n (Work t) h = omega arith
from_in c n (Mark k) h = h

from_next : (c : ℕ) (x : Item) → FromFolder (suc c) x → FromFolder c x
from_next c (Work t) h = omega arith
from_next c (Mark k) h = h

pub from_folder : (c : ℕ) (fs : List Folder) → AllByRecursion (FromFolder c) (tickets_from c fs)
from_folder c [] = tt
from_folder c (f ∷ fs) = let n = length f.entries in all_join (FromFolder c) (folder_tickets c n) (tickets_from (suc c) fs) (all_weaker (InFolder c n) (FromFolder c) (from_in c n) (folder_tickets c n) (in_folder c n)) (all_weaker (FromFolder (suc c)) (FromFolder c) (from_next c) (tickets_from (suc c) fs) (from_folder (suc c) fs))

folders_rise : (c n : ℕ) (x y : Item) → InFolder c n x → FromFolder (suc c) y → Before x y
folders_rise c n (Work s) (Work t) h k = by_folder s t (omega arith)
folders_rise c n (Work s) (Mark j) h k = absurd k
folders_rise c n (Mark i) y h k = absurd h

tickets_rise : (c : ℕ) (fs : List Folder) → Rises (tickets_from c fs)
tickets_rise c [] = tt
tickets_rise c (f ∷ fs) = let n = length f.entries in rises_join (folder_tickets c n) (tickets_from (suc c) fs) (folder_rises c n) (tickets_rise (suc c) fs) (precedes_by (InFolder c n) (FromFolder (suc c)) (folders_rise c n) (folder_tickets c n) (tickets_from (suc c) fs) (in_folder c n) (from_folder (suc c) fs))

mark_wider : (n : ℕ) (x : Item) → MarkUpTo n x → MarkUpTo (suc n) x
mark_wider n (Work t) h = h
mark_wider n (Mark k) h = omega arith

pub up_to : (n : ℕ) → AllByRecursion (MarkUpTo n) (end_marks n)
up_to zero = tt
up_to (suc n) = all_join (MarkUpTo (suc n)) (end_marks n) (Mark (suc n) ∷ []) (all_weaker (MarkUpTo n) (MarkUpTo (suc n)) (mark_wider n) (end_marks n) (up_to n)) (omega arith, tt)

marks_rise : (n : ℕ) (x y : Item) → MarkUpTo n x → y ≡ Mark (suc n) → Before x y
marks_rise n (Work t) y h e = absurd h
marks_rise n (Mark k) y h e = subst (Before (Mark k)) (sym e) (omega arith)

ends_rise : (n : ℕ) → Rises (end_marks n)
ends_rise zero = tt
ends_rise (suc n) = rises_join (end_marks n) (Mark (suc n) ∷ []) (ends_rise n) (tt, tt) (precedes_by (MarkUpTo n) (λ y. y ≡ Mark (suc n)) (marks_rise n) (end_marks n) (Mark (suc n) ∷ []) (up_to n) (refl, tt))

marks_last : (c n : ℕ) (x y : Item) → FromFolder c x → MarkUpTo n y → Before x y
marks_last c n (Work s) (Work t) h k = absurd k
marks_last c n (Work s) (Mark j) h k = tt
marks_last c n (Mark i) y h k = absurd h

-- the items of a feed rise
pub items_rise : (bundle : List Folder) (workers : ℕ) → Rises (items bundle workers)
items_rise bundle workers = rises_join (tickets_from 1 bundle) (end_marks workers) (tickets_rise 1 bundle) (ends_rise workers) (precedes_by (FromFolder 1) (MarkUpTo workers) (marks_last 1 workers) (tickets_from 1 bundle) (end_marks workers) (from_folder 1 bundle) (up_to workers))
