-- The items of a feed, as they are pushed one after another.
use Rattle.std.proofs.Common.{◌≡◌, ℕ, zero, suc, ◌+◌, ◌<◌, ◌≤◌, List, [], ◌∷◌, ◌++◌, length, sym, ap, ◌∙◌, ⊎_elim, append_assoc, add-one, arith}
use Rattle.std.proofs.lemmas.Bool.{cases_lt}
use Rattle.std.proofs.lemmas.List.{append-nil}
use Rattle.census_bundle.specs.declared.bundle.Folder.{Folder}
use Rattle.census_bundle.specs.Tickets.{ticket}
use Rattle.census_crew.specs.declared.item.Item.{Item}
use Rattle.census_crew.specs.declared.item.Item.TheVariants.{Work, Mark}
use Rattle.census_crew.specs.Items.{folder_tickets, tickets_from, tickets, end_marks, items}
use Rattle.census_crew.specs.Fillings.{CanFollow}

regroup : (f a b more rest : List Item) → (f ++ ((a ++ b) ++ more)) ++ rest ≡ ((f ++ a) ++ b) ++ (more ++ rest)
regroup f a b more rest = simp append_assoc

-- if some items can follow, their first part can, and then the next
follow_part : (filled a b more next : List Item) → next ≡ (a ++ b) ++ more → CanFollow filled next → CanFollow (filled ++ a) b
follow_part filled a b more next e h = (h.0, h.1, more ++ h.2, h.3 ∙ ap (λ l. (filled ++ l) ++ h.2) e ∙ regroup filled a b more h.2)

folder_parts : (c n i : ℕ) → i < n → (more : List Item) × (folder_tickets c n ≡ folder_tickets c (suc i) ++ more)
folder_parts c zero i h = absurd (omega arith)
folder_parts c (suc n) i h =
    ⊎_elim (λ (l : i < n). let r = folder_parts c n i l in (r.0 ++ Work (ticket c (suc n)) ∷ [], ap (λ l. l ++ Work (ticket c (suc n)) ∷ []) r.1 ∙ append_assoc (folder_tickets c (suc i)) r.0 (Work (ticket c (suc n)) ∷ [])))
    (λ (l : n ≤ i). let e : suc n ≡ suc i = omega arith in ([], ap (folder_tickets c) e ∙ sym (append-nil (folder_tickets c (suc i))))) (cases_lt i n)

pub next_ticket : (filled : List Item) (c n i : ℕ) → i < n → CanFollow filled (folder_tickets c n) → CanFollow (filled ++ folder_tickets c i) (Work (ticket c (i + 1)) ∷ [])
next_ticket filled c n i h next = let p = folder_parts c n i h in rw add-one (follow_part filled (folder_tickets c i) (Work (ticket c (suc i)) ∷ []) p.0 (folder_tickets c n) p.1 next)

pub one_ticket_more : (filled : List Item) (c i : ℕ) → (filled ++ folder_tickets c i) ++ Work (ticket c (i + 1)) ∷ [] ≡ filled ++ folder_tickets c (i + 1)
one_ticket_more filled c i = rw add-one (append_assoc filled (folder_tickets c i) (Work (ticket c (suc i)) ∷ []))

mark_parts : (n i : ℕ) → i < n → (more : List Item) × (end_marks n ≡ end_marks (suc i) ++ more)
mark_parts zero i h = absurd (omega arith)
mark_parts (suc n) i h =
    ⊎_elim (λ (l : i < n). let r = mark_parts n i l in (r.0 ++ Mark (suc n) ∷ [], ap (λ l. l ++ Mark (suc n) ∷ []) r.1 ∙ append_assoc (end_marks (suc i)) r.0 (Mark (suc n) ∷ [])))
    (λ (l : n ≤ i). let e : suc n ≡ suc i = omega arith in ([], ap end_marks e ∙ sym (append-nil (end_marks (suc i))))) (cases_lt i n)

pub next_mark : (filled : List Item) (n i : ℕ) → i < n → CanFollow filled (end_marks n) → CanFollow (filled ++ end_marks i) (Mark (i + 1) ∷ [])
next_mark filled n i h next = let p = mark_parts n i h in rw add-one (follow_part filled (end_marks i) (Mark (suc i) ∷ []) p.0 (end_marks n) p.1 next)

pub one_mark_more : (filled : List Item) (i : ℕ) → (filled ++ end_marks i) ++ Mark (i + 1) ∷ [] ≡ filled ++ end_marks (i + 1)
one_mark_more filled i = rw add-one (append_assoc filled (end_marks i) (Mark (suc i) ∷ []))

-- if these folders are still to come, the tickets of the first one can follow
pub next_folder : (bundle : List Folder) (filled : List Item) (c : ℕ) (f : Folder) (fs : List Folder) → filled ++ tickets_from c (f ∷ fs) ≡ tickets bundle → CanFollow filled (folder_tickets c (length f.entries))
next_folder bundle filled c f fs e = (bundle, 0, tickets_from (suc c) fs, append-nil (tickets bundle) ∙ sym e ∙ sym (append_assoc filled (folder_tickets c (length f.entries)) (tickets_from (suc c) fs)))

pub marks_follow : (bundle : List Folder) (workers : ℕ) → CanFollow (tickets bundle) (end_marks workers)
marks_follow bundle workers = (bundle, workers, [], sym (append-nil (items bundle workers)))
