-- The items of a feed: the tickets of a bundle in rising order, and then the end marks.
use Rattle.std.specs.Prelude.{◌≡◌, ℕ, zero, suc, ◌<◌, length, ◌==◌, ◌&&◌, Bool, true, false, List, [], ◌∷◌, ◌++◌}
use Rattle.std.specs.List.{AllByRecursion, count_by, fold, list_any}
use Rattle.std.specs.declared.cmp.Ordering.TheVariants.{Less}
use Rattle.census_bundle.specs.declared.bundle.Folder.{Folder}
use Rattle.census_bundle.specs.Tickets.{ticket, ticket_cmp}
use Rattle.census_crew.specs.declared.item.Item.{Item}
use Rattle.census_crew.specs.declared.item.Item.TheVariants.{Work, Mark}

-- the tickets of one folder with the numbers 1 to `count`
abbrev pub folder_tickets : ℕ → ℕ → List Item
folder_tickets folder zero = []
folder_tickets folder (suc n) = folder_tickets folder n ++ Work (ticket folder (suc n)) ∷ []

-- the tickets of folders of which the first has the number `folder`
abbrev pub tickets_from : ℕ → List Folder → List Item
tickets_from folder [] = []
tickets_from folder (f ∷ fs) = folder_tickets folder (length f.entries) ++ tickets_from (suc folder) fs

-- all tickets of a bundle, rising
abbrev pub tickets : List Folder → List Item
tickets bundle = tickets_from 1 bundle

-- the end marks 1 to `workers`
abbrev pub end_marks : ℕ → List Item
end_marks zero = []
end_marks (suc n) = end_marks n ++ Mark (suc n) ∷ []

-- the items that a feed of this bundle for `workers` hands is filled with
abbrev pub items : List Folder → ℕ → List Item
items bundle workers = tickets bundle ++ end_marks workers

-- tickets in their order, the end marks by number, and each end mark after every ticket
abbrev pub Before : Item → Item → Type 0
Before (Work s) (Work t) = ticket_cmp s t ≡ Less
Before (Work s) (Mark k) = Unit {0}
Before (Mark j) (Work t) = ⊥
Before (Mark j) (Mark k) = j < k

-- each item is before all that follow it
abbrev pub Rises : List Item → Type 0
Rises [] = Unit {0}
Rises (x ∷ xs) = AllByRecursion (Before x) xs × Rises xs

abbrev pub is_mark : Item → Bool
is_mark (Work t) = false
is_mark (Mark k) = true

abbrev pub is_ticket : Item → Bool
is_ticket (Work t) = true
is_ticket (Mark k) = false

abbrev pub same_item : Item → Item → Bool
same_item (Work s) (Work t) = (s.folder == t.folder) && (s.number == t.number)
same_item (Work s) (Mark k) = false
same_item (Mark j) (Work t) = false
same_item (Mark j) (Mark k) = j == k

-- the number of times that x is in the list
abbrev pub occurrence_count : Item → List Item → ℕ
occurrence_count x xs = count_by (same_item x) xs

-- true if x is in the list
abbrev pub has_item : List Item → Item → Bool
has_item xs x = list_any (same_item x) xs

-- the number of end marks in the list
abbrev pub mark_count : List Item → ℕ
mark_count xs = count_by is_mark xs

-- true if the last item is an end mark
abbrev pub ends_with_mark : List Item → Bool
ends_with_mark xs = fold (λ seen x. is_mark x) false xs
