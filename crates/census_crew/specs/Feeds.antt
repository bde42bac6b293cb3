-- Statements about a feed and its hands.
use Rattle.std.specs.Prelude.{◌≡◌, ℕ, true, Bool, cond, ◌+◌, ◌⊎◌, List, [], ◌∷◌, ◌++◌, length}
use Rattle.std.specs.List.{All, AllByRecursion, flat_map, list_any}
use Rattle.std.proofs.Common.{Global}
use Rattle.crossbeam_deque.specs.Tasks.{Learns}
use Rattle.crossbeam_deque.specs.Handles.{view, worker_deque, worker_view, stealer_deque}
use Rattle.crossbeam_deque.specs.declared.handles.Worker.{Worker}
use Rattle.census_bundle.specs.declared.bundle.Folder.{Folder}
use Rattle.census_bundle.specs.declared.ticket.Ticket.{Ticket}
use Rattle.census_bundle.specs.Tickets.{IsTicketOf}
use Rattle.census_crew.specs.declared.view.View.{View}
use Rattle.census_crew.specs.declared.item.Item.{Item}
use Rattle.census_crew.specs.declared.item.Item.TheVariants.{Work, Mark}
use Rattle.census_crew.specs.declared.handles.Hand.{Hand}
use Rattle.census_crew.specs.declared.handles.Feed.{Feed}
use Rattle.census_crew.specs.Items.{items, Before, has_item, is_ticket, occurrence_count, ends_with_mark}
use Rattle.census_crew.specs.Rule.{Fed, AllMarks}

-- the tickets that a hand took, with its end mark last once it took one
abbrev pub list_of : Hand → List Item
list_of h = (view h.pass).taken

-- the items that the feed of the hand was filled with
abbrev pub filled_items : Hand → List Item
filled_items h = (view h.pass).filled

-- the items that the feed was filled with
abbrev pub items_of : Feed → List Item
items_of f = (worker_view f.owner).filled

-- the number of hands that the feed was filled for
abbrev pub workers_of : Feed → ℕ
workers_of f = (worker_view f.owner).begun

-- the feed was filled from this bundle
abbrev pub IsFeedOf : Feed → List Folder → Type 0
IsFeedOf f bundle = items_of f ≡ items bundle (workers_of f)

-- a hand of this deque
abbrev pub IsHandOfDeque : {P : Type 0} → Worker Item Global View P → Hand → Type 0
IsHandOfDeque owner h = (stealer_deque h.stealer ≡ worker_deque owner) × (filled_items h ≡ (worker_view owner).filled)

-- a hand of this deque that has taken nothing
abbrev pub IsNew : {P : Type 0} → Worker Item Global View P → Hand → Type 0
IsNew owner h = IsHandOfDeque owner h × (list_of h ≡ [])

-- the hand is one of this feed
abbrev pub IsHandOf : Feed → Hand → Type 0
IsHandOf f h = IsHandOfDeque f.owner h

-- these are all hands of this feed
abbrev pub AreHandsOf : Feed → List Hand → Type 0
AreHandsOf f hands = (length hands ≡ workers_of f) × All (IsHandOf f) hands

-- the feed of the hand was filled from this bundle
abbrev pub DrawsFrom : Hand → List Folder → Type 0
DrawsFrom h bundle = (workers : ℕ) × (filled_items h ≡ items bundle workers)

-- whichever bundle the feed of the hand was filled from, the ticket is one of that bundle's
abbrev pub IsTicketFor : Hand → Ticket → Type 0
IsTicketFor h t = (bundle : List Folder) → DrawsFrom h bundle → IsTicketOf bundle t

-- the hand still has the same feed
abbrev pub SameHand : Hand → Hand → Type 0
SameHand old new = (stealer_deque new.stealer ≡ stealer_deque old.stealer) × (filled_items new ≡ filled_items old)

-- the hand took an end mark, or had one and did nothing
abbrev pub TookMark : Hand → Hand → Type 0
TookMark old new = ((k : ℕ) × (list_of new ≡ list_of old ++ Mark k ∷ [])) ⊎ ((ends_with_mark (list_of old) ≡ true) × (new ≡ old))

-- whatever has become of the deque and of the other hands: as long as this hand's list is unchanged, the deque holds no ticket
abbrev pub NoTicketLeft : Hand → Type 0
NoTicketLeft h = Learns Fed h.pass.id (view h.pass) AllMarks

-- whatever has become of the deque and of the other hands: as long as this hand's list is unchanged, all that the deque holds
-- comes after this item
abbrev pub OnlyLaterLeft : Hand → Item → Type 0
OnlyLaterLeft h x = Learns Fed h.pass.id (view h.pass) (λ rest. AllByRecursion (Before x) rest)

-- the hands' lists together
abbrev pub all_lists : List Hand → List Item
all_lists hands = flat_map list_of hands

-- the tickets that were taken, together with these, are the tickets of the feed, each once
abbrev pub AreLeft : List Item → List Item → List Item → Type 0
AreLeft filled taken left = All (λ x. is_ticket x ≡ true) left × ((t : Ticket) → occurrence_count (Work t) taken + occurrence_count (Work t) left ≡ cond (has_item filled (Work t)) 1 0)

-- some hand's list ends with an end mark
abbrev pub some_finished : List Hand → Bool
some_finished hands = list_any (λ h. ends_with_mark (list_of h)) hands
