-- The rule of the feed: over the items in the deque, front first, and the knowledge of each pass.
use Rattle.std.specs.Prelude.{◌≡◌, ℕ, true, ◌+◌, ◌<◌, ◌≤◌, cond, List, [], ◌∷◌, ◌++◌, length}
use Rattle.std.specs.List.{AllByRecursion, flat_map}
use Rattle.census_bundle.specs.declared.bundle.Folder.{Folder}
use Rattle.census_crew.specs.declared.item.Item.{Item}
use Rattle.census_crew.specs.declared.view.Role.{Role}
use Rattle.census_crew.specs.declared.view.Role.TheVariants.{Filler, Holder, Spent}
use Rattle.census_crew.specs.declared.view.View.{View}
use Rattle.census_crew.specs.Items.{items, Rises, has_item, is_mark, occurrence_count, mark_count}

-- the knowledge of the filler: the items that it pushed and popped, the number of hands that have begun, and the lists of those
-- that have ended
abbrev pub view_of_filler : List Item → List Item → ℕ → List (List Item) → View
view_of_filler pushed popped begun ended = record { role = Filler; filled = pushed; taken = popped; begun = begun; ended = ended }

-- the knowledge of a hand: the items that the feed was filled with, and those that it took
abbrev pub view_of_hand : List Item → List Item → View
view_of_hand filled taken = record { role = Holder; filled = filled; taken = taken; begun = 0; ended = [] }

-- the view of a pass that has handed everything over
abbrev pub spent_view : View
spent_view = record { role = Spent; filled = []; taken = []; begun = 0; ended = [] }

abbrev pub by_role : {X : Type 0} → X → X → X → Role → X
by_role filler holder none Filler = filler
by_role filler holder none Holder = holder
by_role filler holder none Spent = none

-- one list for each hand: its own, and those of the ended ones, which the filler has
abbrev pub lists_of : View → List (List Item)
lists_of v = by_role v.ended (v.taken ∷ []) [] v.role

abbrev pub lists : List View → List (List Item)
lists views = flat_map lists_of views

-- the hands' lists together
abbrev pub all_items_of : List (List Item) → List Item
all_items_of ls = flat_map (λ l. l) ls

abbrev pub fillers_of : View → List View
fillers_of v = by_role (v ∷ []) [] [] v.role

abbrev pub views_of_filler : List View → List View
views_of_filler views = flat_map fillers_of views

-- a hand knows what was pushed
abbrev pub KnowsFilled : List Item → View → Type 0
KnowsFilled pushed v = v.role ≡ Holder → v.filled ≡ pushed

-- The state of a feed of this bundle for `workers` hands: the items that were pushed, those that were popped, the rest that the
-- deque holds, and a list for each hand, including the ended ones, of which there are `ended`.
-- The pushed items are a prefix of the bundle's items, and all of them once a hand has begun. They are a front that the hands
-- took, then the popped items, then the rest. Each item, of this bundle or not, is once in the hands' lists together if it is
-- in that front, and otherwise not at all. Each hand's list rises and has at most one end mark. At most `workers` hands have
-- begun, and nothing is popped until `workers` hands have ended.
pub record IsSoundFeed (bundle : List Folder) (workers : ℕ) (pushed popped rest : List Item) (hands : List (List Item)) (ended : ℕ) : Type 0 where
  pub front : List Item
  pub behind : List Item
  pub in_order : items bundle workers ≡ pushed ++ behind
  pub all_pushed : 0 < length hands → behind ≡ []
  pub parts : pushed ≡ front ++ (popped ++ rest)
  pub once : (x : Item) → occurrence_count x (all_items_of hands) ≡ cond (has_item front x) 1 0
  pub each : AllByRecursion (λ l. Rises l × (mark_count l ≤ 1)) hands
  pub few : length hands ≤ workers
  pub late : 0 < length popped → workers ≤ ended

-- The rule: one pass is the filler's, it knows how many hands have begun, each hand knows what was pushed, and the state that
-- the views describe is sound for some bundle and some number of workers
pub record Fed (rest : List Item) (views : List View) : Type 0 where
  pub bundle : List Folder
  pub workers : ℕ
  pub filler : View
  pub one : views_of_filler views ≡ filler ∷ []
  pub counted : filler.begun ≡ length (lists views)
  pub known : AllByRecursion (KnowsFilled filler.filled) views
  pub sound : IsSoundFeed bundle workers filler.filled filler.taken rest (lists views) (length filler.ended)

-- the view of a pass after each kind of step that it makes
abbrev pub view_after_push : View → List Item → View
view_after_push v xs = record v { filled = v.filled ++ xs }

abbrev pub view_after_take : View → List Item → View
view_after_take v xs = record v { taken = v.taken ++ xs }

abbrev pub begins_one : View → View
begins_one v = record v { begun = v.begun + 1 }

abbrev pub new_hand : View → View
new_hand v = view_of_hand v.filled []

abbrev pub ends_one : View → View → View
ends_one v w = record v { ended = v.ended ++ w.taken ∷ [] }

-- the knowledge of a hand after a steal: its list still rises, and it took an item of the feed
abbrev pub Stole : View → List Item → View → Type 0
Stole v xs w = (w ≡ view_after_take v xs) × Rises w.taken × AllByRecursion (λ x. has_item v.filled x ≡ true) xs

-- the knowledge of the filler after a pop
abbrev pub Popped : View → List Item → View → Type 0
Popped v xs w = (w ≡ view_after_take v xs) × (length w.taken ≤ length w.filled)

abbrev pub AllMarks : List Item → Type 0
AllMarks xs = AllByRecursion (λ x. is_mark x ≡ true) xs

-- the knowledge of the filler once all hands have ended and the deque is empty: each item is in one list, once
abbrev pub AllOut : View → Type 0
AllOut v =
    ((x : Item) → occurrence_count x (all_items_of v.ended) + occurrence_count x v.taken ≡ cond (has_item v.filled x) 1 0)
    × (0 < mark_count (all_items_of v.ended) → AllMarks v.taken)
