-- Statements about the owner of a feed's deque while it fills it, and about a hand's pass.
use Rattle.std.specs.Prelude.{◌≡◌, ◌<◌, ℕ, true, false, Bool, List, ◌++◌, length}
use Rattle.crossbeam_deque.specs.Handles.{worker_flavor, worker_view}
use Rattle.crossbeam_deque.specs.declared.handles.Worker.{Worker}
use Rattle.census_bundle.specs.declared.bundle.Folder.{Folder}
use Rattle.census_crew.specs.declared.item.Item.{Item}
use Rattle.census_crew.specs.declared.view.Role.TheVariants.{Filler}
use Rattle.census_crew.specs.declared.view.View.{View}
use Rattle.census_crew.specs.Items.{items, mark_count, ends_with_mark}

-- the filler fills: no hand has ended and nothing was popped
abbrev pub IsFilling : {A P : Type 0} → Worker Item A View P → ℕ → Type 0
IsFilling w begun =
    (worker_flavor w ≡ 0) × ((worker_view w).role ≡ Filler) × ((worker_view w).begun ≡ begun) × (length (worker_view w).taken ≡ 0) × (length (worker_view w).ended ≡ 0)

-- the items of some feed begin with these and then the next
abbrev pub CanFollow : List Item → List Item → Type 0
CanFollow filled next = (bundle : List Folder) × (workers : ℕ) × (behind : List Item) × (items bundle workers ≡ (filled ++ next) ++ behind)

-- a hand that has finished has a list that ends with a mark, and any other has a list without marks
abbrev pub Finishes : Bool → List Item → Type 0
Finishes finished taken = (finished ≡ false → mark_count taken ≡ 0) × (finished ≡ true → ends_with_mark taken ≡ true)

-- the filler ends hands: it has begun some, and popped nothing
abbrev pub IsEnding : {A P : Type 0} → Worker Item A View P → Type 0
IsEnding w = (worker_flavor w ≡ 0) × ((worker_view w).role ≡ Filler) × (length (worker_view w).taken ≡ 0)

-- all hands have ended
abbrev pub HasEnded : View → Type 0
HasEnded v = (v.begun ≡ length v.ended) × (v.begun ≡ mark_count v.filled) × (0 < v.begun)
