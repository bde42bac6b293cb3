-- The cells around a place, as eight seats, and ways to colour them.
use Rattle.std.specs.Prelude.{◌≡◌, ◌≢◌, ◌⊎◌, ℕ, zero, suc, ◌+◌, ◌<◌, ◌==◌, Bool, true, false, ◌&&◌, cond, List, length, get_or}
use Rattle.life_model.specs.Cell.{Cell, around, origin}
use Rattle.life_model.specs.Rule.{Rule, born}
use Rattle.life_model.specs.Generation.{Generation, contains, empty}
use Rattle.life_islands.specs.declared.colours.Seat.{Seat}

abbrev pub nobody : Seat
nobody = record { live = false; island = 0; set = 0 }

abbrev pub seat : List Seat → ℕ → Seat
seat seats n = get_or seats n nobody

-- the number of those among the first n numbers that pass the test
abbrev pub count_to : ℕ → (ℕ → Bool) → ℕ
count_to zero test = 0
count_to (suc n) test = count_to n test + cond (test n) 1 0

-- the number of live seats with a colour
abbrev pub count_colour : List Seat → (ℕ → ℕ) → ℕ → ℕ
count_colour seats colour k = count_to 8 (λ n. (seat seats n).live && (colour n == k))

-- true if a seat is live and its group bears: a cell is born of as many live cells as the group has
abbrev pub bears_at : Rule → List Seat → (ℕ → ℕ) → ℕ → Bool
bears_at R seats colour n = (seat seats n).live && born R (count_colour seats colour (colour n))

-- two seats are coloured rightly
pub record Agree (seats : List Seat) (m n k l : ℕ) : Type 0 where
  pub islands : (seat seats m).island ≡ (seat seats n).island → k ≡ l
  pub sets : k ≡ l → (seat seats m).set ≡ (seat seats n).set

-- seats of one island have one colour, and seats of one colour are of one set
abbrev pub IsColouring : List Seat → (ℕ → ℕ) → Type 0
IsColouring seats colour =
    (m n : ℕ) → m < n → n < 8 → (seat seats m).live ≡ true → (seat seats n).live ≡ true → Agree seats m n (colour m) (colour n)

-- One group alone bears where there is a birth, and none where there is none.
pub record IsFairAround (R : Rule) (seats : List Seat) (is_born : Bool) (colour : ℕ → ℕ) : Type 0 where
  pub only : (n : ℕ) → n < 8 → bears_at R seats colour n ≡ true → is_born ≡ true
  pub one : (m n : ℕ) → m < 8 → n < 8 → bears_at R seats colour m ≡ true → bears_at R seats colour n ≡ true → colour m ≡ colour n
  pub borne : is_born ≡ true → (n : ℕ) × (n < 8) × (bears_at R seats colour n ≡ true)

-- The colouring is fair, and the group that bears is of this set.
pub record IsSound (R : Rule) (seats : List Seat) (is_born : Bool) (bearer : ℕ) (colour : ℕ → ℕ) : Type 0 where
  pub fair : IsFairAround R seats is_born colour
  pub set : (n : ℕ) → n < 8 → bears_at R seats colour n ≡ true → (seat seats n).set ≡ bearer

-- The colouring is fair and the group of a set other than the bearer bears, or it isn't fair.
abbrev pub IsFlaw : Rule → List Seat → Bool → ℕ → ℕ → (ℕ → ℕ) → ℕ → Type 0
IsFlaw R seats is_born bearer other colour found =
    (IsFairAround R seats is_born colour × ((n : ℕ) × (n < 8) × (bears_at R seats colour n ≡ true)
    × ((seat seats n).set ≡ found) × (found ≢ bearer)))
    ⊎ ((found ≡ other) × (IsFairAround R seats is_born colour → ⊥))

-- the colours of a list, 0 past its end
abbrev pub listed : List ℕ → ℕ → ℕ
listed colours n = get_or colours n 0

-- a colouring that is tried: each colour is at most the seat's number, and 0 for seats that are not live
pub record AreTried (seats : List Seat) (colour : ℕ → ℕ) : Type 0 where
  pub few : (n : ℕ) → n < 8 → colour n < n + 1
  pub rest : (n : ℕ) → n < 8 → (seat seats n).live ≡ false → colour n ≡ 0
  pub colouring : IsColouring seats colour

-- the first colours of a list are these
abbrev pub BeginWith : List ℕ → ℕ → (ℕ → ℕ) → Type 0
BeginWith colours at colour = (n : ℕ) → n < at → listed colours n ≡ colour n

-- the first seats are coloured rightly
abbrev pub IsBegun : List Seat → List ℕ → ℕ → Type 0
IsBegun seats colours at =
    (m n : ℕ) → m < n → n < at → (seat seats m).live ≡ true → (seat seats n).live ≡ true →
    Agree seats m n (listed colours m) (listed colours n)

-- the cell of a seat: one of the eight around a place
abbrev pub cell_at : Cell → ℕ → Cell
cell_at x n = get_or (around x) n origin

-- The seat is that of the cell with this number around x in G: whether it is live, and the places of its island and of
-- its set.
pub record IsSeat (G : Generation) (isles sets : List Generation) (x : Cell) (n : ℕ) (s : Seat) : Type 0 where
  pub live : s.live ≡ contains G (cell_at x n)
  pub island_within : s.live ≡ true → s.island < length isles
  pub island : s.live ≡ true → contains (get_or isles s.island empty) (cell_at x n) ≡ true
  pub set_within : s.live ≡ true → s.set < length sets
  pub set : s.live ≡ true → contains (get_or sets s.set empty) (cell_at x n) ≡ true

-- The seats are those of the eight cells around x in G.
pub record AreSeats (G : Generation) (isles sets : List Generation) (x : Cell) (seats : List Seat) : Type 0 where
  pub long : length seats ≡ 8
  pub each : (n : ℕ) → n < 8 → IsSeat G isles sets x n (seat seats n)

-- the set of a seat, as a colour
abbrev pub set_at : List Seat → ℕ → ℕ
set_at seats n = (seat seats n).set

-- a live seat of this set
pub record IsOf (seats : List Seat) (set n : ℕ) : Type 0 where
  pub within : n < 8
  pub live : (seat seats n).live ≡ true
  pub is : (seat seats n).set ≡ set

-- all live seats are of one set
abbrev pub AreOfOne : List Seat → Type 0
AreOfOne seats =
    (m n : ℕ) → m < 8 → n < 8 → (seat seats m).live ≡ true → (seat seats n).live ≡ true → (seat seats m).set ≡ (seat seats n).set

-- true if a cell is born of all live seats together
abbrev pub is_born_by : Rule → List Seat → Bool
is_born_by R seats = born R (count_to 8 (λ n. (seat seats n).live))

-- All colourings that are tried are sound.
pub record AreAllSound (R : Rule) (seats : List Seat) (is_born : Bool) (bearer : ℕ) : Type 0 where
  pub sound : (colour : ℕ → ℕ) → AreTried seats colour → IsSound R seats is_born bearer colour

-- Some colouring is fair, and the group that bears is of this set.
pub record IsBorneBy (R : Rule) (seats : List Seat) (is_born : Bool) (set : ℕ) : Type 0 where
  pub colour : ℕ → ℕ
  pub colouring : IsColouring seats colour
  pub fair : IsFairAround R seats is_born colour
  pub by : ℕ
  pub within : by < 8
  pub bears : bears_at R seats colour by ≡ true
  pub is : (seat seats by).set ≡ set

-- Some colouring is not fair.
pub record IsUnfair (R : Rule) (seats : List Seat) (is_born : Bool) : Type 0 where
  pub colour : ℕ → ℕ
  pub colouring : IsColouring seats colour
  pub unfair : IsFairAround R seats is_born colour → ⊥

-- The reason why two sets are joined: some colouring is not fair, or either set bears in some fair one.
abbrev pub AreTiedBy : Rule → List Seat → Bool → ℕ → ℕ → Type 0
AreTiedBy R seats is_born i j = IsUnfair R seats is_born ⊎ (IsBorneBy R seats is_born i × IsBorneBy R seats is_born j)

-- Two sets of live seats are joined.
pub record IsSeatLink (R : Rule) (seats : List Seat) (link : ℕ × ℕ) : Type 0 where
  pub first : ℕ
  pub second : ℕ
  pub of_first : IsOf seats link.0 first
  pub of_second : IsOf seats link.1 second
  pub differ : link.0 ≢ link.1
  pub tied : AreTiedBy R seats (is_born_by R seats) link.0 link.1
