-- The classes at which lines come back.
use Rattle.std.specs.Prelude.{◌≡◌, ◌⊎◌, ℕ, ◌<◌, ◌≤◌, true, List, length, get_or}
use Rattle.std.specs.List.{Contains}
use Rattle.life_model.specs.Generation.{Generation}
use Rattle.life_tracks.specs.declared.lines.Line.{Line}
use Rattle.life_tracks.specs.declared.returns.Return.{Return}
use Rattle.life_tracks.specs.Lines.{ComesToReturn}

abbrev pub return_at : ℕ → ℕ → Return
return_at n k = record { generation = n; place = k }

-- the line at place k comes back
abbrev pub IsBackIn : List Line → ℕ → Type 0
IsBackIn lines k = (k < length lines) × ((d : Line) → (get_or lines k d).is_return ≡ true)

-- Those of the first `count` lines that come back in generation n are added.
pub record IsWithReturnsOf (lines : List Line) (n count : ℕ) (old new : List Return) : Type 0 where
  pub from : (r : Return) → Contains new r → Contains old r ⊎ ((r.generation ≡ n) × IsBackIn lines r.place)
  pub kept : (r : Return) → Contains old r → Contains new r
  pub all : (k : ℕ) → k < count → IsBackIn lines k → Contains new (return_at n k)

abbrev pub IsWithReturns : List Line → ℕ → List Return → List Return → Type 0
IsWithReturns lines n old new = IsWithReturnsOf lines n (length lines) old new

-- the classes of the generations up to T at which lines come back
pub record AreReturns (classes : ℕ → List Generation) (parents : ℕ → List ℕ) (T : ℕ) (found : List Return) : Type 0 where
  pub right : (r : Return) → Contains found r → (r.generation ≤ T) × ComesToReturn classes parents r.generation r.place
  pub all : (n k : ℕ) → n ≤ T → ComesToReturn classes parents n k → Contains found (return_at n k)
