-- The effect of calls of readers and writers on known bytes.
use Rattle.std.specs.Prelude.{ℕ, ◌<◌, ◌≤◌, List, length, take, Option}
use Rattle.std.specs.Io.KnownBytes.{Appends, Consumes}

-- known bytes grow by some prefix of these bytes
abbrev pub AppendsFront : Option (List ℕ) → Option (List ℕ) → List ℕ → Type 0
AppendsFront old new bytes = (n : ℕ) × (n ≤ length bytes) × Appends old new (take n bytes)

-- known bytes lose a prefix of at most this length
abbrev pub ConsumesAtMost : ℕ → Option (List ℕ) → Option (List ℕ) → Type 0
ConsumesAtMost most old new = (bytes : List ℕ) × (length bytes ≤ most) × Consumes old new bytes

-- known bytes lose a prefix that is longer than this
abbrev pub ConsumesMoreThan : ℕ → Option (List ℕ) → Option (List ℕ) → Type 0
ConsumesMoreThan limit old new = (bytes : List ℕ) × (limit < length bytes) × Consumes old new bytes
