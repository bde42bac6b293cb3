-- The places of the bytes of a name or a text. No public clause cites this module.
use Rattle.std.specs.Prelude.{ℕ, ◌≤◌, List, take}
use Rattle.census_bundle.specs.declared.bytes.Place.{Place}
use Rattle.census_bundle.specs.declared.bytes.Place.TheVariants.{Short, Long}

-- the bytes that are kept
abbrev pub kept_in : Place → List ℕ
kept_in (Short len bytes) = take len bytes
kept_in (Long bytes) = bytes.value.items

-- bytes that are kept in the value itself have room there
abbrev pub FitsPlace : Place → Type 0
FitsPlace (Short len bytes) = len ≤ 14
FitsPlace (Long bytes) = Unit {0}
