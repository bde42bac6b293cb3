-- The name of a fault in the program's lines: its kind, its number and its place.
use Rattle.std.specs.Prelude.{ℕ, List, [], ◌++◌, Option, codes, decimal}
use Rattle.std.specs.Option.{option_map_or}

-- `KIND fault N`, followed by ` at A` where there is a place
abbrev pub numbered : List ℕ → ℕ → Option ℕ → List ℕ
numbered kind number at = kind ++ codes " fault " ++ decimal number ++ option_map_or (λ at. codes " at " ++ decimal at) at []
