-- Whether claims and patterns agree, as it is tested.
use Rattle.std.specs.Prelude.{Bool, false, ◌&&◌, List, nat_eq}
use Rattle.std.specs.Cmp.Lexicographic.{pointwise}
use Rattle.std.specs.List.{list_all}
use Rattle.census_table.specs.declared.entry.Entry.{Entry}
use Rattle.census_compare.specs.Agreement.{told}
use Rattle.census_compare.specs.Claims.{Cell, Claim}
use Rattle.census_compare.specs.Patterns.{is_claimed, matched, patterns_of}
use Rattle.census_compare.specs.declared.index.Match.{Match}
use Rattle.census_compare.specs.declared.index.Match.TheVariants.{One}

abbrev pub cell_agrees : Entry → Cell → Bool
cell_agrees pattern cell = pointwise nat_eq cell.value (told cell.column pattern)

-- a claim about the only pattern, which has what it says
abbrev pub match_agrees : Claim → Match → Bool
match_agrees claim (One pattern) = list_all (cell_agrees pattern) claim.cells
match_agrees claim _ = false

abbrev pub claim_agrees : List Entry → Claim → Bool
claim_agrees patterns claim = match_agrees claim (matched (patterns_of claim patterns))

abbrev pub all_agree : List Claim → List Entry → Bool
all_agree claims patterns = list_all (claim_agrees patterns) claims && list_all (is_claimed claims) patterns
