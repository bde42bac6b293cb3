-- Where claims and patterns agree.
use Rattle.std.specs.Prelude.{◌≡◌, ◌↔◌, ℕ, Bool, true, false, None, List, [], ◌∷◌}
use Rattle.std.specs.List.{All}
use Rattle.census_table.specs.Columns.{content_in_column}
use Rattle.census_table.specs.Contents.{content_bytes}
use Rattle.census_table.specs.declared.column.Column.{Column}
use Rattle.census_table.specs.declared.entry.Entry.{Entry}
use Rattle.census_compare.specs.Claims.{Claim}
use Rattle.census_compare.specs.Patterns.{is_claimed, patterns_of}

-- what a table of patterns has for a pattern in a column
abbrev pub told : Column → Entry → List ℕ
told column pattern = content_bytes false (content_in_column None column pattern)

-- the claim is about exactly one pattern, and a table has for it what each cell claims
pub record IsTrueOf (patterns : List Entry) (claim : Claim) : Type 0 where
  pub pattern : Entry
  pub only : patterns_of claim patterns ≡ pattern ∷ []
  pub cells : All (λ cell. cell.value ≡ told cell.column pattern) claim.cells

-- each claim is true of the patterns, and each pattern has a claim about it
pub record Agree (claims : List Claim) (patterns : List Entry) : Type 0 where
  pub true_claims : All (IsTrueOf patterns) claims
  pub all_claimed : All (λ pattern. is_claimed claims pattern ≡ true) patterns

-- nothing is reported, and nothing was found, exactly where they agree
pub record IsVerdict (claims : List Claim) (patterns : List Entry) (found : Bool) (text : List ℕ) : Type 0 where
  pub agree : (found ≡ false) ↔ Agree claims patterns
  pub silent : (text ≡ []) ↔ (found ≡ false)
