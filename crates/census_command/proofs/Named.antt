-- The names in the text of a word.
use Rattle.std.proofs.Common.{◌≡◌, ℕ, List, Result, Ok, Err, MatchResult, inr}
use Rattle.watched.specs.Streams.{Streams}
use Rattle.census_folders.specs.Told.{Told}
use Rattle.census_facts.specs.NameLines.{names_in}
use Rattle.census_facts.specs.Names.{Entry}
use Rattle.census_reports.specs.declared.error.ReportsError.{ReportsError}
use Rattle.census_command.specs.Identifying.{HasNoNames, LacksNames, ReadsNames, ReadsText}

-- a text was read, and it has names or none
pub names_read : (r : Result (List Entry) ReportsError) (held : List ℕ → Told) (word text : List ℕ) (a b : Streams) → ReadsText held word text a b
    → MatchResult r (λ names. names_in text ≡ Ok names) (λ error. HasNoNames error text)
    → MatchResult r (λ names. ReadsNames held word names a b) (λ error. LacksNames error held word a b)
names_read (Ok names) held word text a b read is = (text, read, is)
names_read (Err error) held word text a b read why = inr (text, read, why)
