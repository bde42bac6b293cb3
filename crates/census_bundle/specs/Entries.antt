-- Entries that have a text, and those that were lost.
use Rattle.std.specs.Prelude.{ℕ, List, [], true, false}
use Rattle.census_bundle.specs.declared.bundle.Entry.{Entry}

-- an entry that has a text
abbrev pub entry_of : List ℕ → List ℕ → Entry
entry_of name text = record { name = name; text = text; is_lost = false }

-- an entry that was lost, which has no text
abbrev pub lost_entry : List ℕ → Entry
lost_entry name = record { name = name; text = []; is_lost = true }
