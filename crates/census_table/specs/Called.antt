-- The names of codes in tables.
use Rattle.std.specs.Prelude.{ℕ, Option, Some, None, List}
use Rattle.std.specs.Option.{option_map_or}
use Rattle.census_facts.specs.Names.{Entry, name_in}
use Rattle.census_table.specs.Contents.{Content, nothing, text}

-- the names that a table has, if it has any
abbrev pub Names : Type 0
Names = Option (List Entry)

-- the content for the name of a code
abbrev pub called : Names → List ℕ → Content
called None code = nothing
called (Some entries) code = option_map_or text (name_in entries code) nothing
