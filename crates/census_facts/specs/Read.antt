-- The entries of names, as they are kept.
use Rattle.std.specs.Prelude.{ℕ, Vec}
use Rattle.std.specs.Global.{Global}
use Rattle.census_facts.specs.Names.{Entry, entry}

abbrev pub entry_read : Vec ℕ Global × Vec ℕ Global → Entry
entry_read kept = entry kept.0.items kept.1.items
