-- The line on standard error for a text that was cut.
use Rattle.std.specs.Prelude.{ℕ, List, ◌++◌, codes, decimal}
use Rattle.census_merge.specs.declared.mending.Cut.{Cut}

-- after which line it was cut, how many collections are kept, and how many are left out
abbrev pub cut_line : Cut → List ℕ
cut_line cut =
    codes "census: cut after line " ++ decimal cut.line ++ codes ": " ++ decimal cut.kept ++ codes " collections kept, "
    ++ decimal cut.left ++ codes " left out\n"
