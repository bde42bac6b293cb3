-- The forms in which things are reported, with the names of objects.
use Rattle.std.specs.Prelude.{ℕ, List, [], ◌∷◌}
use Rattle.census_facts.specs.Names.{Entry}
use Rattle.census_facts.specs.Facts.{Thing}
use Rattle.census_facts.specs.Lines.{things_lines}
use Rattle.census_facts.specs.Values.{object_line}
use Rattle.census_facts.specs.declared.form.Form.{Form}
use Rattle.census_facts.specs.declared.form.Form.TheVariants.{Lines, Json}

abbrev pub things_text : Form → List Entry → List Thing → List ℕ
things_text Lines names things = things_lines names things
things_text Json names things = object_line names things

-- the separator between one text and the next: an LF, or nothing
abbrev pub separator : Form → List ℕ
separator Lines = 10 ∷ []
separator Json = []
