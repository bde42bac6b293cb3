-- What `draw` writes, and what each of its errors says.
use Rattle.std.specs.Prelude.{◌≡◌, ℕ, List, Ok, Option, Err, Some, None}
use Rattle.std.specs.Io.KnownBytes.{Appends}
use Rattle.watched.specs.Streams.{Streams}
use Rattle.watched.specs.Watching.{AppendsFront}
use Rattle.life_model.specs.Rule.{Rule}
use Rattle.life_model.specs.Symmetry.{normal}
use Rattle.life_cells.specs.Rules.{rule_of}
use Rattle.life_cells.specs.CodeReading as wechsler
use Rattle.life_cells.specs.TextOrder.{body_of}
use Rattle.life_text.specs.RleText.{rle_text}
use Rattle.census_command.specs.Streams.{IsUntouched, WriteFails}
use Rattle.census_errors.specs.declared.draw_error.DrawError.{DrawError}
use Rattle.census_errors.specs.declared.draw_error.DrawError.TheVariants.{Rule as RuleText, Code, Memory, Write}

-- the RLE text of the shape that the body of a code spells
abbrev pub drawn_text : Rule → List ℕ → List ℕ
drawn_text R code = rle_text R (normal (wechsler.cells_spelled (body_of code)))

-- the rule text names a rule, the code's body has no fault, and this is its RLE text
pub record IsDrawn (code rule : List ℕ) (written : List ℕ) : Type 0 where
  pub named : Rule
  pub names : rule_of rule ≡ Ok named
  pub lawful : wechsler.refusal (body_of code) ≡ None
  pub is : written ≡ drawn_text named code

-- The rule text has a fault, or else the body of the code has. The rule is checked first.
abbrev pub RefusesCode : DrawError → List ℕ → List ℕ → Type 0
RefusesCode (RuleText fault) code rule = rule_of rule ≡ Err fault
RefusesCode (Code fault) code rule =
    ((R : Rule) × (rule_of rule ≡ Ok R)) × (wechsler.refusal (body_of code) ≡ Some fault)
RefusesCode Memory code rule = Unit {0}
RefusesCode Write code rule = ⊥

-- The code's RLE text is what was written, or only a prefix of it, as `Puts` says: as much as the writer took. Nothing was read.
pub record DrawsBy (Puts : Option (List ℕ) → Option (List ℕ) → List ℕ → Type 0) (code rule : List ℕ)
    (before after : Streams) : Type 0 where
  pub text : List ℕ
  pub drawn : IsDrawn code rule text
  pub written : Puts before.output.written after.output.written text
  pub unread : after.input.unread ≡ before.input.unread

-- Why the code's RLE text was not written. Where the writer didn't fail, nothing was.
abbrev pub DrawFails : DrawError → List ℕ → List ℕ → Streams → Streams → Type 0
DrawFails Write code rule before after = DrawsBy AppendsFront code rule before after × WriteFails after
DrawFails error code rule before after = RefusesCode error code rule × IsUntouched before after

-- # What the parts that draw return

-- all of it was written
abbrev pub Draws : List ℕ → List ℕ → Streams → Streams → Type 0
Draws code rule before after = DrawsBy Appends code rule before after
