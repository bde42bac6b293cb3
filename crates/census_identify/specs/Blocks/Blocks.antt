-- The text about the pattern of one RLE text.
use Rattle.std.specs.Prelude.{ℕ, List, ◌++◌, Option, Result, Ok, Err}
use Rattle.life_cells.specs.Rules.{rule_text}
use Rattle.life_model.specs.Box.{height, width}
use Rattle.life_model.specs.Generation.{size}
use Rattle.life_text.specs.declared.rle.RleFault.{RleFault}
use Rattle.life_text.specs.Picture.{Picture, picture_of}
use Rattle.life_text.specs.Rle.{reading}
use Rattle.census_identify.specs.Blocks.Known.{known_of}
use Rattle.census_identify.specs.Blocks.Things.{head_things, known_things}
use Rattle.census_identify.specs.declared.blocks.inquiry.Inquiry.{Inquiry}
use Rattle.census_facts.specs.Facts.{Thing}
use Rattle.census_facts.specs.Forms.{things_text}
use Rattle.census_facts.specs.Names.{Entry}

-- the facts about the file and generation 0, and then those known about the pattern within the bound
abbrev pub pattern_things : Inquiry → List Entry → Option (List ℕ) → Picture → List Thing
pattern_things inquiry names file pattern =
    head_things file (rule_text pattern.rule) (size pattern.cells) (width pattern.cells, height pattern.cells)
    ++ known_things names inquiry.bound (known_of inquiry pattern)

-- these facts in the form of the inquiry, with the names that objects have
unfoldable pub pattern_block : Inquiry → List Entry → Option (List ℕ) → Picture → List ℕ
pattern_block inquiry names file pattern = things_text inquiry.form names (pattern_things inquiry names file pattern)

-- the block of a pattern, or the fault of a text that means none
abbrev pub block_or_fault : Inquiry → List Entry → Option (List ℕ) → Result Picture RleFault → Result (List ℕ) RleFault
block_or_fault inquiry names file (Ok pattern) = Ok (pattern_block inquiry names file pattern)
block_or_fault inquiry names file (Err fault) = Err fault

-- the block or the fault of the RLE text of a file, or of one that is from no file
unfoldable pub block_of : Inquiry → List Entry → Option (List ℕ) → List ℕ → Result (List ℕ) RleFault
block_of inquiry names file text = block_or_fault inquiry names file (picture_of (reading text))
