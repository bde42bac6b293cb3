-- The words of a report for a text that has a fault.
use Rattle.std.specs.Prelude.{ℕ, if◌then◌else◌, ◌==◌, List, ◌++◌, codes, decimal}
use Rattle.std.specs.Option.{option_map_or}
use Rattle.census_faults.specs.Rle.Sentences.{sentence_of}
use Rattle.life_text.specs.Faults.{fault_of_number}

-- the meaning of a number that names no fault of a text
abbrev pub unnamed_words : ℕ → List ℕ
unnamed_words number = if number == 0 then codes "the file can't be read" else codes "fault " ++ decimal number

-- the meaning of a fault that a report names by this number
abbrev pub fault_words : ℕ → List ℕ
fault_words number = option_map_or sentence_of (fault_of_number number) (unnamed_words number)
