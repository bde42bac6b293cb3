-- The places of the bytes of a text.
use Rattle.std.specs.Prelude.{ℕ, ◌+◌, not, List, [], ◌∷◌, length, min, take, ◌==◌, if◌then◌else◌}
use Rattle.std.specs.List.{prefix_len, suffix_len}
use Rattle.std.specs.Option.{unwrap_or}
use Rattle.texts.specs.Bytes.{is_space}
use Rattle.life_text.specs.Rle.{without_comments}
use Rattle.life_text.specs.declared.rle.RleFault.{RleFault}
use Rattle.life_text.specs.declared.rle.RleFault.TheVariants.{NoEnd, Memory}
use Rattle.life_text.specs.Faults.{fault_place}
use Rattle.census_faults.specs.declared.rle.places.Place.{Place}

-- the number of times that a byte occurs in a text
abbrev pub times_in : ℕ → List ℕ → ℕ
times_in byte [] = 0
times_in byte (c ∷ rest) = (if c == byte then 1 else 0) + times_in byte rest

-- the line is one more than the LFs before the place, and the column one more than the bytes between the last LF before the
-- place and the place
abbrev pub line_and_column : List ℕ → ℕ → Place
line_and_column text at = record {
  line = times_in 10 (take at text) + 1;
  column = suffix_len (λ c. not (c == 10)) (take at text) + 1;
}

-- the beginning of the header line: the first byte that is neither blank nor LF nor in a line of comment, or the text's end
abbrev pub header_place : List ℕ → ℕ
header_place text = prefix_len is_space (without_comments text)

-- the byte at which a reader should look: the fault's own, else the header line's first, the text's end where the end is
-- missing, or the text's first byte
abbrev pub place_in : List ℕ → RleFault → ℕ
place_in text NoEnd = length text
place_in text Memory = 0
place_in text fault = unwrap_or (fault_place fault) (header_place text)

-- its line and column; a place after the text's end counts as the end
abbrev pub place_of_fault : List ℕ → RleFault → Place
place_of_fault text fault = line_and_column text (min (place_in text fault) (length text))
