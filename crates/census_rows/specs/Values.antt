-- The values of a finding's fields, without their labels.
use Rattle.std.specs.Prelude.{ℕ, ℤ, pos, negsuc, ◌+◌, ◌*◌, ◌/◌, ◌%◌, ◌==◌, if◌then◌else◌, Option, Some, None, List, [], ◌∷◌}
use Rattle.std.specs.Borrow.{Bor}
use Rattle.census_rows.specs.declared.kinds.Field.{Field}
use Rattle.census_rows.specs.declared.kinds.Value.{Value}
use Rattle.census_rows.specs.declared.kinds.Value.TheVariants.{Number, Signed, Text}

-- a signed number as one without a sign
abbrev pub folded : ℤ → ℕ
folded (pos n) = n * 2
folded (negsuc n) = n * 2 + 1

-- the signed number that was folded to this one
abbrev pub unfolded : ℕ → ℤ
unfolded n = if n % 2 == 0 then pos (n / 2) else negsuc (n / 2)

-- the number of a value, if it is one, and then the numbers of others
abbrev pub number_then : Value → List ℕ → List ℕ
number_then (Number n) numbers = n ∷ numbers
number_then (Signed z) numbers = folded z ∷ numbers
number_then (Text bytes) numbers = numbers

-- the numbers of fields, of which those with a sign are folded
abbrev pub numbers_of : List Field → List ℕ
numbers_of [] = []
numbers_of (field ∷ fields) = number_then field.value (numbers_of fields)

-- the word of a value, if it is one, and then the words of others
abbrev pub word_then : Value → List (Bor (List ℕ)) → List (Bor (List ℕ))
word_then (Text bytes) words = bytes ∷ words
word_then _ words = words

-- the rules and codes of fields
abbrev pub words_of : List Field → List (Bor (List ℕ))
words_of [] = []
words_of (field ∷ fields) = word_then field.value (words_of fields)

-- a word as a list, where there is one
abbrev pub list_of : Option (Bor (List ℕ)) → List (Bor (List ℕ))
list_of None = []
list_of (Some word) = word ∷ []
