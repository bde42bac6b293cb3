-- The parts of a pattern that has fallen apart, counted by their codes.
use Rattle.std.specs.Prelude.{ℕ, ◌+◌, List, [], ◌∷◌, fold}
use Rattle.std.specs.declared.cmp.Ordering.{Ordering}
use Rattle.std.specs.declared.cmp.Ordering.TheVariants.{Less, Equal, Greater}
use Rattle.life_cells.specs.TextOrder.{shorter_cmp}
use Rattle.life_answer.specs.declared.part.Part.{Part}

-- the total number of objects
abbrev pub objects_in : List Part → ℕ
objects_in [] = 0
objects_in (part ∷ parts) = part.count + objects_in parts

-- one object with this code
abbrev pub single : List ℕ → Part
single code = record { code = code; count = 1 }

-- one more object with the same code
abbrev pub more : Part → Part
more part = record { code = part.code; count = part.count + 1 }

-- a code that is less than, equal to, or greater than that of a part, counted among this part and others
abbrev pub with_code_by_order : Ordering → List ℕ → Part → List Part → List Part → List Part
with_code_by_order Less code part parts rest = single code ∷ part ∷ parts
with_code_by_order Equal code part parts rest = more part ∷ parts
with_code_by_order Greater code part parts rest = part ∷ rest

-- one more object with this code, counted among parts in the order of their codes, by length, then by bytes
abbrev pub with_code : List ℕ → List Part → List Part
with_code code [] = single code ∷ []
with_code code (part ∷ parts) = with_code_by_order (shorter_cmp code part.code) code part parts (with_code code parts)

-- more objects with these codes
abbrev pub with_codes : List (List ℕ) → List Part → List Part
with_codes codes parts = fold (λ parts code. with_code code parts) parts codes

-- objects with these codes, counted: for each code one part, in the order of codes, by length, then by bytes
abbrev pub counted_codes : List (List ℕ) → List Part
counted_codes codes = with_codes codes []
