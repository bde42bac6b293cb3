-- Numbers in bytes: 7 bits in each, the lowest first.
use Rattle.std.specs.Prelude.{ℕ, zero, suc, ◌+◌, ◌-◌, ◌*◌, ◌/◌, ◌%◌, ◌^◌, ◌≡◌, nat_lt, if◌then◌else◌, List, [], ◌∷◌, ◌++◌}

-- the number at the start of bytes, and the bytes after it
unfoldable pub number_in : List ℕ → ℕ × List ℕ
number_in [] = (0, [])
number_in (byte ∷ bytes) =
    if nat_lt byte 128 then (byte, bytes) else ((((number_in bytes).0 * 128) % 2 ^ 64 + (byte - 128)) % 2 ^ 64, (number_in bytes).1)

-- the bytes of a number, of which there are at most this many more than one
unfoldable pub bytes_within : ℕ → ℕ → List ℕ
bytes_within zero number = number ∷ []
bytes_within (suc more) number = if nat_lt number 128 then number ∷ [] else (number % 128 + 128) ∷ bytes_within more (number / 128)

-- the bytes of a number below 2 ^ 64
unfoldable pub number_bytes : ℕ → List ℕ
number_bytes number = bytes_within 9 number

-- the bytes of numbers
abbrev pub numbers_bytes : List ℕ → List ℕ
numbers_bytes [] = []
numbers_bytes (number ∷ numbers) = number_bytes number ++ numbers_bytes numbers

-- the new bytes are the old ones, with more after them
pub record Grown (old new : List ℕ) : Type 0 where
  pub more : List ℕ
  pub whole : new ≡ old ++ more
