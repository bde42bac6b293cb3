-- Codes of at least one cell.
use Rattle.std.proofs.Common.{◌≡◌, ℕ, ◌<◌, true, List, [], ◌∷◌, length, arith}
use Rattle.std.proofs.lemmas.Bool.{and_from}
use Rattle.census_readback.specs.Codes.{has_cells, is_code, is_object}
use Rattle.census_merge.specs.Lawful.{IsCodeIfSome}

-- such a code has a byte
pub cells-some : (code : List ℕ) → has_cells code ≡ true → 0 < length code
cells-some [] h = absurd (cc)
cells-some (byte ∷ code) h = omega arith

pub cells-object : (code : List ℕ) → IsCodeIfSome code → has_cells code ≡ true → is_object code ≡ true
cells-object code told h = and_from (is_code code) (has_cells code) (told (cells-some code h)) h
