-- Reading a list of bytes piece by piece.
use Rattle.std.proofs.Common.{◌≡◌, ℕ, ◌+◌, List, ◌++◌, length, take, sym, ap, ◌∙◌, length-append, Option}
use Rattle.std.proofs.KnownBytes.{Consumes-trans}
use Rattle.std.specs.Io.KnownBytes.{Consumes}

-- the bytes so far and one more piece, at the start of a buffer, were taken together
pub taken_more : (old mid new : Option (List ℕ)) (bytes buffer : List ℕ) (count : ℕ) → Consumes old mid bytes → Consumes mid new (take count buffer) → count ≡ length (take count buffer)
    → (all : List ℕ) × (length all ≡ length bytes + count) × Consumes old new all
taken_more old mid new bytes buffer count before piece long = (
  bytes ++ take count buffer,
  length-append bytes (take count buffer) ∙ ap (λ n. length bytes + n) (sym long),
  Consumes-trans old mid new bytes (take count buffer) before piece,
)
