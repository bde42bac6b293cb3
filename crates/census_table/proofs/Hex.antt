-- Names in hex.
use Rattle.std.proofs.Common.{◌≡◌, Bool, if◌then◌else◌, List, ℕ, Some, None, sym, inl, inr, ap}
use Rattle.std.proofs.lemmas.Bool.{cases_Bool}
use Rattle.std.proofs.lemmas.Str.{IsUtf8-from_is_utf8, is_utf8-from_IsUtf8}
use Rattle.std.specs.Str.{IsUtf8, is_utf8}
use Rattle.hex.specs.Hex.{encode_lower}
use Rattle.census_table.specs.Contents.{hex_of}

pub hex-none : (bytes : List ℕ) → IsUtf8 bytes → None ≡ hex_of bytes
hex-none bytes is = sym (ap (λ (b : Bool). if b then None else Some (encode_lower bytes)) (is_utf8-from_IsUtf8 bytes is))

pub hex-some : (bytes : List ℕ) → ¬ (IsUtf8 bytes) → Some (encode_lower bytes) ≡ hex_of bytes
hex-some bytes isnt = elim (cases_Bool (is_utf8 bytes)) [
  | inl valid ↦ absurd (isnt (IsUtf8-from_is_utf8 bytes valid))
  | inr invalid ↦ sym (ap (λ (b : Bool). if b then None else Some (encode_lower bytes)) invalid)
]
