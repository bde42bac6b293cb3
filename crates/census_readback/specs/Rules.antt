-- Rules as they are printed.
use Rattle.std.specs.Prelude.{ℕ, ◌+◌, Bool, false, ◌&&◌, ◌==◌, nat_le, if◌then◌else◌, Option, List, [], ◌∷◌, codes, length}
use Rattle.std.specs.Option.{option_map_or}
use Rattle.texts.specs.Bytes.{after_one_of, ◌>>=◌}

-- what follows the digits that rise, from this one up to `8`
abbrev pub after_rising : ℕ → List ℕ → List ℕ
after_rising least [] = []
after_rising least (byte ∷ bytes) = if nat_le least byte && nat_le byte 56 then after_rising (byte + 1) bytes else byte ∷ bytes

-- what follows `B`, the digits of the births, from `1` on, and `/S`
abbrev pub after_births : List ℕ → Option (List ℕ)
after_births text = do
  births ← after_one_of (codes "B") text
  rest ← after_one_of (codes "/") (after_rising 49 births)
  after_one_of (codes "S") rest

-- a printed rule, whose survivals may begin with `0`
abbrev pub is_rule : List ℕ → Bool
is_rule text = option_map_or (λ survivals. length (after_rising 48 survivals) == 0) (after_births text) false
