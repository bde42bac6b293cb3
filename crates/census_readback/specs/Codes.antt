-- Codes of objects: `x`, a letter, a number, `_` and a body.
use Rattle.std.specs.Prelude.{ℕ, ◌+◌, Bool, false, not, ◌&&◌, ◌||◌, ◌==◌, nat_eq, nat_lt, if◌then◌else◌, Option, None as Nothing, List, ◌∷◌, codes, decimal, drop, length, position, take}
use Rattle.std.specs.Cmp.Lexicographic.{pointwise}
use Rattle.std.specs.List.{list_all}
use Rattle.std.specs.Option.{option_map, option_map_or}
use Rattle.life_cells.specs.CodeReading.{is_base_36_digit}
use Rattle.texts.specs.Bytes.{is_digit}
use Rattle.census_readback.specs.declared.code.CodeParts as cut

-- the letter after `x`, the number up to the first `_`, and the body after it
pub record CodeParts : Type 0 where
  pub letter : ℕ
  pub number : List ℕ
  pub body : List ℕ

abbrev pub parts_of : cut.CodeParts → CodeParts
parts_of parts = record { letter = parts.letter; number = parts.number.now; body = parts.body.now }

abbrev pub code_parts : List ℕ → Option CodeParts
code_parts (first ∷ letter ∷ text) =
    if first == 120
    then option_map (λ at. record { letter = letter; number = take at text; body = drop (at + 1) text }) (position (λ byte. byte == 95) text)
    else Nothing
code_parts _ = Nothing

abbrev pub is_filled : List ℕ → Bool
is_filled bytes = nat_lt 0 (length bytes)

-- `s`, `p` or `q`, digits, and a body of `0` to `9` and `a` to `z`; both have at least a byte
abbrev pub are_lawful : CodeParts → Bool
are_lawful parts =
    ((parts.letter == 115) || ((parts.letter == 112) || (parts.letter == 113)))
    && ((is_filled parts.number && list_all is_digit parts.number) && (is_filled parts.body && list_all is_base_36_digit parts.body))

-- the letter and the number of what recurs after `period` generations, moved or not
abbrev pub tells : Bool → ℕ → CodeParts → Bool
tells moved period parts =
    if not moved && (period == 1) then parts.letter == 115 else (parts.letter == (if moved then 113 else 112)) && pointwise nat_eq parts.number (decimal period)

-- `xs`, `xp` or `xq`, a number, `_` and a body
abbrev pub is_code : List ℕ → Bool
is_code code = option_map_or are_lawful (code_parts code) false

-- a text with the form of a code has another body than `0`, which that of no cell has
abbrev pub has_cells : List ℕ → Bool
has_cells code = option_map_or (λ parts. not (pointwise nat_eq parts.body (codes "0"))) (code_parts code) false

-- a code of at least one cell
abbrev pub is_object : List ℕ → Bool
is_object code = is_code code && has_cells code

-- a text with the form of a code begins as that of what moves
abbrev pub is_moving : List ℕ → Bool
is_moving code = option_map_or (λ parts. parts.letter == 113) (code_parts code) false

-- `xs` for what stays as it is, `xp` and the period for what recurs in place, `xq` and the period for what moves
abbrev pub is_code_after : Bool → ℕ → List ℕ → Bool
is_code_after moved period code = nat_lt 0 period && option_map_or (λ parts. are_lawful parts && tells moved period parts) (code_parts code) false
