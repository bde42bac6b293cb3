-- Writing Wechsler texts: LifeWiki's extended Wechsler format, with this project's rule for more than 39 zeros in a
-- row.
use Rattle.std.specs.Prelude.{ℕ, zero, suc, ◌+◌, ◌*◌, ◌/◌, ◌%◌, ◌^◌, List, [], ◌∷◌, ◌++◌, codes, map, pos, nat_lt, if◌then◌else◌}
use Rattle.std.specs.List.{range_with_len, join_with_byte, sum_by}
use Rattle.life_model.specs.Box.{width, height}
use Rattle.life_model.specs.Generation.{Generation, contains}
use Rattle.life_model.specs.Symmetry.{normal}

-- `0` to `9` and then `a` to `z`, for 0 to 35
abbrev pub digit : ℕ → ℕ
digit n = if nat_lt n 10 then 48 + n else 87 + n

-- Column x of strip k as a number: a strip is five rows, and its cells weigh 1, 2, 4, 8, 16 from the top.
abbrev pub column_value : Generation → ℕ → ℕ → ℕ
column_value G k x = sum_by (λ j. if contains G (pos x, pos (5 * k + j)) then 2 ^ j else 0) (range_with_len 0 5)

-- a run of up to 39 zeros
abbrev pub short_zeros : ℕ → List ℕ
short_zeros zero = []
short_zeros (suc zero) = codes "0"
short_zeros (suc (suc zero)) = codes "w"
short_zeros (suc (suc (suc zero))) = codes "x"
short_zeros (suc (suc (suc (suc n)))) = 121 ∷ digit n ∷ []

-- n times `yz`
abbrev pub full_runs : ℕ → List ℕ
full_runs zero = []
full_runs (suc n) = 121 ∷ 122 ∷ full_runs n

-- a run of zeros that is not at the end of a strip: `yz` as often as 39 fits, then the rest
abbrev pub zeros : ℕ → List ℕ
zeros n = full_runs (n / 39) ++ short_zeros (n % 39)

-- columns after a run of `skipped` zeros; zeros at the end are dropped
abbrev pub columns_text : ℕ → List ℕ → List ℕ
columns_text skipped [] = []
columns_text skipped (zero ∷ values) = columns_text (skipped + 1) values
columns_text skipped (suc v ∷ values) = zeros skipped ++ digit (suc v) ∷ columns_text 0 values

-- strip k of a normal form that is `wide` columns wide
abbrev pub strip_text : Generation → ℕ → ℕ → List ℕ
strip_text G wide k = columns_text 0 (map (column_value G k) (range_with_len 0 wide))

-- the first n strips from the top, with a `z` between each two, and `0` if there are none
abbrev pub strips_text : (ℕ → List ℕ) → ℕ → List ℕ
strips_text text zero = codes "0"
strips_text text (suc n) = join_with_byte 122 (map text (range_with_len 0 (suc n)))

-- the Wechsler text of a set
unfoldable pub body : Generation → List ℕ
body G = strips_text (strip_text (normal G) (width G)) ((height G + 4) / 5)
