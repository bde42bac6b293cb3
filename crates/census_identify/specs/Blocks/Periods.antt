-- The common period of several parts, by their codes.
use Rattle.std.specs.Prelude.{ℕ, ◌+◌, ◌-◌, ◌*◌, ◌%◌, ◌==◌, max, min, Bool, ◌&&◌, ◌||◌, not, if◌then◌else◌, Option, None, List, [], ◌∷◌, codes, drop, length, nat_eq}
use Rattle.std.specs.Char.{is_ascii_digit}
use Rattle.std.specs.List.{list_all, starts_with}
use Rattle.life_answer.specs.Recurrence.{first_from}
use Rattle.life_answer.specs.declared.part.Part.{Part}

-- the number that the digits at the front form after those of n, at most 100,001, which is more than each bound
abbrev pub number_after : ℕ → List ℕ → ℕ
number_after n [] = n
number_after n (c ∷ rest) = if is_ascii_digit c then number_after (min (n * 10 + (c - 48)) 100001) rest else n

-- the period of an object with this code: 1 for `xs`, and else the number after `xp` or `xq`
abbrev pub period_of : List ℕ → ℕ
period_of code = if starts_with nat_eq code (codes "xs") then 1 else max 1 (number_after 0 (drop 2 code))

-- true where a part moves, by its code
abbrev pub moves : Part → Bool
moves part = starts_with nat_eq part.code (codes "xq")

-- true where there are parts, and all of them move or none does
abbrev pub are_alike : List Part → Bool
are_alike parts = not (nat_eq (length parts) 0) && (list_all moves parts || list_all (λ p. not (moves p)) parts)

-- true where each part has recurred after n generations
abbrev pub are_back : List Part → ℕ → Bool
are_back parts n = list_all (λ p. n % period_of p.code == 0) parts

-- the least number of generations up to the bound after which all parts have recurred, where all of them move or none does
abbrev pub common_period : ℕ → List Part → Option ℕ
common_period bound parts = if are_alike parts then first_from (are_back parts) 1 bound else None
