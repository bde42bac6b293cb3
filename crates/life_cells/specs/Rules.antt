-- Rule texts, and the printed rule.
use Rattle.std.specs.Prelude.{ℕ, ◌+◌, ◌-◌, ◌^◌, Bool, ◌&&◌, List, ◌++◌, Option, Some, None, Result, Ok, Err, codes, fold, filter, map, nat_le, bit_or, ◌==◌, if◌then◌else◌}
use Rattle.std.specs.List.{list_all, take_while, range_with_len}
use Rattle.std.specs.Option.{option_map, option_or}
use Rattle.std.specs.Int.{bit_at}
use Rattle.life_cells.specs.declared.rule.RuleFault.{RuleFault}
use Rattle.life_cells.specs.declared.rule.RuleFault.TheVariants.{NotLifeLike, HasB0}
use Rattle.life_model.specs.Rule.{Rule}
use Rattle.texts.specs.Bytes.{is_in, without_front, after_one_of, ◌>>=◌}

-- Conway's Life, B3/S23
abbrev pub life : Rule
life = record { birth = 8; survival = 12 }

-- `0` to `8`
abbrev pub is_count : ℕ → Bool
is_count c = nat_le 48 c && nat_le c 56

-- the set of the numbers whose digits these are, in any order and with repeats
abbrev pub members : List ℕ → ℕ
members digits = fold (λ set c. bit_or set (2 ^ (c - 48))) 0 digits

-- the digits at the start, and what follows them
abbrev pub digits_of : List ℕ → List ℕ
digits_of text = take_while is_count text

abbrev pub after_digits : List ℕ → List ℕ
after_digits text = without_front is_count text

-- the digits at the start and a second run of digits, if there is one and it has only digits
abbrev pub runs_with : List ℕ → Option (List ℕ) → Option (List ℕ × List ℕ)
runs_with text None = None
runs_with text (Some second) = if list_all is_count second then Some (digits_of text, second) else None

-- the runs of digits on both sides of `/`, without a letter
abbrev pub digits_by_slash : List ℕ → Option (List ℕ × List ℕ)
digits_by_slash text = runs_with text (after_one_of (codes "/") (after_digits text))

-- the text after one of these letters, with or without `/` before it
abbrev pub after_slash_and : List ℕ → List ℕ → Option (List ℕ)
after_slash_and letters text = option_or (after_one_of (codes "/") text >>= after_one_of letters) (after_one_of letters text)

-- the runs of digits after a first letter and, with or without `/` before it, after a second letter
abbrev pub digits_by_letters : List ℕ → List ℕ → List ℕ → Option (List ℕ × List ℕ)
digits_by_letters first second text = do
  rest ← after_one_of first text
  runs_with rest (after_slash_and second (after_digits rest))

abbrev pub reversed_pair : List ℕ × List ℕ → List ℕ × List ℕ
reversed_pair (one, other) = (other, one)

-- the birth digits and the survival digits, if the text has one of the three forms
abbrev pub digits_by_form : List ℕ → Option (List ℕ × List ℕ)
digits_by_form text =
    option_or (digits_by_letters (codes "Bb") (codes "Ss") text)
    (option_map reversed_pair (option_or (digits_by_letters (codes "Ss") (codes "Bb") text) (digits_by_slash text)))

-- the rule of these birth and survival digits
abbrev pub rule_of_digits : Option (List ℕ × List ℕ) → Result Rule RuleFault
rule_of_digits None = Err NotLifeLike
rule_of_digits (Some (birth, survival)) = if is_in birth 48 then Err HasB0 else Ok (record { birth = members birth; survival = members survival })

-- the meaning of a rule text
abbrev pub rule_of : List ℕ → Result Rule RuleFault
rule_of text = rule_of_digits (digits_by_form text)

-- the digits of a set, in ascending order
abbrev pub set_text : ℕ → List ℕ
set_text set = map (λ n. 48 + n) (filter (λ n. bit_at set n == 1) (range_with_len 0 9))

-- the printed rule
abbrev pub rule_text : Rule → List ℕ
rule_text r = codes "B" ++ set_text r.birth ++ codes "/S" ++ set_text r.survival
