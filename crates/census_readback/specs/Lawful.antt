-- What a row of a lawful report says by itself.
use Rattle.std.specs.Prelude.{ℕ, ℤ, pos, ◌+◌, Bool, true, not, ◌&&◌, nat_le, nat_lt, unsigned_abs, Option, Some, None as Nothing, List}
use Rattle.std.specs.Option.{option_map_or}
use Rattle.census_bundle.specs.Names.{is_name}
use Rattle.census_rows.specs.Kinds.{said, value_at}
use Rattle.census_rows.specs.declared.kinds.Field.{Field}
use Rattle.census_rows.specs.declared.kinds.Label.TheVariants as label
use Rattle.census_rows.specs.declared.kinds.Value.{Value}
use Rattle.census_rows.specs.declared.kinds.Value.TheVariants.{Number, Signed, Text}
use Rattle.census_rows.specs.declared.row.Row.{Row}
use Rattle.census_rows.specs.declared.row.Row.TheVariants.{Open, Line, Part, Engine, Emits, Code}
use Rattle.census_readback.specs.Codes.{is_code, is_code_after, is_object}
use Rattle.census_readback.specs.Limits.{bound_limit, cell_limit, fault_limit, period_limit}
use Rattle.census_readback.specs.Rules.{is_rule}
use Rattle.life_model.specs.Cell.{origin, same_cell}

-- the text of a value, if it is one
abbrev pub text_in : Option Value → Option (List ℕ)
text_in (Some (Text bytes)) = Some bytes.now
text_in _ = Nothing

-- the number of a value; 0 if it is none
abbrev pub number_in : Option Value → ℕ
number_in (Some (Number n)) = n
number_in _ = 0

abbrev pub signed_in : Option Value → ℤ
signed_in (Some (Signed z)) = z
signed_in _ = pos 0

-- the rule among the fields, if there is one, is a rule as it is printed
abbrev pub has_lawful_rule : List Field → Bool
has_lawful_rule fields = option_map_or is_rule (text_in (value_at label.Rule fields)) true

-- no further than a cell in each of so many generations
abbrev pub moves_within : ℕ → ℤ → ℤ → Bool
moves_within period dx dy = nat_le (unsigned_abs dx) period && nat_le (unsigned_abs dy) period

-- what recurs after `period` generations, moved so, can have this code
abbrev pub is_recurrence : ℕ → ℤ → ℤ → List ℕ → Bool
is_recurrence period dx dy code = is_code_after (not (same_cell (dx, dy) origin)) period code && moves_within period dx dy

-- the code among the fields, if there is one, is one of what recurs and moves so
abbrev pub has_lawful_code : List Field → Bool
has_lawful_code fields =
    option_map_or (is_recurrence (number_in (value_at label.Period fields)) (signed_in (value_at label.Dx fields)) (signed_in (value_at label.Dy fields)))
    (text_in (value_at label.Code fields)) true

-- the number of engines among the fields, if there is one, is at least 1
abbrev pub has_lawful_engines : List Field → Bool
has_lawful_engines fields = option_map_or (λ value. nat_lt 0 (number_in (Some value))) (value_at label.Engines fields) true

-- the fault among the fields, if there is one, is one that a text can have
abbrev pub has_lawful_fault : List Field → Bool
has_lawful_fault fields = nat_le (number_in (value_at label.Fault fields)) fault_limit

-- there are no more cells than a pattern may have, and what recurs, has fallen apart or is too large has shown it by the greatest bound
abbrev pub has_lawful_numbers : List Field → Bool
has_lawful_numbers fields =
    nat_le (number_in (value_at label.Population fields)) cell_limit
    && (nat_le (number_in (value_at label.Onset fields) + number_in (value_at label.Period fields)) bound_limit
    && nat_le (number_in (value_at label.Generation fields)) bound_limit)

-- after how many generations an engine recurs, and how far it moves in them: at most a cell in each
abbrev pub is_way : ℕ → ℤ → ℤ → Bool
is_way period dx dy =
    nat_lt 0 period && (nat_le period period_limit && moves_within period dx dy)

-- Its name is lawful, its rule is one as it is printed, its code is one, its fault is one of a text, its numbers are in range, and it
-- counts something if it counts objects or engines. What recurs, and each engine, moves by at most a cell in a generation, and what
-- is left of a pattern or emitted has cells.
abbrev pub is_lawful : Row → Bool
is_lawful (Open collection patterns name) = is_name name.now
is_lawful (Line collection pattern outcome name) =
    let fields = (said outcome).fields in
    has_lawful_rule fields && (has_lawful_code fields && (has_lawful_engines fields && (has_lawful_fault fields && (has_lawful_numbers fields && is_name name.now))))
is_lawful (Part collection pattern code count) = is_object code.now && nat_lt 0 count
is_lawful (Engine collection pattern number period dx dy count) = is_way period dx dy && nat_lt 0 count
is_lawful (Emits collection pattern engine code count) = nat_lt 0 engine && (is_object code.now && nat_lt 0 count)
is_lawful (Code collection rule code count) = is_rule rule.now && (is_code code.now && nat_lt 0 count)
is_lawful _ = true
