-- The code and the rule of what is reported at a place are those of its rows.
use Rattle.std.proofs.Common.{◌≡◌, ℕ, ◌+◌, Option, Some, None, List, [], get_or, refl, sym, ap₂, ◌∙◌, subst}
use Rattle.std.specs.Borrow.{Bor}
use Rattle.std.specs.Option.{option_map, unwrap_or}
use Rattle.census_rows.specs.declared.kinds.Label.TheVariants as label
use Rattle.census_rows.specs.declared.row.Row.{Row}
use Rattle.census_rows.specs.declared.row.Row.TheVariants.{Open, Line, Part, Engine, Emits, Code, Close, End}
use Rattle.census_rows.specs.Kinds.{said, value_at}
use Rattle.census_table.specs.Entries.{entry_of_row}
use Rattle.census_table.specs.Kinds.{kind_cmp}
use Rattle.census_table.specs.Objects.{object_of_row, object_with, text_in}
use Rattle.census_table.specs.Places.{code_in, key_at, object_at, row_in, rule_in, with_key}
use Rattle.census_table.specs.declared.entry.Entry.{Entry}
use Rattle.census_table.specs.declared.object.Object.{Object}
use Rattle.census_table.specs.declared.place.Place.{Place}

-- two objects with the same code under the same rule
pub record IsKeyed (o key : Object) : Type 0 where
  pub rule : o.rule ≡ key.rule
  pub code : o.code ≡ key.code

itself : (o : Object) → IsKeyed o o
itself o = record { rule = refl; code = refl }

-- the object of a pattern, where the pattern has this rule
of-entry : (entry : Entry) (count : ℕ) (rule code : Option (Bor (List ℕ))) (d : Object) → text_in (value_at label.Rule (said entry.outcome).fields) ≡ rule
    → IsKeyed (unwrap_or (object_with (Some entry) count code) (with_key d rule code)) (with_key d rule code)
of-entry entry count rule None d same = itself (with_key d rule None)
of-entry entry count rule (Some code) d same =
    subst (λ own. IsKeyed (unwrap_or (option_map (λ (r : Bor (List ℕ)). record { first = entry; rule = r; code = code; count = count; patterns = 1; share = 0 }) own) (with_key d rule (Some code))) (with_key d rule (Some code))) (sym same) (under rule)
  where
    under : (rule : Option (Bor (List ℕ))) → IsKeyed (unwrap_or (option_map (λ (r : Bor (List ℕ)). record { first = entry; rule = r; code = code; count = count; patterns = 1; share = 0 }) rule) (with_key d rule (Some code))) (with_key d rule (Some code))
    under None = itself (with_key d None (Some code))
    under (Some r) = record { rule = refl; code = refl }

of-row : (number : ℕ) (heading line : Row) (count : ℕ) (code : Option (Bor (List ℕ))) (d : Object)
    → IsKeyed (unwrap_or (object_with (entry_of_row number heading line) count code) (with_key d (rule_in line) code)) (with_key d (rule_in line) code)
of-row number (Open c k title) (Line e i outcome name) count code d =
    of-entry (record { collection = number; collection_name = title; pattern = i; name = name; outcome = outcome; way = None }) count (text_in (value_at label.Rule (said outcome).fields)) code d refl
of-row number (Line c j found title) (Line e i outcome name) count code d = itself (with_key d (rule_in (Line e i outcome name)) code)
of-row number (Part c j kind k) (Line e i outcome name) count code d = itself (with_key d (rule_in (Line e i outcome name)) code)
of-row number (Engine c j x p dx dy k) (Line e i outcome name) count code d = itself (with_key d (rule_in (Line e i outcome name)) code)
of-row number (Emits c j x kind k) (Line e i outcome name) count code d = itself (with_key d (rule_in (Line e i outcome name)) code)
of-row number (Code c rule kind k) (Line e i outcome name) count code d = itself (with_key d (rule_in (Line e i outcome name)) code)
of-row number (Close c k a b f) (Line e i outcome name) count code d = itself (with_key d (rule_in (Line e i outcome name)) code)
of-row number (End k j) (Line e i outcome name) count code d = itself (with_key d (rule_in (Line e i outcome name)) code)
of-row number heading (Open c k title) count code d = itself (with_key d None code)
of-row number heading (Part c j kind k) count code d = itself (with_key d None code)
of-row number heading (Engine c j x p dx dy k) count code d = itself (with_key d None code)
of-row number heading (Emits c j x kind k) count code d = itself (with_key d None code)
of-row number heading (Code c rule kind k) count code d = itself (with_key d None code)
of-row number heading (Close c k a b f) count code d = itself (with_key d None code)
of-row number heading (End k j) count code d = itself (with_key d None code)

of-rows : (number : ℕ) (heading line row : Row) (d : Object)
    → IsKeyed (unwrap_or (object_of_row (entry_of_row number heading line) row) (with_key d (rule_in line) (code_in row))) (with_key d (rule_in line) (code_in row))
of-rows number heading line (Line e i outcome name) d = of-row number heading line 1 (text_in (value_at label.Code (said outcome).fields)) d
of-rows number heading line (Part c i code count) d = of-row number heading line count (Some code) d
of-rows number heading line (Open c k title) d = itself (with_key d (rule_in line) None)
of-rows number heading line (Engine c j x p dx dy k) d = itself (with_key d (rule_in line) None)
of-rows number heading line (Emits c j x kind k) d = itself (with_key d (rule_in line) None)
of-rows number heading line (Code c rule kind k) d = itself (with_key d (rule_in line) None)
of-rows number heading line (Close c k a b f) d = itself (with_key d (rule_in line) None)
of-rows number heading line (End k j) d = itself (with_key d (rule_in line) None)

pub keyed : (nothing : Object) (sections : List (List Row)) (place : Place) → IsKeyed (object_at nothing sections place) (key_at nothing sections place)
keyed nothing sections place =
    let rows = get_or sections place.collection [] in
    of-rows (place.collection + 1) (row_in rows 0) (row_in rows place.under) (row_in rows place.row) nothing

alike : (o p key other : Object) → IsKeyed o key → IsKeyed p other → kind_cmp key other ≡ kind_cmp o p
alike o p key other a b =
    ap₂ (λ (code : Bor (List ℕ)) (rule : Bor (List ℕ)). kind_cmp (record o { rule = rule; code = code }) other) (sym a.code) (sym a.rule)
    ∙ ap₂ (λ (code : Bor (List ℕ)) (rule : Bor (List ℕ)). kind_cmp o (record p { rule = rule; code = code })) (sym b.code) (sym b.rule)

pub same-order : (nothing : Object) (sections : List (List Row)) (one other : Place)
    → kind_cmp (key_at nothing sections one) (key_at nothing sections other) ≡ kind_cmp (object_at nothing sections one) (object_at nothing sections other)
same-order nothing sections one other =
    alike (object_at nothing sections one) (object_at nothing sections other) (key_at nothing sections one) (key_at nothing sections other) (keyed nothing sections one) (keyed nothing sections other)
