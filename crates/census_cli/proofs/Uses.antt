-- What one use of an argument leaves where it doesn't fail.
use Rattle.std.proofs.Common.{◌≡◌, ◌⊎◌, ◌||◌, ℕ, List, [], ◌∷◌, Bool, true, false, Option, Some, None, inl, inr, length, refl, sym, true≢false}
use Rattle.std.specs.Prelude.{if◌then◌else◌, fold, nat_lt}
use Rattle.std.specs.Option.{option_map_or}
use Rattle.clap.specs.Facts.{parser_of_value, unwrap_or_range}
use Rattle.clap.specs.Faults.{action_fault, default_fault, defaults_fault, given_default_fault, react_fault, settle_fault, use_fault, values_fault}
use Rattle.clap.specs.Kinds.{Kinds, range_kinds, request_kinds, value_kinds}
use Rattle.clap.specs.Values.{is_request}
use Rattle.clap.specs.Walk.{Held, Row, Rule, Text, action_of, arg_by_id, default_rows, has_row, is_empty, most_values, reacted, reading_by, settled, settled_rows, used, used_as, used_by_id, values_or_missing, with_default, without}
use Rattle.clap.specs.declared.builder.action.ArgAction.{ArgAction}
use Rattle.clap.specs.declared.builder.action.ArgAction.TheVariants as action
use Rattle.clap.specs.declared.error.kind.ErrorKind.TheVariants.{InvalidValue}
use Rattle.clap.specs.declared.parser.matches.ValueSource.TheVariants.{CommandLine, DefaultValue}
use Rattle.clap.proofs.SimpleLemmas.{is_nil}
use Rattle.census_cli.proofs.Passing.{Each, found_of_each, neither_fails, not_cons}
use Rattle.census_cli.proofs.Rows.{HasFirst, Hold, IsPlain, with_values-Hold, without-Hold}

abbrev least_of : Rule → ℕ
least_of a = (unwrap_or_range a.range).start_inclusive

-- its uses set or append its values, or those that it is given
abbrev pub keeps_values : ArgAction → Bool
keeps_values action.Set = true
keeps_values action.Append = true
keeps_values action.SetTrue = true
keeps_values _ = false

-- each use of the argument has one value or more, or is given one
abbrev pub HasValue : Rule → Type 0
HasValue a = (nat_lt 0 (least_of a) ≡ true) ⊎ HasFirst a.missing

-- each use of the argument asks for help, or has one value or more that it keeps
abbrev pub IsUsual : Rule → Type 0
IsUsual a = (is_request (action_of a) ≡ true) ⊎ ((keeps_values (action_of a) ≡ true) × HasValue a)

-- where a use wants at least one value, and its number of values is in range, there is a first value
has_first : (least most : ℕ) (values : List Text) → nat_lt 0 least ≡ true → range_kinds least most (length values) ≡ [] → HasFirst values
has_first least most [] some e =
    let fails : (if true then InvalidValue ∷ [] else []) ≡ [] = rw some at e in
    not_cons InvalidValue [] fails
has_first least most (v ∷ vs) some e = record { first = v; rest = vs; is = refl }

request_fails : {A : Type 0} (x : ArgAction) (again : Bool) (a : Rule) (values : List Text) (rows : List Row) → is_request x ≡ true → action_fault x again a values rows ≡ [] → A
request_fails action.Set again a values rows e none = absurd (true≢false (sym e))
request_fails action.Append again a values rows e none = absurd (true≢false (sym e))
request_fails action.SetTrue again a values rows e none = absurd (true≢false (sym e))
request_fails action.SetFalse again a values rows e none = absurd (true≢false (sym e))
request_fails action.Count again a values rows e none = absurd (true≢false (sym e))
request_fails action.Help again a values rows e none = not_cons _ _ none
request_fails action.HelpShort again a values rows e none = not_cons _ _ none
request_fails action.HelpLong again a values rows e none = not_cons _ _ none
request_fails action.Version again a values rows e none = not_cons _ _ none

some_value : (a : Rule) (values : List Text) → HasValue a → range_kinds (least_of a) (most_values a) (length values) ≡ [] → HasFirst (values_or_missing a values)
some_value a (v ∷ vs) has e = record { first = v; rest = vs; is = refl }
some_value a [] (inl some) e = let none = has_first (least_of a) (most_values a) [] some e in not_cons none.first none.rest (sym none.is)
some_value a [] (inr missing) e = missing

not_empty : (v : Text) (vs : List Text) → is_empty (v ∷ vs) ≡ false
not_empty v vs = go (is_empty (v ∷ vs)) refl
  where
    go : (b : Bool) → is_empty (v ∷ vs) ≡ b → b ≡ false
    go true e = not_cons v vs (is_nil (v ∷ vs) e)
    go false e = refl

module _ (Q : Text → Text → Type 0) where
  -- an argument of which each value that passes has the property
  pub record RuleHolds (a : Rule) : Type 0 where
    pub own : (v : Text) → value_kinds a.ignore_case (parser_of_value a.parser) v ≡ [] → Q a.id v
    pub usual : IsUsual a
    pub plain : IsPlain (reading_by a)

  values_pass : (a : Rule) → RuleHolds a → (values : List Text) → values_fault a values ≡ [] → Each (Q a.id) values
  values_pass a holds [] e = tt
  values_pass a holds (v ∷ vs) e =
      let none = neither_fails (value_kinds a.ignore_case (parser_of_value a.parser) v) (values_fault a vs) e in
      (holds.own v none.0, values_pass a holds vs none.1)

  kept : (x : ArgAction) (again : Bool) (a : Rule) → RuleHolds a → keeps_values x ≡ true → (values : List Text) (rows : List Row) → HasFirst values
      → action_fault x again a values rows ≡ [] → Hold Q rows → Hold Q (used_as x a.id (reading_by a) values rows)
  kept action.Set again a holds keeps values rows some e h =
      let none = neither_fails _ _ e in
      with_values-Hold Q a.id (reading_by a) CommandLine values (without a.id rows) some (values_pass a holds values none.1) holds.plain (without-Hold Q a.id rows h)
  kept action.Append again a holds keeps values rows some e h =
      with_values-Hold Q a.id (reading_by a) CommandLine values rows some (values_pass a holds values e) holds.plain h
  kept action.SetTrue again a holds keeps values rows some e h =
      let none = neither_fails _ _ e in
      with_values-Hold Q a.id (reading_by a) CommandLine values (without a.id rows) some (values_pass a holds values none.1) holds.plain (without-Hold Q a.id rows h)
  kept action.SetFalse again a holds keeps values rows some e h = absurd (true≢false (sym keeps))
  kept action.Count again a holds keeps values rows some e h = absurd (true≢false (sym keeps))
  kept action.Help again a holds keeps values rows some e h = absurd (true≢false (sym keeps))
  kept action.HelpShort again a holds keeps values rows some e h = absurd (true≢false (sym keeps))
  kept action.HelpLong again a holds keeps values rows some e h = absurd (true≢false (sym keeps))
  kept action.Version again a holds keeps values rows some e h = absurd (true≢false (sym keeps))

  pub used-Hold : (again : Bool) (a : Rule) → RuleHolds a → (values : List Text) (rows : List Row) → use_fault again a values rows ≡ [] → Hold Q rows → Hold Q (used a values rows)
  used-Hold again a holds values rows e h = go holds.usual
    where
      none : (range_kinds (least_of a) (most_values a) (length values) ≡ []) × (action_fault (action_of a) again a (values_or_missing a values) rows ≡ [])
      none = neither_fails _ _ e

      go : IsUsual a → Hold Q (used a values rows)
      go (inl asks) = request_fails (action_of a) again a (values_or_missing a values) rows asks none.1
      go (inr keeps) =
          let some = some_value a values keeps.1 none.0 in
          kept (action_of a) again a holds keeps.0 (values_or_missing a values) rows some none.1 h

  -- ---- what waits for values, and a use of another argument

  module _ (c : List Rule) (again : Bool) (rules : Each RuleHolds c) where
    by_id : (o : Option Rule) (id : Text) (values : List Text) (rows : List Row) → arg_by_id c id ≡ o → option_map_or (λ a. use_fault again a values rows) o [] ≡ []
        → Hold Q rows → Hold Q (used_by_id o values rows)
    by_id None id values rows found e h = h
    by_id (Some a) id values rows found e h = used-Hold again a (found_of_each RuleHolds _ c a rules found).0 values rows e h

    waiting : (p : Option (Text × List Text)) (rows : List Row)
        → option_map_or (λ p. option_map_or (λ a. use_fault again a p.1 rows) (arg_by_id c p.0) []) p [] ≡ [] → Hold Q rows → Hold Q (settled_rows c p rows)
    waiting None rows e h = h
    waiting (Some p) rows e h = by_id (arg_by_id c p.0) p.0 p.1 rows refl e h

    pub settled-Hold : (held : Held) → settle_fault c again held ≡ [] → Hold Q held.rows → Hold Q (settled c held).rows
    settled-Hold held e h = waiting held.pending held.rows e h

    pub reacted-Hold : (a : Rule) → RuleHolds a → (values : List Text) (held : Held) → react_fault c again a values held ≡ [] → Hold Q held.rows
        → Hold Q (reacted c a values held).rows
    reacted-Hold a holds values held e h =
        let none = neither_fails (settle_fault c again held) _ e in
        used-Hold again a holds values (settled c held).rows none.1 (settled-Hold held none.0 h)

  -- ---- defaults

  given : (b : Bool) (kinds : Kinds) → (if b then [] else kinds) ≡ [] → b ≡ false → kinds ≡ []
  given true kinds e off = absurd (true≢false off)
  given false kinds e off = e

  default-Hold : (a : Rule) → RuleHolds a → (rows : List Row) → default_fault rows a ≡ [] → Hold Q rows → Hold Q (with_default rows a)
  default-Hold a holds rows e h = go (has_row a.id rows) a.defaults e
    where
      go : (b : Bool) (ds : List Text) → (if b || is_empty ds then [] else given_default_fault a ds) ≡ [] → Hold Q (if b then rows else default_rows a.id (reading_by a) ds rows)
      go true ds e = h
      go false [] e = h
      go false (v ∷ vs) e =
          let none = neither_fails (request_kinds (action_of a)) (values_fault a (v ∷ vs)) (given (is_empty (v ∷ vs)) _ e (not_empty v vs)) in
          with_values-Hold Q a.id (reading_by a) DefaultValue (v ∷ vs) rows (record { first = v; rest = vs; is = refl }) (values_pass a holds (v ∷ vs) none.1) holds.plain h

  pub defaults-Hold : (xs : List Rule) → Each RuleHolds xs → (rows : List Row) → defaults_fault rows xs ≡ [] → Hold Q rows → Hold Q (fold with_default rows xs)
  unfolding defaults_fault
  defaults-Hold [] rules rows e h = h
  defaults-Hold (a ∷ rest) rules rows e h =
      let none = neither_fails (default_fault rows a) _ e in
      defaults-Hold rest rules.1 (with_default rows a) none.1 (default-Hold a rules.0 rows none.0 h)
