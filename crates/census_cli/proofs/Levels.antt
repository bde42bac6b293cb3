-- What one level of a parse leaves where it doesn't fail.
use Rattle.std.proofs.Common.{◌≡◌, ◌⊎◌, ◌||◌, ◌&&◌, ◌++◌, List, [], ◌∷◌, Bool, true, false, not, Some, inl, inr, refl, sym, subst, true≢false}
use Rattle.std.specs.Prelude.{if◌then◌else◌, fold}
use Rattle.std.specs.List.{find, list_any}
use Rattle.std.specs.Option.{option_map_or}
use Rattle.std.specs.Str.{bytes_eq}
use Rattle.std.proofs.lemmas.Slice.Eq.{bytes_eq-Decides}
use Rattle.clap.specs.Facts.{explicit_source}
use Rattle.clap.specs.Faults.{check_fault, defaults_fault, level_fault, settle_fault, walk_fault}
use Rattle.clap.specs.Kinds.{Kinds}
use Rattle.clap.specs.Simple.{Shape}
use Rattle.clap.specs.Takes.{is_given}
use Rattle.clap.specs.Walk.{Names, Row, Rule, Text, default_rows, has_row, more_values, nothing_held, reading_by, rows_after, settled, stop_after, walk, walk_from, with_default, with_values}
use Rattle.clap.specs.declared.builder.value_parser.Reading.{Reading}
use Rattle.clap.specs.declared.error.kind.ErrorKind.TheVariants.{DisplayHelpOnMissingArgumentOrSubcommand, MissingSubcommand, MissingRequiredArgument}
use Rattle.clap.specs.declared.parser.matches.ValueSource.{ValueSource}
use Rattle.clap.specs.declared.parser.matches.ValueSource.TheVariants.{DefaultValue}
use Rattle.census_cli.proofs.Passing.{Each, neither_fails, test_is_false}
use Rattle.census_cli.proofs.Rows.{HasFirst, Hold}
use Rattle.census_cli.proofs.Uses.{RuleHolds, defaults-Hold, settled-Hold}
use Rattle.census_cli.proofs.Walks.{StopHolds, walk-Hold}

-- ---- which ids have rows

with_values-kept : (id key : Text) (how : Reading) (source : ValueSource) (values : List Text) (rows : List Row) → has_row id rows ≡ true
    → has_row id (with_values key how source values rows) ≡ true
with_values-kept id key how source values [] e = absurd (true≢false (sym e))
with_values-kept id key how source values (r ∷ rs) e = go (bytes_eq r.id key) e (with_values-kept id key how source values rs)
  where
    rest : List Row
    rest = with_values key how source values rs

    later : (b : Bool) → (b || has_row id rs) ≡ true → (has_row id rs ≡ true → has_row id rest ≡ true) → (b || has_row id rest) ≡ true
    later true e more = refl
    later false e more = more e

    go : (b : Bool) → (bytes_eq r.id id || has_row id rs) ≡ true → (has_row id rs ≡ true → has_row id rest ≡ true)
        → has_row id (if b then more_values source values r ++ rs else r ∷ rest) ≡ true
    go true e more = e
    go false e more = later (bytes_eq r.id id) e more

with_values-there : (key : Text) (how : Reading) (source : ValueSource) (values : List Text) (rows : List Row) → has_row key (with_values key how source values rows) ≡ true
with_values-there key how source values [] =
    let same : bytes_eq key key ≡ true = (bytes_eq-Decides key key).1 refl in
    rw same refl
with_values-there key how source values (r ∷ rs) = go (bytes_eq r.id key) refl (with_values-there key how source values rs)
  where
    rest : List Row
    rest = with_values key how source values rs

    or_later : (b : Bool) → has_row key rest ≡ true → (b || has_row key rest) ≡ true
    or_later true later = refl
    or_later false later = later

    go : (b : Bool) → bytes_eq r.id key ≡ b → has_row key rest ≡ true → has_row key (if b then more_values source values r ++ rs else r ∷ rest) ≡ true
    go true is later = rw is refl
    go false is later = or_later (bytes_eq r.id key) later

default-kept : (id : Text) (rows : List Row) (a : Rule) → has_row id rows ≡ true → has_row id (with_default rows a) ≡ true
default-kept id rows a e = go (has_row a.id rows) a.defaults
  where
    go : (b : Bool) (ds : List Text) → has_row id (if b then rows else default_rows a.id (reading_by a) ds rows) ≡ true
    go true ds = e
    go false [] = e
    go false (d ∷ ds) = with_values-kept id a.id (reading_by a) DefaultValue (d ∷ ds) rows e

default-there : (rows : List Row) (a : Rule) → HasFirst a.defaults → has_row a.id (with_default rows a) ≡ true
default-there rows a some = go (has_row a.id rows) refl
  where
    go : (b : Bool) → has_row a.id rows ≡ b → has_row a.id (if b then rows else default_rows a.id (reading_by a) a.defaults rows) ≡ true
    go true is = is
    go false is =
        let P : List Text → Type 0 = λ ds. has_row a.id (default_rows a.id (reading_by a) ds rows) ≡ true in
        subst P (sym some.is) (with_values-there a.id (reading_by a) DefaultValue (some.first ∷ some.rest) rows)

defaults-kept : (id : Text) (xs : List Rule) (rows : List Row) → has_row id rows ≡ true → has_row id (fold with_default rows xs) ≡ true
defaults-kept id [] rows e = e
defaults-kept id (a ∷ rest) rows e = defaults-kept id rest (with_default rows a) (default-kept id rows a e)

-- an argument of this id has a default
abbrev pub HasDefault : Text → List Rule → Type 0
HasDefault id [] = ⊥
HasDefault id (a ∷ rest) = ((a.id ≡ id) × HasFirst a.defaults) ⊎ HasDefault id rest

pub defaults-there : (id : Text) (xs : List Rule) (rows : List Row) → HasDefault id xs → has_row id (fold with_default rows xs) ≡ true
defaults-there id [] rows h = absurd h
defaults-there id (a ∷ rest) rows (inl h) =
    defaults-kept id rest (with_default rows a) (subst (λ (x : Text). has_row x (with_default rows a) ≡ true) h.0 (default-there rows a h.1))
defaults-there id (a ∷ rest) rows (inr h) = defaults-there id rest (with_default rows a) h

pub given-there : (id : Text) (rows : List Row) → is_given id rows ≡ true → has_row id rows ≡ true
given-there id [] e = absurd (true≢false (sym e))
given-there id (r ∷ rs) e = go (bytes_eq r.id id) e (given-there id rs)
  where
    go : (b : Bool) → option_map_or (λ (x : Row). explicit_source x.source) (if b then Some r else find (λ x. bytes_eq x.id id) rs) false ≡ true
        → (is_given id rs ≡ true → has_row id rs ≡ true) → (b || has_row id rs) ≡ true
    go true e later = refl
    go false e later = later e

-- ---- the checks of a level

-- the command that is wanted is there, and each argument that is required
pub checks_pass : (s : Shape) (rows : List Row) (has : Bool) → check_fault s rows has ≡ []
    → ((not has && s.subcommand_required) ≡ false)
    × ((not (s.subcommand_negates_reqs && has) && list_any (λ a. a.required && not (is_given a.id rows)) s.rules) ≡ false)
checks_pass s rows has e =
    let bare = not has && (s.arg_required_else_help && not (list_any (λ (r : Row). explicit_source r.source) rows)) in
    let first = test_is_false bare DisplayHelpOnMissingArgumentOrSubcommand [] _ e in
    let second = test_is_false (not has && s.subcommand_required) MissingSubcommand [] _ first.1 in
    let third = test_is_false _ MissingRequiredArgument [] [] second.1 in
    (second.0, third.0)

-- ---- a level

pub record LevelHolds (Q : Text → Text → Type 0) (s : Shape) (names : Names) (words : List Text) (has : Bool) (below : Kinds) : Type 0 where
  pub rows : Hold Q (rows_after s.rules names words)
  pub stop : StopHolds s (stop_after s.rules names words)
  pub below_passes : below ≡ []
  pub checks : check_fault s (rows_after s.rules names words) has ≡ []

pub level-Holds : (Q : Text → Text → Type 0) (s : Shape) → Each (RuleHolds Q) s.rules → (names : Names) (words : List Text) (has : Bool) (below : Kinds)
    → level_fault s names nothing_held words has below ≡ [] → LevelHolds Q s names words has below
level-Holds Q s rules names words has below e =
    let end = (walk s.rules names nothing_held words).held in
    let walked = neither_fails (walk_fault s names (walk_from nothing_held) words) _ e in
    let inner = neither_fails below _ walked.1 in
    let settling = neither_fails (settle_fault s.rules s.args_override_self end) _ inner.1 in
    let defaults = neither_fails (defaults_fault (settled s.rules end).rows s.rules) _ settling.1 in
    let walk_holds = walk-Hold Q s rules names words (walk_from nothing_held) walked.0 (record { rows = tt; stop = tt }) in
    let settled_holds = settled-Hold Q s.rules s.args_override_self rules end settling.0 walk_holds.rows in
    record {
      rows = defaults-Hold Q s.rules rules (settled s.rules end).rows defaults.0 settled_holds;
      stop = walk_holds.stop;
      below_passes = inner.0;
      checks = defaults.1;
    }
