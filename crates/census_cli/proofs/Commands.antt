-- Where clap refuses nothing, the words name a command of `census`, and its matches have what it needs.
use Rattle.std.proofs.Common.{◌≡◌, ◌∙◌, ◌⊎◌, ◌||◌, ◌&&◌, ℕ, List, [], ◌∷◌, Bool, true, false, not, Option, Some, None, inl, inr, is_some, codes, drop, refl, sym, ap, subst, true≢false}
use Rattle.std.specs.Prelude.{◌≢◌, IsSomeAnd, if◌then◌else◌, option_map}
use Rattle.std.specs.List.{find, list_any}
use Rattle.std.specs.Option.{option_map_or}
use Rattle.std.specs.Str.{bytes_eq}
use Rattle.std.proofs.lemmas.Slice.Eq.{bytes_eq-Decides}
use Rattle.std.proofs.lemmas.Bool.{not-false, or_parts}
use Rattle.clap.specs.Faults.{check_fault, entered_fault, level_fault}
use Rattle.clap.specs.Kinds.{value_kinds}
use Rattle.clap.specs.Simple.{App, Shape, built, built_leaf, entered, inherited, label_of, marked_built, names_of, rows_at, subcommand_of, with_leaf_noted}
use Rattle.clap.specs.Takes.{is_given}
use Rattle.clap.specs.Values.{Accepts, IsUnsignedIn, bool_text, refused_kind}
use Rattle.clap.specs.ValueTests.{accepts}
use Rattle.clap.specs.Walk.{Row, Rule, Text, answers_to, nothing_held, one_of, rows_after, stop_after}
use Rattle.clap.specs.declared.builder.value_parser.ValueParser.{ValueParser}
use Rattle.clap.specs.declared.builder.value_parser.ValueParser.TheVariants as parser
use Rattle.clap.proofs.ValueTestLemmas.{accepts-Accepts}
use Rattle.life_answer.specs.Questions.{IsAnswered}
use Rattle.life_answer.specs.declared.question.Question.{Question}
use Rattle.life_answer.specs.declared.question.Question.TheVariants.{Objects, Settles}
use Rattle.census_cli.specs.Asking.{Gives, GivesQuestion, IsMatched, Uses}
use Rattle.census_cli.specs.declared.request.Request.{Request}
use Rattle.census_cli.specs.declared.request.Request.TheVariants.{Census, Identify, Advance, Draw, Merge, Table, Page, Same, Starts, Verify}
use Rattle.census_cli.specs.Holding.{HasAdvance, HasDraw, HasFlag, HasCells, HasIdentify, HasLimit, HasNoProgress, HasNumberIn, HasObjects, HasPage, HasReports, HasRun, HasSame, HasTable, HasText, HasVerify, IsCommand, IsLawful, AskedAreLawful}
use Rattle.census_cli.specs.CommandLine.{census_app, command_named}
use Rattle.census_cli.proofs.Getters.{limit_within, none_used, number_is, number_within}
use Rattle.census_cli.proofs.Passing.{Each, found_of_each, not_cons}
use Rattle.census_cli.proofs.Rows.{HasFirst, Reads, reads_of, reads_or_none, row_of_id}
use Rattle.census_cli.proofs.Uses.{RuleHolds}
use Rattle.census_cli.proofs.Walks.{StopHolds, is_help}
use Rattle.census_cli.proofs.Levels.{HasDefault, LevelHolds, checks_pass, defaults-there, given-there, level-Holds}
use Rattle.census_cli.specs.Limits.{generation_limit, horizon_limit, objects_bound_limit, settles_bound_limit, worker_limit}

accepted : (ignore_case : Bool) (p : ValueParser) (v : Text) → value_kinds ignore_case p v ≡ [] → Accepts ignore_case p v
accepted ignore_case p v e = go (accepts ignore_case p v) refl e
  where
    go : (b : Bool) → accepts ignore_case p v ≡ b → (if b then [] else refused_kind p ∷ []) ≡ [] → Accepts ignore_case p v
    go true is e = accepts-Accepts ignore_case p v is
    go false is e = not_cons _ _ e

unsigned_in : (low high : ℕ) (v : Text) → value_kinds false (parser.Unsigned low high) v ≡ [] → IsUnsignedIn low high v
unsigned_in low high v e = accepted false (parser.Unsigned low high) v e

-- the text of a flag
abbrev IsFlagText : Text → Type 0
IsFlagText v = (used : Bool) × (v ≡ bool_text used)

flag_text : (v : Text) → value_kinds false parser.Bool v ≡ [] → IsFlagText v
flag_text v e = go (bytes_eq v (codes "true")) refl (accepted false parser.Bool v e)
  where
    go : (b : Bool) → bytes_eq v (codes "true") ≡ b → (b || bytes_eq v (codes "false")) ≡ true → IsFlagText v
    go true is e = (true, (bytes_eq-Decides v (codes "true")).0 is)
    go false is e = (false, (bytes_eq-Decides v (codes "false")).0 e)

-- ---- what values have that pass

abbrev AnyText : Text → Text → Type 0
AnyText id v = Unit {0}

-- those of a command with no other flag or number
abbrev ExplainText : Text → Text → Type 0
ExplainText id v = bytes_eq id (codes "explain") ≡ true → IsFlagText v

-- those of `run` and of `objects`, whose bound is up to a number
abbrev CensusText : ℕ → Text → Text → Type 0
CensusText most id v =
    (bytes_eq id (codes "bound") ≡ true → IsUnsignedIn 1 most v)
    × (bytes_eq id (codes "workers") ≡ true → IsUnsignedIn 1 16 v)
    × (bytes_eq id (codes "cells") ≡ true → IsUnsignedIn 1 4294967295 v)
    × (bytes_eq id (codes "recursive") ≡ true → IsFlagText v)
    × (bytes_eq id (codes "keep-going") ≡ true → IsFlagText v)
    × ExplainText id v
    × (bytes_eq id (codes "no-progress") ≡ true → IsFlagText v)
    × (bytes_eq id (codes "input") ≡ true → IsUnsignedIn 1 9223372036854775807 v)
    × (bytes_eq id (codes "near") ≡ true → IsFlagText v)
    × (bytes_eq id (codes "horizon") ≡ true → IsUnsignedIn 1 horizon_limit v)

abbrev RunText : Text → Text → Type 0
RunText = CensusText settles_bound_limit

abbrev ObjectsText : Text → Text → Type 0
ObjectsText = CensusText objects_bound_limit

abbrev IdentifyText : Text → Text → Type 0
IdentifyText id v =
    (bytes_eq id (codes "bound") ≡ true → IsUnsignedIn 1 objects_bound_limit v)
    × (bytes_eq id (codes "cells") ≡ true → IsUnsignedIn 1 4294967295 v)
    × (bytes_eq id (codes "near") ≡ true → IsFlagText v)
    × (bytes_eq id (codes "horizon") ≡ true → IsUnsignedIn 1 horizon_limit v)
    × (bytes_eq id (codes "json") ≡ true → IsFlagText v)
    × ExplainText id v

abbrev AdvanceText : Text → Text → Type 0
AdvanceText id v =
    (bytes_eq id (codes "generations") ≡ true → IsUnsignedIn 0 generation_limit v)
    × (bytes_eq id (codes "cells") ≡ true → IsUnsignedIn 1 4294967295 v)
    × ExplainText id v

-- the flags of the commands that read reports
abbrev is_flag : Text → Bool
is_flag id =
    list_any (λ name. bytes_eq id name)
    (codes "csv" ∷ codes "json" ∷ codes "safe" ∷ codes "parts" ∷ codes "codes" ∷ codes "engines" ∷ codes "unnamed" ∷ codes "links" ∷ codes "no-patterns" ∷ codes "cut" ∷ codes "explain" ∷ codes "starts" ∷ codes "recursive" ∷ [])

-- those of a command that reads reports
abbrev ReportsText : Text → Text → Type 0
ReportsText id v =
    (is_flag id ≡ true → IsFlagText v)
    × (bytes_eq id (codes "input") ≡ true → IsUnsignedIn 1 9223372036854775807 v)
    × (bytes_eq id (codes "top") ≡ true → IsUnsignedIn 1 4294967295 v)

absent : {A : Type 0} → false ≡ true → A
absent e = absurd (true≢false (sym e))

-- ---- the commands as they are built

abbrev whole : App
whole = built census_app

abbrev above : Shape
above = with_leaf_noted (marked_built census_app.top)

abbrev built_run : Shape
built_run = built_leaf (inherited above (command_named "run"))

abbrev built_objects : Shape
built_objects = built_leaf (inherited above (command_named "objects"))

abbrev built_identify : Shape
built_identify = built_leaf (inherited above (command_named "identify"))

abbrev built_advance : Shape
built_advance = built_leaf (inherited above (command_named "advance"))

abbrev built_draw : Shape
built_draw = built_leaf (inherited above (command_named "draw"))

abbrev built_merge : Shape
built_merge = built_leaf (inherited above (command_named "merge"))

abbrev built_page : Shape
built_page = built_leaf (inherited above (command_named "page"))

abbrev built_table : Shape
built_table = built_leaf (inherited above (command_named "table"))

abbrev built_same : Shape
built_same = built_leaf (inherited above (command_named "same"))

abbrev built_verify : Shape
built_verify = built_leaf (inherited above (command_named "verify"))

top_rules : Each (RuleHolds AnyText) whole.top.rules
top_rules = (
  record { own = λ v e. tt; usual = inl refl; plain = λ t. refl },
  (record { own = λ v e. tt; usual = inl refl; plain = λ t. refl }, tt),
)

-- what a flag is given where it is used
true_given : HasFirst (codes "true" ∷ [])
true_given = record { first = codes "true"; rest = []; is = refl }

-- the limit on the input, the flags, the folders and the help of `run` and of `objects`
later_rules : (most : ℕ) → Each (RuleHolds (CensusText most)) (drop 3 built_run.rules)
later_rules most = (
  record { own = λ v e. (absent, absent, absent, absent, absent, absent, absent, λ _. unsigned_in 1 9223372036854775807 v e, absent, absent); usual = inr (refl, inl refl); plain = λ t. refl },
  (
    record { own = λ v e. (absent, absent, absent, λ _. flag_text v e, absent, absent, absent, absent, absent, absent); usual = inr (refl, inr true_given); plain = λ t. refl },
    (
      record { own = λ v e. (absent, absent, absent, absent, λ _. flag_text v e, absent, absent, absent, absent, absent); usual = inr (refl, inr true_given); plain = λ t. refl },
      (
        record { own = λ v e. (absent, absent, absent, absent, absent, λ _. flag_text v e, absent, absent, absent, absent); usual = inr (refl, inr true_given); plain = λ t. refl },
        (
          record { own = λ v e. (absent, absent, absent, absent, absent, absent, λ _. flag_text v e, absent, absent, absent); usual = inr (refl, inr true_given); plain = λ t. refl },
          (
            record { own = λ v e. (absent, absent, absent, absent, absent, absent, absent, absent, absent, absent); usual = inr (refl, inl refl); plain = λ t. refl },
            (record { own = λ v e. (absent, absent, absent, absent, absent, absent, absent, absent, absent, absent); usual = inl refl; plain = λ t. refl }, tt),
          ),
        ),
      ),
    ),
  ),
)

run_rules : Each (RuleHolds RunText) built_run.rules
run_rules = (
  record { own = λ v e. (λ _. unsigned_in 1 settles_bound_limit v e, absent, absent, absent, absent, absent, absent, absent, absent, absent); usual = inr (refl, inl refl); plain = λ t. refl },
  (
    record { own = λ v e. (absent, λ _. unsigned_in 1 16 v e, absent, absent, absent, absent, absent, absent, absent, absent); usual = inr (refl, inl refl); plain = λ t. refl },
    (
      record { own = λ v e. (absent, absent, λ _. unsigned_in 1 4294967295 v e, absent, absent, absent, absent, absent, absent, absent); usual = inr (refl, inl refl); plain = λ t. refl },
      later_rules settles_bound_limit,
    ),
  ),
)

objects_rules : Each (RuleHolds ObjectsText) built_objects.rules
objects_rules = (
  record { own = λ v e. (λ _. unsigned_in 1 objects_bound_limit v e, absent, absent, absent, absent, absent, absent, absent, absent, absent); usual = inr (refl, inl refl); plain = λ t. refl },
  (
    record { own = λ v e. (absent, λ _. unsigned_in 1 16 v e, absent, absent, absent, absent, absent, absent, absent, absent); usual = inr (refl, inl refl); plain = λ t. refl },
    (
      record { own = λ v e. (absent, absent, λ _. unsigned_in 1 4294967295 v e, absent, absent, absent, absent, absent, absent, absent); usual = inr (refl, inl refl); plain = λ t. refl },
      (
        record { own = λ v e. (absent, absent, absent, absent, absent, absent, absent, absent, λ _. flag_text v e, absent); usual = inr (refl, inr true_given); plain = λ t. refl },
        (
          record { own = λ v e. (absent, absent, absent, absent, absent, absent, absent, absent, absent, λ _. unsigned_in 1 horizon_limit v e); usual = inr (refl, inl refl); plain = λ t. refl },
          later_rules objects_bound_limit,
        ),
      ),
    ),
  ),
)

identify_rules : Each (RuleHolds IdentifyText) built_identify.rules
identify_rules = (
  record { own = λ v e. (λ _. unsigned_in 1 objects_bound_limit v e, absent, absent, absent, absent, absent); usual = inr (refl, inl refl); plain = λ t. refl },
  (
    record { own = λ v e. (absent, λ _. unsigned_in 1 4294967295 v e, absent, absent, absent, absent); usual = inr (refl, inl refl); plain = λ t. refl },
    (
      record { own = λ v e. (absent, absent, λ _. flag_text v e, absent, absent, absent); usual = inr (refl, inr true_given); plain = λ t. refl },
      (
        record { own = λ v e. (absent, absent, absent, λ _. unsigned_in 1 horizon_limit v e, absent, absent); usual = inr (refl, inl refl); plain = λ t. refl },
        (
          record { own = λ v e. (absent, absent, absent, absent, λ _. flag_text v e, absent); usual = inr (refl, inr true_given); plain = λ t. refl },
          (
            record { own = λ v e. (absent, absent, absent, absent, absent, absent); usual = inr (refl, inl refl); plain = λ t. refl },
            (
              record { own = λ v e. (absent, absent, absent, absent, absent, λ _. flag_text v e); usual = inr (refl, inr true_given); plain = λ t. refl },
              (
                record { own = λ v e. (absent, absent, absent, absent, absent, absent); usual = inr (refl, inl refl); plain = λ t. refl },
                (record { own = λ v e. (absent, absent, absent, absent, absent, absent); usual = inl refl; plain = λ t. refl }, tt),
              ),
            ),
          ),
        ),
      ),
    ),
  ),
)

advance_rules : Each (RuleHolds AdvanceText) built_advance.rules
advance_rules = (
  record { own = λ v e. (λ _. unsigned_in 0 generation_limit v e, absent, absent); usual = inr (refl, inl refl); plain = λ t. refl },
  (
    record { own = λ v e. (absent, λ _. unsigned_in 1 4294967295 v e, absent); usual = inr (refl, inl refl); plain = λ t. refl },
    (
      record { own = λ v e. (absent, absent, λ _. flag_text v e); usual = inr (refl, inr true_given); plain = λ t. refl },
      (
        record { own = λ v e. (absent, absent, absent); usual = inr (refl, inl refl); plain = λ t. refl },
        (record { own = λ v e. (absent, absent, absent); usual = inl refl; plain = λ t. refl }, tt),
      ),
    ),
  ),
)

draw_rules : Each (RuleHolds ExplainText) built_draw.rules
draw_rules = (
  record { own = λ v e. absent; usual = inr (refl, inl refl); plain = λ t. refl },
  (
    record { own = λ v e. absent; usual = inr (refl, inl refl); plain = λ t. refl },
    (
      record { own = λ v e _. flag_text v e; usual = inr (refl, inr true_given); plain = λ t. refl },
      (record { own = λ v e. absent; usual = inl refl; plain = λ t. refl }, tt),
    ),
  ),
)

-- the last arguments of the commands that read reports, and their help, where the reports come first
reading_holds : Each (RuleHolds ReportsText) built_merge.rules
reading_holds = (
  record { own = λ v e. (λ _. flag_text v e, absent, absent); usual = inr (refl, inr true_given); plain = λ t. refl },
  (
    record { own = λ v e. (absent, λ _. unsigned_in 1 9223372036854775807 v e, absent); usual = inr (refl, inl refl); plain = λ t. refl },
    (
      record { own = λ v e. (λ _. flag_text v e, absent, absent); usual = inr (refl, inr true_given); plain = λ t. refl },
      (
        record { own = λ v e. (absent, absent, absent); usual = inr (refl, inl refl); plain = λ t. refl },
        (record { own = λ v e. (absent, absent, absent); usual = inl refl; plain = λ t. refl }, tt),
      ),
    ),
  ),
)

table_rules : Each (RuleHolds ReportsText) built_table.rules
table_rules = (
  record { own = λ v e. (λ _. flag_text v e, absent, absent); usual = inr (refl, inr true_given); plain = λ t. refl },
  (
    record { own = λ v e. (λ _. flag_text v e, absent, absent); usual = inr (refl, inr true_given); plain = λ t. refl },
    (
      record { own = λ v e. (λ _. flag_text v e, absent, absent); usual = inr (refl, inr true_given); plain = λ t. refl },
      (
        record { own = λ v e. (λ _. flag_text v e, absent, absent); usual = inr (refl, inr true_given); plain = λ t. refl },
        (
          record { own = λ v e. (λ _. flag_text v e, absent, absent); usual = inr (refl, inr true_given); plain = λ t. refl },
          (
            record { own = λ v e. (λ _. flag_text v e, absent, absent); usual = inr (refl, inr true_given); plain = λ t. refl },
            (
              record { own = λ v e. (absent, absent, absent); usual = inr (refl, inl refl); plain = λ t. refl },
              (
                record { own = λ v e. (λ _. flag_text v e, absent, absent); usual = inr (refl, inr true_given); plain = λ t. refl },
                (
                  record { own = λ v e. (absent, absent, absent); usual = inr (refl, inl refl); plain = λ t. refl },
                  reading_holds,
                ),
              ),
            ),
          ),
        ),
      ),
    ),
  ),
)

page_rules : Each (RuleHolds ReportsText) built_page.rules
page_rules = (
  record { own = λ v e. (absent, absent, absent); usual = inr (refl, inl refl); plain = λ t. refl },
  (
    record { own = λ v e. (absent, absent, absent); usual = inr (refl, inl refl); plain = λ t. refl },
    (
      record { own = λ v e. (absent, absent, absent); usual = inr (refl, inl refl); plain = λ t. refl },
      (
        record { own = λ v e. (absent, absent, λ _. unsigned_in 1 4294967295 v e); usual = inr (refl, inl refl); plain = λ t. refl },
        (
          record { own = λ v e. (absent, absent, absent); usual = inr (refl, inl refl); plain = λ t. refl },
          (
            record { own = λ v e. (λ _. flag_text v e, absent, absent); usual = inr (refl, inr true_given); plain = λ t. refl },
            (
              record { own = λ v e. (λ _. flag_text v e, absent, absent); usual = inr (refl, inr true_given); plain = λ t. refl },
              (
                record { own = λ v e. (absent, absent, absent); usual = inr (refl, inl refl); plain = λ t. refl },
                reading_holds,
              ),
            ),
          ),
        ),
      ),
    ),
  ),
)

same_rules : Each (RuleHolds ReportsText) built_same.rules
same_rules = (
  record { own = λ v e. (λ _. flag_text v e, absent, absent); usual = inr (refl, inr true_given); plain = λ t. refl },
  (
    record { own = λ v e. (λ _. flag_text v e, absent, absent); usual = inr (refl, inr true_given); plain = λ t. refl },
    (
      record { own = λ v e. (λ _. flag_text v e, absent, absent); usual = inr (refl, inr true_given); plain = λ t. refl },
      reading_holds,
    ),
  ),
)

verify_rules : Each (RuleHolds ReportsText) built_verify.rules
verify_rules = (
  record { own = λ v e. (absent, absent, absent); usual = inr (refl, inl refl); plain = λ t. refl },
  (
    record { own = λ v e. (λ _. flag_text v e, absent, absent); usual = inr (refl, inr true_given); plain = λ t. refl },
    (
      record { own = λ v e. (absent, λ _. unsigned_in 1 9223372036854775807 v e, absent); usual = inr (refl, inl refl); plain = λ t. refl },
      (
        record { own = λ v e. (λ _. flag_text v e, absent, absent); usual = inr (refl, inr true_given); plain = λ t. refl },
        (
          record { own = λ v e. (absent, absent, absent); usual = inr (refl, inl refl); plain = λ t. refl },
          (record { own = λ v e. (absent, absent, absent); usual = inl refl; plain = λ t. refl }, tt),
        ),
      ),
    ),
  ),
)

-- ---- the matches of a command

-- a level that doesn't fail
module _ (Q : Text → Text → Type 0) (s : Shape) (rules : Each (RuleHolds Q) s.rules) (words : List Text) (passes : level_fault s [] nothing_held words false [] ≡ []) where
  holds : LevelHolds Q s [] words false []
  holds = level-Holds Q s rules [] words false [] passes

  read_by_default : (id : Text) → HasDefault id s.rules → Reads Q id (rows_after s.rules [] words)
  read_by_default id there = reads_of Q id _ (row_of_id Q id _ holds.rows (defaults-there id s.rules _ there))

  read_as_given : (id : Text) → is_given id (rows_after s.rules [] words) ≡ true → Reads Q id (rows_after s.rules [] words)
  read_as_given id is = reads_of Q id _ (row_of_id Q id _ holds.rows (given-there id _ is))

  read_if_used : (id : Text) → (one_of id (rows_after s.rules [] words) ≡ None) ⊎ Reads Q id (rows_after s.rules [] words)
  read_if_used id = reads_or_none Q id _ holds.rows

  read_checks : check_fault s (rows_after s.rules [] words) false ≡ []
  read_checks = holds.checks

-- no argument has this id
abbrev HasOthers : Text → List Rule → Type 0
HasOthers id rules = Each (λ (a : Rule). bytes_eq a.id id ≡ false) rules

others_hold : (Q : Text → Text → Type 0) (id : Text) (rules : List Rule) → Each (RuleHolds Q) rules → HasOthers id rules
    → Each (RuleHolds (λ x v. bytes_eq x id ≡ false)) rules
others_hold Q id [] rules_hold others = tt
others_hold Q id (a ∷ rest) rules_hold others = (
  record { own = λ v e. others.0; usual = rules_hold.0.usual; plain = rules_hold.0.plain },
  others_hold Q id rest rules_hold.1 others.1,
)

-- so the matches have no row for it
no_row : (Q : Text → Text → Type 0) (s : Shape) (rules : Each (RuleHolds Q) s.rules) (words : List Text)
    → level_fault s [] nothing_held words false [] ≡ [] → HasOthers (codes "no-progress") s.rules → HasNoProgress (rows_after s.rules [] words)
no_row Q s rules words passes others =
    go (read_if_used (λ x v. bytes_eq x (codes "no-progress") ≡ false) s (others_hold Q (codes "no-progress") s.rules rules others) words passes (codes "no-progress"))
  where
    go : (one_of (codes "no-progress") (rows_after s.rules [] words) ≡ None) ⊎ Reads (λ x v. bytes_eq x (codes "no-progress") ≡ false) (codes "no-progress") (rows_after s.rules [] words)
        → HasNoProgress (rows_after s.rules [] words)
    go (inl none) = none
    go (inr reads) = absurd (true≢false reads.passes)

number_in : (Q : Text → Text → Type 0) (low high : ℕ) (id : Text) (rows : List Row) → Reads Q id rows → ((v : Text) → Q id v → IsUnsignedIn low high v)
    → HasNumberIn low high id rows
number_in Q low high id rows reads fits = (reads.text, reads.one, fits reads.text reads.passes)

limit_in : (Q : Text → Text → Type 0) (most : ℕ) (id : Text) (rows : List Row) → (one_of id rows ≡ None) ⊎ Reads Q id rows → ((v : Text) → Q id v → IsUnsignedIn 1 most v)
    → HasLimit most id rows
limit_in Q most id rows (inl none) fits = inl none
limit_in Q most id rows (inr reads) fits = inr (number_in Q 1 most id rows reads fits)

flag_in : (Q : Text → Text → Type 0) (id : Text) (rows : List Row) → Reads Q id rows → ((v : Text) → Q id v → IsFlagText v) → HasFlag id rows
flag_in Q id rows reads is = let flag = is reads.text reads.passes in (flag.0, reads.one ∙ ap Some flag.1)

text_in : (Q : Text → Text → Type 0) (id : Text) (rows : List Row) → Reads Q id rows → HasText id rows
text_in Q id rows reads = (reads.text, reads.first)

false_by_default : HasFirst (codes "false" ∷ [])
false_by_default = record { first = codes "false"; rest = []; is = refl }

abbrev Passes : Shape → List Text → Type 0
Passes s words = level_fault s [] nothing_held words false [] ≡ []

run_has : (words : List Text) → Passes built_run words → HasRun (rows_after built_run.rules [] words)
run_has words e = record {
  bound = number_in RunText 1 settles_bound_limit (codes "bound") _
      (read_by_default RunText built_run run_rules words e (codes "bound") (inl (refl, record { first = codes "1000"; rest = []; is = refl }))) (λ v q. q.0 refl);
  workers = number_in RunText 1 16 (codes "workers") _
      (read_by_default RunText built_run run_rules words e (codes "workers") (inr (inl (refl, record { first = codes "4"; rest = []; is = refl })))) (λ v q. q.1 refl);
  cells = limit_in RunText 4294967295 (codes "cells") _ (read_if_used RunText built_run run_rules words e (codes "cells")) (λ v q. q.2 refl);
  collections = record {
    input = limit_in RunText 9223372036854775807 (codes "input") _ (read_if_used RunText built_run run_rules words e (codes "input")) (λ v q. q.7 refl);
    recursive = flag_in RunText (codes "recursive") _
        (read_by_default RunText built_run run_rules words e (codes "recursive") (inr (inr (inr (inr (inl (refl, false_by_default))))))) (λ v q. q.3 refl);
    keep_going = flag_in RunText (codes "keep-going") _
        (read_by_default RunText built_run run_rules words e (codes "keep-going") (inr (inr (inr (inr (inr (inl (refl, false_by_default)))))))) (λ v q. q.4 refl);
  };
  explain = flag_in RunText (codes "explain") _
      (read_by_default RunText built_run run_rules words e (codes "explain") (inr (inr (inr (inr (inr (inr (inl (refl, false_by_default))))))))) (λ v q. q.5 refl);
  no_progress = flag_in RunText (codes "no-progress") _
      (read_by_default RunText built_run run_rules words e (codes "no-progress") (inr (inr (inr (inr (inr (inr (inr (inl (refl, false_by_default)))))))))) (λ v q. q.6 refl);
}

objects_has : (words : List Text) → Passes built_objects words → HasObjects (rows_after built_objects.rules [] words)
objects_has words e = record {
  bound = number_in ObjectsText 1 objects_bound_limit (codes "bound") _
      (read_by_default ObjectsText built_objects objects_rules words e (codes "bound") (inl (refl, record { first = codes "10000"; rest = []; is = refl }))) (λ v q. q.0 refl);
  workers = number_in ObjectsText 1 16 (codes "workers") _
      (read_by_default ObjectsText built_objects objects_rules words e (codes "workers") (inr (inl (refl, record { first = codes "4"; rest = []; is = refl })))) (λ v q. q.1 refl);
  cells = number_in ObjectsText 1 4294967295 (codes "cells") _
      (read_by_default ObjectsText built_objects objects_rules words e (codes "cells") (inr (inr (inl (refl, record { first = codes "200000"; rest = []; is = refl }))))) (λ v q. q.2 refl);
  near = flag_in ObjectsText (codes "near") _
      (read_by_default ObjectsText built_objects objects_rules words e (codes "near") (inr (inr (inr (inl (refl, false_by_default)))))) (λ v q. q.8 refl);
  horizon = number_in ObjectsText 1 horizon_limit (codes "horizon") _
      (read_by_default ObjectsText built_objects objects_rules words e (codes "horizon") (inr (inr (inr (inr (inl (refl, record { first = codes "1000"; rest = []; is = refl }))))))) (λ v q. q.9 refl);
  collections = record {
    input = limit_in ObjectsText 9223372036854775807 (codes "input") _ (read_if_used ObjectsText built_objects objects_rules words e (codes "input")) (λ v q. q.7 refl);
    recursive = flag_in ObjectsText (codes "recursive") _
        (read_by_default ObjectsText built_objects objects_rules words e (codes "recursive") (inr (inr (inr (inr (inr (inr (inl (refl, false_by_default))))))))) (λ v q. q.3 refl);
    keep_going = flag_in ObjectsText (codes "keep-going") _
        (read_by_default ObjectsText built_objects objects_rules words e (codes "keep-going") (inr (inr (inr (inr (inr (inr (inr (inl (refl, false_by_default)))))))))) (λ v q. q.4 refl);
  };
  explain = flag_in ObjectsText (codes "explain") _
      (read_by_default ObjectsText built_objects objects_rules words e (codes "explain") (inr (inr (inr (inr (inr (inr (inr (inr (inl (refl, false_by_default))))))))))) (λ v q. q.5 refl);
  no_progress = flag_in ObjectsText (codes "no-progress") _
      (read_by_default ObjectsText built_objects objects_rules words e (codes "no-progress") (inr (inr (inr (inr (inr (inr (inr (inr (inr (inl (refl, false_by_default)))))))))))) (λ v q. q.6 refl);
}

identify_has : (words : List Text) → Passes built_identify words → HasIdentify (rows_after built_identify.rules [] words)
identify_has words e = record {
  bound = number_in IdentifyText 1 objects_bound_limit (codes "bound") _
      (read_by_default IdentifyText built_identify identify_rules words e (codes "bound") (inl (refl, record { first = codes "10000"; rest = []; is = refl }))) (λ v q. q.0 refl);
  cells = number_in IdentifyText 1 4294967295 (codes "cells") _
      (read_by_default IdentifyText built_identify identify_rules words e (codes "cells") (inr (inl (refl, record { first = codes "200000"; rest = []; is = refl })))) (λ v q. q.1 refl);
  near = flag_in IdentifyText (codes "near") _
      (read_by_default IdentifyText built_identify identify_rules words e (codes "near") (inr (inr (inl (refl, false_by_default))))) (λ v q. q.2 refl);
  horizon = number_in IdentifyText 1 horizon_limit (codes "horizon") _
      (read_by_default IdentifyText built_identify identify_rules words e (codes "horizon") (inr (inr (inr (inl (refl, record { first = codes "1000"; rest = []; is = refl })))))) (λ v q. q.3 refl);
  json = flag_in IdentifyText (codes "json") _
      (read_by_default IdentifyText built_identify identify_rules words e (codes "json") (inr (inr (inr (inr (inl (refl, false_by_default))))))) (λ v q. q.4 refl);
  explain = flag_in IdentifyText (codes "explain") _
      (read_by_default IdentifyText built_identify identify_rules words e (codes "explain") (inr (inr (inr (inr (inr (inr (inl (refl, false_by_default))))))))) (λ v q. q.5 refl);
  no_progress = no_row IdentifyText built_identify identify_rules words e (refl, (refl, (refl, (refl, (refl, (refl, (refl, (refl, (refl, tt)))))))));
}

advance_has : (words : List Text) → Passes built_advance words → HasAdvance (rows_after built_advance.rules [] words)
advance_has words e =
    let rows = rows_after built_advance.rules [] words in
    let checks = checks_pass built_advance rows false (read_checks AdvanceText built_advance advance_rules words e) in
    let given = not-false (is_given (codes "generations") rows) (or_parts (not (is_given (codes "generations") rows)) false checks.1).0 in
    record {
      generations = number_in AdvanceText 0 generation_limit (codes "generations") _
          (read_as_given AdvanceText built_advance advance_rules words e (codes "generations") given) (λ v q. q.0 refl);
      cells = limit_in AdvanceText 4294967295 (codes "cells") _ (read_if_used AdvanceText built_advance advance_rules words e (codes "cells")) (λ v q. q.1 refl);
      explain = flag_in AdvanceText (codes "explain") _
          (read_by_default AdvanceText built_advance advance_rules words e (codes "explain") (inr (inr (inl (refl, false_by_default))))) (λ v q. q.2 refl);
      no_progress = no_row AdvanceText built_advance advance_rules words e (refl, (refl, (refl, (refl, (refl, tt)))));
    }

draw_has : (words : List Text) → Passes built_draw words → HasDraw (rows_after built_draw.rules [] words)
draw_has words e =
    let rows = rows_after built_draw.rules [] words in
    let checks = checks_pass built_draw rows false (read_checks ExplainText built_draw draw_rules words e) in
    let given = not-false (is_given (codes "code") rows) (or_parts (not (is_given (codes "code") rows)) false checks.1).0 in
    record {
      code = text_in ExplainText (codes "code") _ (read_as_given ExplainText built_draw draw_rules words e (codes "code") given);
      rule = text_in ExplainText (codes "rule") _
          (read_by_default ExplainText built_draw draw_rules words e (codes "rule") (inr (inl (refl, record { first = codes "B3/S23"; rest = []; is = refl }))));
      explain = flag_in ExplainText (codes "explain") _
          (read_by_default ExplainText built_draw draw_rules words e (codes "explain") (inr (inr (inl (refl, false_by_default))))) (λ v q. q refl);
      no_progress = no_row ExplainText built_draw draw_rules words e (refl, (refl, (refl, (refl, tt))));
    }

-- how a command that reads reports reads them
module _ (s : Shape) (rules : Each (RuleHolds ReportsText) s.rules) (words : List Text) (passes : Passes s words) where
  flag_by_default : (id : Text) → is_flag id ≡ true → HasDefault id s.rules → HasFlag id (rows_after s.rules [] words)
  flag_by_default id is there = flag_in ReportsText id _ (read_by_default ReportsText s rules words passes id there) (λ v q. q.0 is)

  reads_reports : HasDefault (codes "cut") s.rules → HasDefault (codes "explain") s.rules → HasOthers (codes "no-progress") s.rules
      → HasReports (rows_after s.rules [] words)
  reads_reports cut_there explain_there others = record {
    cut = flag_by_default (codes "cut") refl cut_there;
    input = limit_in ReportsText 9223372036854775807 (codes "input") _ (read_if_used ReportsText s rules words passes (codes "input")) (λ v q. q.1 refl);
    explain = flag_by_default (codes "explain") refl explain_there;
    no_progress = no_row ReportsText s rules words passes others;
  }

merge_has : (words : List Text) → Passes built_merge words → HasReports (rows_after built_merge.rules [] words)
merge_has words e = reads_reports built_merge reading_holds words e (inl (refl, false_by_default)) (inr (inr (inl (refl, false_by_default)))) (refl, (refl, (refl, (refl, (refl, tt)))))

table_has : (words : List Text) → Passes built_table words → HasTable (rows_after built_table.rules [] words)
table_has words e = record {
  csv = flag_by_default built_table table_rules words e (codes "csv") refl (inl (refl, false_by_default));
  json = flag_by_default built_table table_rules words e (codes "json") refl (inr (inl (refl, false_by_default)));
  safe = flag_by_default built_table table_rules words e (codes "safe") refl (inr (inr (inl (refl, false_by_default))));
  of_parts = flag_by_default built_table table_rules words e (codes "parts") refl (inr (inr (inr (inl (refl, false_by_default)))));
  of_codes = flag_by_default built_table table_rules words e (codes "codes") refl (inr (inr (inr (inr (inl (refl, false_by_default))))));
  of_engines = flag_by_default built_table table_rules words e (codes "engines") refl (inr (inr (inr (inr (inr (inl (refl, false_by_default)))))));
  unnamed = flag_by_default built_table table_rules words e (codes "unnamed") refl (inr (inr (inr (inr (inr (inr (inr (inl (refl, false_by_default)))))))));
  reports = reads_reports built_table table_rules words e
      (inr (inr (inr (inr (inr (inr (inr (inr (inr (inl (refl, false_by_default)))))))))))
      (inr (inr (inr (inr (inr (inr (inr (inr (inr (inr (inr (inl (refl, false_by_default)))))))))))))
      (refl, (refl, (refl, (refl, (refl, (refl, (refl, (refl, (refl, (refl, (refl, (refl, (refl, (refl, tt))))))))))))));
}

page_has : (words : List Text) → Passes built_page words → HasPage (rows_after built_page.rules [] words)
page_has words e = record {
  sort = text_in ReportsText (codes "sort") _
      (read_by_default ReportsText built_page page_rules words e (codes "sort") (inr (inr (inl (refl, record { first = codes "report"; rest = []; is = refl })))));
  top = limit_in ReportsText 4294967295 (codes "top") _ (read_if_used ReportsText built_page page_rules words e (codes "top")) (λ v q. q.2 refl);
  links = flag_by_default built_page page_rules words e (codes "links") refl (inr (inr (inr (inr (inr (inl (refl, false_by_default)))))));
  no_patterns = flag_by_default built_page page_rules words e (codes "no-patterns") refl (inr (inr (inr (inr (inr (inr (inl (refl, false_by_default))))))));
  reports = reads_reports built_page page_rules words e (inr (inr (inr (inr (inr (inr (inr (inr (inl (refl, false_by_default)))))))))) (inr (inr (inr (inr (inr (inr (inr (inr (inr (inr (inl (refl, false_by_default))))))))))))
      (refl, (refl, (refl, (refl, (refl, (refl, (refl, (refl, (refl, (refl, (refl, (refl, (refl, tt)))))))))))));
}

same_has : (words : List Text) → Passes built_same words → HasSame (rows_after built_same.rules [] words)
same_has words e = record {
  json = flag_by_default built_same same_rules words e (codes "json") refl (inl (refl, false_by_default));
  starts = flag_by_default built_same same_rules words e (codes "starts") refl (inr (inl (refl, false_by_default)));
  recursive = flag_by_default built_same same_rules words e (codes "recursive") refl (inr (inr (inl (refl, false_by_default))));
  reports = reads_reports built_same same_rules words e (inr (inr (inr (inl (refl, false_by_default))))) (inr (inr (inr (inr (inr (inl (refl, false_by_default)))))))
      (refl, (refl, (refl, (refl, (refl, (refl, (refl, (refl, tt))))))));
}

verify_has : (words : List Text) → Passes built_verify words → HasVerify (rows_after built_verify.rules [] words)
verify_has words e =
    let rows = rows_after built_verify.rules [] words in
    let checks = checks_pass built_verify rows false (read_checks ReportsText built_verify verify_rules words e) in
    let given = not-false (is_given (codes "claims") rows) (or_parts (not (is_given (codes "claims") rows)) false checks.1).0 in
    record {
      claims = text_in ReportsText (codes "claims") _ (read_as_given ReportsText built_verify verify_rules words e (codes "claims") given);
      reports = reads_reports built_verify verify_rules words e (inr (inl (refl, false_by_default))) (inr (inr (inr (inl (refl, false_by_default)))))
          (refl, (refl, (refl, (refl, (refl, (refl, tt))))));
    }

-- ---- the whole parse

-- the outcome of a command that the words name
abbrev Enters : Text → List Text → Shape → Type 0
Enters name words s = is_help whole.top name ≡ false → answers_to name (label_of s) ≡ true → Passes s words → IsCommand (Some (rows_at s words))

help_is_no_command : (name : Text) → is_help whole.top name ≡ false → (bytes_eq (codes "help") name || false) ≡ true → ⊥
help_is_no_command name stop names = go (bytes_eq (codes "help") name) refl names
  where
    go : (b : Bool) → bytes_eq (codes "help") name ≡ b → (b || false) ≡ true → ⊥
    go false is e = true≢false (sym e)
    go true is e =
        let same : codes "help" ≡ name = (bytes_eq-Decides (codes "help") name).0 is in
        let off : is_help whole.top (codes "help") ≡ false = subst (λ (x : Text). is_help whole.top x ≡ false) (sym same) stop in
        true≢false off

each_enters : (name : Text) (words : List Text) → Each (Enters name words) whole.subs
each_enters name words = (
  λ stop names passes. inl (refl, run_has words passes),
  (
    λ stop names passes. inr (inl (refl, objects_has words passes)),
    (
      λ stop names passes. inr (inr (inl (refl, identify_has words passes))),
      (
        λ stop names passes. inr (inr (inr (inl (refl, advance_has words passes)))),
        (
          λ stop names passes. inr (inr (inr (inr (inl (refl, draw_has words passes))))),
          (
            λ stop names passes. inr (inr (inr (inr (inr (inl (refl, merge_has words passes)))))),
            (
              λ stop names passes. inr (inr (inr (inr (inr (inr (inl (refl, table_has words passes))))))),
              (
                λ stop names passes. inr (inr (inr (inr (inr (inr (inr (inl (refl, page_has words passes)))))))),
                (
                  λ stop names passes. inr (inr (inr (inr (inr (inr (inr (inr (inl (refl, same_has words passes))))))))),
                  (
                    λ stop names passes. inr (inr (inr (inr (inr (inr (inr (inr (inr (refl, verify_has words passes))))))))),
                    (λ stop names passes. absurd (help_is_no_command name stop names), tt),
                  ),
                ),
              ),
            ),
          ),
        ),
      ),
    ),
  ),
)

named : (name : Text) (words : List Text) (o : Option Shape) → find (λ s. answers_to name (label_of s)) whole.subs ≡ o → is_help whole.top name ≡ false
    → option_map_or (λ s. level_fault s [] nothing_held words false []) o [] ≡ [] → is_some (option_map (λ s. rows_at s words) o) ≡ true
    → IsCommand (option_map (λ s. rows_at s words) o)
named name words None found stop below has = absurd (true≢false (sym has))
named name words (Some s) found stop below has =
    let there = found_of_each (Enters name words) (λ s. answers_to name (label_of s)) whole.subs s (each_enters name words) found in
    there.0 stop there.1 below

entered_is : (stop : Option (Text × List Text)) → StopHolds whole.top stop → entered_fault whole stop ≡ [] → is_some (entered whole stop) ≡ true → IsCommand (entered whole stop)
entered_is None stop below has = absurd (true≢false (sym has))
entered_is (Some p) stop below has = named p.0 p.1 (find (λ s. answers_to p.0 (label_of s)) whole.subs) refl stop below has

pub is_command : (words : List Text) → IsMatched words → IsCommand (subcommand_of census_app words)
is_command words matched =
    let stop = stop_after whole.top.rules (names_of whole) words in
    let holds = level-Holds AnyText whole.top top_rules (names_of whole) words (is_some (entered whole stop)) (entered_fault whole stop) matched in
    let checks = checks_pass whole.top (rows_after whole.top.rules (names_of whole) words) (is_some (entered whole stop)) holds.checks in
    entered_is stop holds.stop holds.below_passes (wanted (is_some (entered whole stop)) checks.0)
  where
    wanted : (has : Bool) → (not has && true) ≡ false → has ≡ true
    wanted true e = refl
    wanted false e = absurd (true≢false e)

-- two names that differ are not the same
other_name : {A : Type 0} (a b : Text) → a ≡ b → bytes_eq a b ≡ false → A
other_name a b same differ = absurd (true≢false (sym ((bytes_eq-Decides a b).1 same) ∙ differ))

-- the command `run` has its numbers and flags
pub run_command : (rows : List Row) → IsCommand (Some (codes "run", rows)) → HasRun rows
run_command rows (inl h) = h.1
run_command rows (inr (inl h)) = other_name _ _ h.0 refl
run_command rows (inr (inr (inl h))) = other_name _ _ h.0 refl
run_command rows (inr (inr (inr (inl h)))) = other_name _ _ h.0 refl
run_command rows (inr (inr (inr (inr (inl h))))) = other_name _ _ h.0 refl
run_command rows (inr (inr (inr (inr (inr (inl h)))))) = other_name _ _ h.0 refl
run_command rows (inr (inr (inr (inr (inr (inr (inl h))))))) = other_name _ _ h.0 refl
run_command rows (inr (inr (inr (inr (inr (inr (inr (inl h)))))))) = other_name _ _ h.0 refl
run_command rows (inr (inr (inr (inr (inr (inr (inr (inr (inl h))))))))) = other_name _ _ h.0 refl
run_command rows (inr (inr (inr (inr (inr (inr (inr (inr (inr h))))))))) = other_name _ _ h.0 refl

-- so has the command `objects`
pub objects_command : (rows : List Row) → IsCommand (Some (codes "objects", rows)) → HasObjects rows
objects_command rows (inl h) = other_name _ _ h.0 refl
objects_command rows (inr (inl h)) = h.1
objects_command rows (inr (inr (inl h))) = other_name _ _ h.0 refl
objects_command rows (inr (inr (inr (inl h)))) = other_name _ _ h.0 refl
objects_command rows (inr (inr (inr (inr (inl h))))) = other_name _ _ h.0 refl
objects_command rows (inr (inr (inr (inr (inr (inl h)))))) = other_name _ _ h.0 refl
objects_command rows (inr (inr (inr (inr (inr (inr (inl h))))))) = other_name _ _ h.0 refl
objects_command rows (inr (inr (inr (inr (inr (inr (inr (inl h)))))))) = other_name _ _ h.0 refl
objects_command rows (inr (inr (inr (inr (inr (inr (inr (inr (inl h))))))))) = other_name _ _ h.0 refl
objects_command rows (inr (inr (inr (inr (inr (inr (inr (inr (inr h))))))))) = other_name _ _ h.0 refl

-- so has the command `identify`
pub identify_command : (rows : List Row) → IsCommand (Some (codes "identify", rows)) → HasIdentify rows
identify_command rows (inl h) = other_name _ _ h.0 refl
identify_command rows (inr (inl h)) = other_name _ _ h.0 refl
identify_command rows (inr (inr (inl h))) = h.1
identify_command rows (inr (inr (inr (inl h)))) = other_name _ _ h.0 refl
identify_command rows (inr (inr (inr (inr (inl h))))) = other_name _ _ h.0 refl
identify_command rows (inr (inr (inr (inr (inr (inl h)))))) = other_name _ _ h.0 refl
identify_command rows (inr (inr (inr (inr (inr (inr (inl h))))))) = other_name _ _ h.0 refl
identify_command rows (inr (inr (inr (inr (inr (inr (inr (inl h)))))))) = other_name _ _ h.0 refl
identify_command rows (inr (inr (inr (inr (inr (inr (inr (inr (inl h))))))))) = other_name _ _ h.0 refl
identify_command rows (inr (inr (inr (inr (inr (inr (inr (inr (inr h))))))))) = other_name _ _ h.0 refl

-- the command `advance` has a number of generations, and a limit or none
pub advance_command : (rows : List Row) → IsCommand (Some (codes "advance", rows)) → HasAdvance rows
advance_command rows (inl h) = other_name _ _ h.0 refl
advance_command rows (inr (inl h)) = other_name _ _ h.0 refl
advance_command rows (inr (inr (inl h))) = other_name _ _ h.0 refl
advance_command rows (inr (inr (inr (inl h)))) = h.1
advance_command rows (inr (inr (inr (inr (inl h))))) = other_name _ _ h.0 refl
advance_command rows (inr (inr (inr (inr (inr (inl h)))))) = other_name _ _ h.0 refl
advance_command rows (inr (inr (inr (inr (inr (inr (inl h))))))) = other_name _ _ h.0 refl
advance_command rows (inr (inr (inr (inr (inr (inr (inr (inl h)))))))) = other_name _ _ h.0 refl
advance_command rows (inr (inr (inr (inr (inr (inr (inr (inr (inl h))))))))) = other_name _ _ h.0 refl
advance_command rows (inr (inr (inr (inr (inr (inr (inr (inr (inr h))))))))) = other_name _ _ h.0 refl

-- the command `merge` has what says how reports are read
pub merge_command : (rows : List Row) → IsCommand (Some (codes "merge", rows)) → HasReports rows
merge_command rows (inl h) = other_name _ _ h.0 refl
merge_command rows (inr (inl h)) = other_name _ _ h.0 refl
merge_command rows (inr (inr (inl h))) = other_name _ _ h.0 refl
merge_command rows (inr (inr (inr (inl h)))) = other_name _ _ h.0 refl
merge_command rows (inr (inr (inr (inr (inl h))))) = other_name _ _ h.0 refl
merge_command rows (inr (inr (inr (inr (inr (inl h)))))) = h.1
merge_command rows (inr (inr (inr (inr (inr (inr (inl h))))))) = other_name _ _ h.0 refl
merge_command rows (inr (inr (inr (inr (inr (inr (inr (inl h)))))))) = other_name _ _ h.0 refl
merge_command rows (inr (inr (inr (inr (inr (inr (inr (inr (inl h))))))))) = other_name _ _ h.0 refl
merge_command rows (inr (inr (inr (inr (inr (inr (inr (inr (inr h))))))))) = other_name _ _ h.0 refl

-- the command `table` has its flags
pub table_command : (rows : List Row) → IsCommand (Some (codes "table", rows)) → HasTable rows
table_command rows (inl h) = other_name _ _ h.0 refl
table_command rows (inr (inl h)) = other_name _ _ h.0 refl
table_command rows (inr (inr (inl h))) = other_name _ _ h.0 refl
table_command rows (inr (inr (inr (inl h)))) = other_name _ _ h.0 refl
table_command rows (inr (inr (inr (inr (inl h))))) = other_name _ _ h.0 refl
table_command rows (inr (inr (inr (inr (inr (inl h)))))) = other_name _ _ h.0 refl
table_command rows (inr (inr (inr (inr (inr (inr (inl h))))))) = h.1
table_command rows (inr (inr (inr (inr (inr (inr (inr (inl h)))))))) = other_name _ _ h.0 refl
table_command rows (inr (inr (inr (inr (inr (inr (inr (inr (inl h))))))))) = other_name _ _ h.0 refl
table_command rows (inr (inr (inr (inr (inr (inr (inr (inr (inr h))))))))) = other_name _ _ h.0 refl

-- the command `page` has its order, its limit and its flags
pub page_command : (rows : List Row) → IsCommand (Some (codes "page", rows)) → HasPage rows
page_command rows (inl h) = other_name _ _ h.0 refl
page_command rows (inr (inl h)) = other_name _ _ h.0 refl
page_command rows (inr (inr (inl h))) = other_name _ _ h.0 refl
page_command rows (inr (inr (inr (inl h)))) = other_name _ _ h.0 refl
page_command rows (inr (inr (inr (inr (inl h))))) = other_name _ _ h.0 refl
page_command rows (inr (inr (inr (inr (inr (inl h)))))) = other_name _ _ h.0 refl
page_command rows (inr (inr (inr (inr (inr (inr (inl h))))))) = other_name _ _ h.0 refl
page_command rows (inr (inr (inr (inr (inr (inr (inr (inl h)))))))) = h.1
page_command rows (inr (inr (inr (inr (inr (inr (inr (inr (inl h))))))))) = other_name _ _ h.0 refl
page_command rows (inr (inr (inr (inr (inr (inr (inr (inr (inr h))))))))) = other_name _ _ h.0 refl

-- the command `same` has its flags
pub same_command : (rows : List Row) → IsCommand (Some (codes "same", rows)) → HasSame rows
same_command rows (inl h) = other_name _ _ h.0 refl
same_command rows (inr (inl h)) = other_name _ _ h.0 refl
same_command rows (inr (inr (inl h))) = other_name _ _ h.0 refl
same_command rows (inr (inr (inr (inl h)))) = other_name _ _ h.0 refl
same_command rows (inr (inr (inr (inr (inl h))))) = other_name _ _ h.0 refl
same_command rows (inr (inr (inr (inr (inr (inl h)))))) = other_name _ _ h.0 refl
same_command rows (inr (inr (inr (inr (inr (inr (inl h))))))) = other_name _ _ h.0 refl
same_command rows (inr (inr (inr (inr (inr (inr (inr (inl h)))))))) = other_name _ _ h.0 refl
same_command rows (inr (inr (inr (inr (inr (inr (inr (inr (inl h))))))))) = h.1
same_command rows (inr (inr (inr (inr (inr (inr (inr (inr (inr h))))))))) = other_name _ _ h.0 refl

-- the command `verify` has its claims
pub verify_command : (rows : List Row) → IsCommand (Some (codes "verify", rows)) → HasVerify rows
verify_command rows (inl h) = other_name _ _ h.0 refl
verify_command rows (inr (inl h)) = other_name _ _ h.0 refl
verify_command rows (inr (inr (inl h))) = other_name _ _ h.0 refl
verify_command rows (inr (inr (inr (inl h)))) = other_name _ _ h.0 refl
verify_command rows (inr (inr (inr (inr (inl h))))) = other_name _ _ h.0 refl
verify_command rows (inr (inr (inr (inr (inr (inl h)))))) = other_name _ _ h.0 refl
verify_command rows (inr (inr (inr (inr (inr (inr (inl h))))))) = other_name _ _ h.0 refl
verify_command rows (inr (inr (inr (inr (inr (inr (inr (inl h)))))))) = other_name _ _ h.0 refl
verify_command rows (inr (inr (inr (inr (inr (inr (inr (inr (inl h))))))))) = other_name _ _ h.0 refl
verify_command rows (inr (inr (inr (inr (inr (inr (inr (inr (inr h))))))))) = h.1

-- each command has its `--explain`
explain_flag : (name : Text) (rows : List Row) → IsCommand (Some (name, rows)) → HasFlag (codes "explain") rows
explain_flag name rows (inl h) = h.1.explain
explain_flag name rows (inr (inl h)) = h.1.explain
explain_flag name rows (inr (inr (inl h))) = h.1.explain
explain_flag name rows (inr (inr (inr (inl h)))) = h.1.explain
explain_flag name rows (inr (inr (inr (inr (inl h))))) = h.1.explain
explain_flag name rows (inr (inr (inr (inr (inr (inl h)))))) = h.1.explain
explain_flag name rows (inr (inr (inr (inr (inr (inr (inl h))))))) = h.1.reports.explain
explain_flag name rows (inr (inr (inr (inr (inr (inr (inr (inl h)))))))) = h.1.reports.explain
explain_flag name rows (inr (inr (inr (inr (inr (inr (inr (inr (inl h))))))))) = h.1.reports.explain
explain_flag name rows (inr (inr (inr (inr (inr (inr (inr (inr (inr h))))))))) = h.1.reports.explain

pub explain_of : (command : Option (List ℕ × List Row)) (rows : List Row) → option_map (λ (p : List ℕ × List Row). p.1) command ≡ Some rows → IsCommand command
    → HasFlag (codes "explain") rows
explain_of None rows e h = absurd h
explain_of (Some (name, there)) rows e h = let same : there ≡ rows = cc in subst (λ (r : List Row). HasFlag (codes "explain") r) same (explain_flag name there h)

-- a command that reports no progress has no flag that says so
pub quiet_of : (command : Option (List ℕ × List Row)) → IsCommand command → option_map (λ (p : List ℕ × List Row). p.0) command ≢ Some (codes "run")
    → option_map (λ (p : List ℕ × List Row). p.0) command ≢ Some (codes "objects") → Uses (codes "no-progress") command false
quiet_of None h run objects = absurd h
quiet_of (Some (name, rows)) h run objects = none_used (codes "no-progress") rows (none h)
  where
    none : IsCommand (Some (name, rows)) → HasNoProgress rows
    none (inl h) = absurd (run (ap Some h.0))
    none (inr (inl h)) = absurd (objects (ap Some h.0))
    none (inr (inr (inl h))) = h.1.no_progress
    none (inr (inr (inr (inl h)))) = h.1.no_progress
    none (inr (inr (inr (inr (inl h))))) = h.1.no_progress
    none (inr (inr (inr (inr (inr (inl h)))))) = h.1.no_progress
    none (inr (inr (inr (inr (inr (inr (inl h))))))) = h.1.reports.no_progress
    none (inr (inr (inr (inr (inr (inr (inr (inl h)))))))) = h.1.reports.no_progress
    none (inr (inr (inr (inr (inr (inr (inr (inr (inl h))))))))) = h.1.reports.no_progress
    none (inr (inr (inr (inr (inr (inr (inr (inr (inr h))))))))) = h.1.reports.no_progress

-- ---- the numbers of what is asked for are in their ranges

question_in : (name : Text) (rows : List Row) (question : Question) → IsCommand (Some (name, rows)) → GivesQuestion name rows question
    → IsAnswered question × HasNumberIn 1 worker_limit (codes "workers") rows × HasCells question × HasLimit 9223372036854775807 (codes "input") rows
question_in name rows (Settles bound cells) h gives =
    let has = run_command rows (subst (λ (n : Text). IsCommand (Some (n, rows))) gives.0 h) in
    let bound_in = number_within 1 settles_bound_limit (codes "bound") rows bound has.bound gives.1 in
    ((bound_in.0, bound_in.1, tt), has.workers, limit_within 4294967295 (codes "cells") rows cells has.cells gives.2, has.collections.input)
question_in name rows (Objects bound None near horizon) h gives =
    let has = objects_command rows (subst (λ (n : Text). IsCommand (Some (n, rows))) gives.0 h) in
    let known : Some _ ≡ None = sym (number_is 1 4294967295 (codes "cells") rows has.cells) ∙ gives.1.1 in
    cc
question_in name rows (Objects bound (Some cells) near horizon) h gives =
    let has = objects_command rows (subst (λ (n : Text). IsCommand (Some (n, rows))) gives.0 h) in
    let bound_in = number_within 1 objects_bound_limit (codes "bound") rows bound has.bound gives.1.0 in
    let horizon_in = number_within 1 horizon_limit (codes "horizon") rows horizon has.horizon gives.1.3 in (
      (bound_in.0, bound_in.1, horizon_in),
      has.workers,
      number_within 1 4294967295 (codes "cells") rows cells has.cells gives.1.1,
      has.collections.input,
    )

lawful : (name : Text) (rows : List Row) (request : Request) → IsCommand (Some (name, rows)) → Gives name rows request → IsLawful request
lawful name rows (Census census) h gives =
    let asked = question_in name rows census.question h gives.0 in (
      asked.0,
      number_within 1 worker_limit (codes "workers") rows census.workers asked.1 gives.1,
      asked.2,
      limit_within 9223372036854775807 (codes "input") rows census.collections.input asked.3 gives.2.0,
    )
lawful name rows (Identify bound cells near horizon json names files) h gives =
    let has = identify_command rows (subst (λ (n : Text). IsCommand (Some (n, rows))) gives.0 h) in
    let bound_in = number_within 1 objects_bound_limit (codes "bound") rows bound has.bound gives.1.0 in
    let horizon_in = number_within 1 horizon_limit (codes "horizon") rows horizon has.horizon gives.1.3 in
    ((bound_in.0, bound_in.1, horizon_in), number_within 1 4294967295 (codes "cells") rows cells has.cells gives.1.1)
lawful name rows (Advance generations cells file) h gives =
    let has = advance_command rows (subst (λ (n : Text). IsCommand (Some (n, rows))) gives.0 h) in (
      (number_within 0 generation_limit (codes "generations") rows generations has.generations gives.1).1,
      limit_within 4294967295 (codes "cells") rows cells has.cells gives.2,
    )
lawful name rows (Draw code rule) h gives = tt
lawful name rows (Merge reports) h gives =
    let has = merge_command rows (subst (λ (n : Text). IsCommand (Some (n, rows))) gives.0 h) in
    limit_within 9223372036854775807 (codes "input") rows reports.input has.input gives.1.1
lawful name rows (Table subject format names reports) h gives =
    let has = table_command rows (subst (λ (n : Text). IsCommand (Some (n, rows))) gives.0 h) in
    limit_within 9223372036854775807 (codes "input") rows reports.input has.reports.input gives.4.1
lawful name rows (Page page names reports) h gives =
    let has = page_command rows (subst (λ (n : Text). IsCommand (Some (n, rows))) gives.0 h) in (
      limit_within 4294967295 (codes "top") rows page.top has.top gives.1.3,
      limit_within 9223372036854775807 (codes "input") rows reports.input has.reports.input gives.3.1,
    )
lawful name rows (Same json reports) h gives =
    let has = same_command rows (subst (λ (n : Text). IsCommand (Some (n, rows))) gives.0 h) in
    limit_within 9223372036854775807 (codes "input") rows reports.input has.reports.input gives.3.1
lawful name rows (Starts json asked) h gives =
    let has = same_command rows (subst (λ (n : Text). IsCommand (Some (n, rows))) gives.0 h) in
    limit_within 9223372036854775807 (codes "input") rows asked.input has.reports.input gives.2.1
lawful name rows (Verify claims reports) h gives =
    let has = verify_command rows (subst (λ (n : Text). IsCommand (Some (n, rows))) gives.0 h) in
    limit_within 9223372036854775807 (codes "input") rows reports.input has.reports.input gives.2.1

pub asked_are_lawful : AskedAreLawful
asked_are_lawful words request asks = go (subcommand_of census_app words) (is_command words asks.0) asks.1
  where
    go : (command : Option (List ℕ × List Row)) → IsCommand command → IsSomeAnd command (λ c. Gives c.0 c.1 request) → IsLawful request
    go None h gives = absurd gives
    go (Some (name, rows)) h gives = lawful name rows request h gives
