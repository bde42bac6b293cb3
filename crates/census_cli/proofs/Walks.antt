-- What a walk over words leaves where it doesn't fail.
use Rattle.std.proofs.Common.{◌≡◌, ◌&&◌, ℕ, zero, suc, List, [], ◌∷◌, Bool, true, false, not, Option, Some, None, length, drop, is_some, refl}
use Rattle.std.specs.Prelude.{if◌then◌else◌, codes, encode_utf8, fold, slice_get}
use Rattle.std.specs.Option.{option_map_or}
use Rattle.std.specs.Str.{bytes_eq, chars}
use Rattle.clap.specs.Lexer.{long_of, short_of}
use Rattle.clap.specs.Faults.{bundle_fault, bundle_step_fault, flag_word_fault, flags_fault, long_fault, option_fault, other_fault, positional_fault, react_fault, settle_fault, short_fault, step_fault, stray_fault, turn_fault, walk_fault, word_fault}
use Rattle.clap.specs.Kinds.{Kinds, or_else}
use Rattle.clap.specs.Simple.{Shape}
use Rattle.clap.specs.Walk.{Held, Names, Outcome, Rule, Step, Text, Waiting, Walk, after_flag, after_step, arg_by_id, arg_by_index, arg_by_long, arg_by_short, attached_value, bundle, bundle_met, bundle_step, flag_met, is_pending, long_met, long_or_other, next, done, option, idle, positional, option_met, option_word, plain, plain_word, positional_held, reacted, refused, settled, short_met, short_or_plain, subcommand, subcommand_met, subcommand_or_other, takes_several, takes_values, to_positional, trailing, value, waits, walked, walked_from, word_met}
use Rattle.clap.specs.declared.error.kind.ErrorKind.TheVariants.{DisplayHelp, InvalidSubcommand, TooManyValues}
use Rattle.census_cli.proofs.Passing.{Each, found_of_each, neither_fails, test_is_false}
use Rattle.census_cli.proofs.Rows.{Hold}
use Rattle.census_cli.proofs.Uses.{RuleHolds, reacted-Hold, settled-Hold}

-- the subcommand is the one that answers with help
abbrev pub is_help : Shape → Text → Bool
is_help s name = bytes_eq name (codes "help") && not s.disable_help_subcommand

-- a walk has not stopped there
abbrev pub StopHolds : Shape → Option (Text × List Text) → Type 0
StopHolds s None = Unit {0}
StopHolds s (Some p) = is_help s p.0 ≡ false

module _ (Q : Text → Text → Type 0) (s : Shape) (rules : Each (RuleHolds Q) s.rules) where
  abbrev c : List Rule
  c = s.rules

  abbrev again : Bool
  again = s.args_override_self

  -- ---- options and flags

  option-Hold : (a : Rule) → RuleHolds Q a → (v : Option Text) (h : Held) → option_fault c again a v h ≡ [] → Hold Q h.rows → Hold Q (option_met c a v h).0.rows
  option-Hold a holds (Some v) h e k = reacted-Hold Q c again rules a holds (v ∷ []) h e k
  option-Hold a holds None h e k = settled-Hold Q c again rules h e k

  flag-Hold : (a : Rule) → RuleHolds Q a → (v : Option Text) (h : Held) → (if is_some v then TooManyValues ∷ [] else react_fault c again a [] h) ≡ [] → Hold Q h.rows
      → Hold Q (flag_met c a v h).0.rows
  flag-Hold a holds (Some v) h e k = k
  flag-Hold a holds None h e k = reacted-Hold Q c again rules a holds [] h e k

  long-Hold : (o : Option Rule) (name : Text) (v : Option Text) (h : Held) → arg_by_long c name ≡ o → long_fault c again o v h ≡ [] → Hold Q h.rows → Hold Q (long_met c o v h).0.rows
  long-Hold None name v h found e k = k
  long-Hold (Some a) name v h found e k = go (takes_values a) e
    where
      holds : RuleHolds Q a
      holds = (found_of_each (RuleHolds Q) _ c a rules found).0

      go : (b : Bool) → (if b then option_fault c again a v h else (if is_some v then TooManyValues ∷ [] else react_fault c again a [] h)) ≡ []
          → Hold Q (if b then option_met c a v h else flag_met c a v h).0.rows
      go true e = option-Hold a holds v h e k
      go false e = flag-Hold a holds v h e k

  -- ---- a bundle of flags

  short-Hold : (o : Option Rule) (x : ℕ) (rest : Text) (h : Held) (met : Held → Held × Outcome) (fault : Held → Kinds) → arg_by_short c x ≡ o
      → short_fault c again o rest h fault ≡ [] → ((g : Held) → fault g ≡ [] → Hold Q g.rows → Hold Q (met g).0.rows) → Hold Q h.rows
      → Hold Q (short_met c o rest h met).0.rows
  short-Hold None x rest h met fault found e later k = k
  short-Hold (Some a) x rest h met fault found e later k = go (takes_values a) e
    where
      holds : RuleHolds Q a
      holds = (found_of_each (RuleHolds Q) _ c a rules found).0

      go : (b : Bool) → (if b then option_fault c again a (attached_value rest) h else or_else (react_fault c again a [] h) (fault (reacted c a [] h))) ≡ []
          → Hold Q (if b then option_met c a (attached_value rest) h else met (reacted c a [] h)).0.rows
      go true e = option-Hold a holds (attached_value rest) h e k
      go false e =
          let none = neither_fails (react_fault c again a [] h) _ e in
          later (reacted c a [] h) none.1 (reacted-Hold Q c again rules a holds [] h none.0 k)

  step-Hold : (o : Option ℕ) (flags : Text) (skip : ℕ) (so_far : Outcome) (h : Held) (met : Text → ℕ → Outcome → Held → Held × Outcome) (fault : Text → ℕ → Held → Kinds)
      → bundle_step_fault c again o flags skip h fault ≡ []
      → ((t : Text) (n : ℕ) (so : Outcome) (g : Held) → fault t n g ≡ [] → Hold Q g.rows → Hold Q (met t n so g).0.rows) → Hold Q h.rows
      → Hold Q (bundle_step c o flags skip so_far h met).0.rows
  step-Hold None flags skip so_far h met fault e later k = k
  step-Hold (Some x) flags zero so_far h met fault e later k =
      let rest = drop (length (encode_utf8 x)) flags in
      short-Hold (arg_by_short c x) x rest h (met rest 0 done) (fault rest 0) refl e (later rest 0 done) k
  step-Hold (Some x) flags (suc skip) so_far h met fault e later k = later (drop (length (encode_utf8 x)) flags) skip so_far h e k

  flags-Hold : (n : ℕ) (flags : Text) (skip : ℕ) (so_far : Outcome) (h : Held) → flags_fault c again n flags skip h ≡ [] → Hold Q h.rows
      → Hold Q (bundle_met c n flags skip so_far h).0.rows
  unfolding flags_fault bundle_met
  flags-Hold zero flags skip so_far h e k = k
  flags-Hold (suc n) flags skip so_far h e k =
      step-Hold (slice_get (chars flags) 0) flags skip so_far h (bundle_met c n) (flags_fault c again n) e (λ t m so g. flags-Hold n t m so g) k

  -- ---- one word

  plain-Hold : (waiting : Waiting) (word : Text) (h : Held) → Hold Q h.rows → Hold Q (plain_word c waiting word h).0.rows
  plain-Hold idle word h k = k
  plain-Hold positional word h k = k
  plain-Hold (option id) word h k = go (arg_by_id c id)
    where
      go : (o : Option Rule) → Hold Q (option_word o id word h).0.rows
      go None = k
      go (Some a) = k

  after-Hold : (waiting : Waiting) (word : Text) (h : Held) (o : Outcome) → Hold Q h.rows → Hold Q (after_flag c waiting word h o).0.rows
  after-Hold waiting word h done k = k
  after-Hold waiting word h (waits id) k = k
  after-Hold waiting word h plain k = plain-Hold waiting word h k
  after-Hold waiting word h refused k = plain-Hold waiting word h k

  short_word-Hold : (o : Option Text) (waiting : Waiting) (word : Text) (h : Held) → option_map_or (λ flags. bundle_fault c again flags h) o [] ≡ [] → Hold Q h.rows
      → Hold Q (short_or_plain c waiting word o h).0.rows
  short_word-Hold None waiting word h e k = plain-Hold waiting word h k
  short_word-Hold (Some flags) waiting word h e k =
      let met = bundle c flags h in
      after-Hold waiting word met.0 met.1 (flags-Hold (length flags) flags h.skip plain (record h { skip = 0 }) e k)

  flag_word-Hold : (o : Option (Text × Option Text)) (waiting : Waiting) (word : Text) (h : Held) → flag_word_fault c again o word h ≡ [] → Hold Q h.rows
      → Hold Q (long_or_other c waiting word o h).0.rows
  flag_word-Hold None waiting word h e k = short_word-Hold (short_of word) waiting word h e k
  flag_word-Hold (Some p) waiting word h e k =
      let met = long_met c (arg_by_long c p.0) p.1 h in
      after-Hold waiting word met.0 met.1 (long-Hold (arg_by_long c p.0) p.0 p.1 h refl e k)

  abbrev StepHolds : Step → Type 0
  StepHolds (next w) = Unit {0}
  StepHolds (trailing p) = Unit {0}
  StepHolds (subcommand name) = is_help s name ≡ false
  StepHolds value = Unit {0}

  after-Step : (waiting : Waiting) (word : Text) (h : Held) (o : Outcome) → StepHolds (after_flag c waiting word h o).1
  after-Step waiting word h done = tt
  after-Step waiting word h (waits id) = tt
  after-Step idle word h plain = tt
  after-Step (option id) word h plain = tt
  after-Step positional word h plain = tt
  after-Step idle word h refused = tt
  after-Step (option id) word h refused = tt
  after-Step positional word h refused = tt

  plain-Step : (waiting : Waiting) (word : Text) (h : Held) → StepHolds (plain_word c waiting word h).1
  plain-Step idle word h = tt
  plain-Step (option id) word h = tt
  plain-Step positional word h = tt

  short_word-Step : (o : Option Text) (waiting : Waiting) (word : Text) (h : Held) → StepHolds (short_or_plain c waiting word o h).1
  short_word-Step None waiting word h = plain-Step waiting word h
  short_word-Step (Some flags) waiting word h = after-Step waiting word (bundle c flags h).0 (bundle c flags h).1

  flag_word-Step : (o : Option (Text × Option Text)) (waiting : Waiting) (word : Text) (h : Held) → StepHolds (long_or_other c waiting word o h).1
  flag_word-Step None waiting word h = short_word-Step (short_of word) waiting word h
  flag_word-Step (Some p) waiting word h = after-Step waiting word (long_met c (arg_by_long c p.0) p.1 h).0 (long_met c (arg_by_long c p.0) p.1 h).1

  abbrev MetHolds : Held × Step → Type 0
  MetHolds met = Hold Q met.0.rows × StepHolds met.1

  other-Hold : (o : Option Text) (waiting : Waiting) (position : ℕ) (word : Text) (h : Held) → other_fault s o word h ≡ [] → Hold Q h.rows
      → MetHolds (subcommand_or_other c o waiting position word h)
  other-Hold (Some name) waiting position word h e k = (k, (test_is_false (is_help s name) DisplayHelp (InvalidSubcommand ∷ []) [] e).0)
  other-Hold None waiting position word h e k = go (bytes_eq word (45 ∷ 45 ∷ [])) e
    where
      go : (b : Bool) → (if b then [] else flag_word_fault c again (long_of word) word h) ≡ []
          → MetHolds (if b then (h, trailing position) else long_or_other c waiting word (long_of word) h)
      go true e = (k, tt)
      go false e = (flag_word-Hold (long_of word) waiting word h e k, flag_word-Step (long_of word) waiting word h)

  word-Hold : (names : Names) (is_trailing : Bool) (waiting : Waiting) (position : ℕ) (word : Text) (h : Held) → word_fault s names is_trailing waiting word h ≡ []
      → Hold Q h.rows → MetHolds (word_met c names is_trailing waiting position word h)
  word-Hold names true waiting position word h e k = (k, tt)
  word-Hold names false waiting position word h e k = other-Hold (subcommand_met names waiting word) waiting position word h e k

  -- ---- the walk

  positional-Hold : (a : Rule) (word : Text) (h : Held) → positional_fault c again a h ≡ [] → Hold Q h.rows → Hold Q (positional_held c a word h).rows
  positional-Hold a word h e k = go (is_pending a h.pending && takes_several a) e
    where
      go : (b : Bool) → (if b then [] else settle_fault c again h) ≡ [] → Hold Q (if b then h else settled c h).rows
      go true e = k
      go false e = settled-Hold Q c again rules h e k

  pub record WalkHolds (w : Walk) : Type 0 where
    pub rows : Hold Q w.held.rows
    pub stop : StopHolds s w.stopped

  to_positional-Hold : (o : Option Rule) (word : Text) (w : Walk) (h : Held) → option_map_or (λ a. positional_fault c again a h) o (stray_fault s) ≡ [] → Hold Q h.rows
      → StopHolds s w.stopped → WalkHolds (to_positional c o word w h)
  to_positional-Hold None word w h e k stop = record { rows = k; stop = stop }
  to_positional-Hold (Some a) word w h e k stop = record { rows = positional-Hold a word h e k; stop = tt }

  step-Walk : (step : Step) (word : Text) (w : Walk) (h : Held) → step_fault s w.position h step ≡ [] → Hold Q h.rows → StepHolds step → StopHolds s w.stopped
      → WalkHolds (after_step c word w h step)
  step-Walk (next waiting) word w h e k step stop = record { rows = k; stop = stop }
  step-Walk (trailing position) word w h e k step stop = record { rows = k; stop = stop }
  step-Walk (subcommand name) word w h e k step stop = record { rows = k; stop = step }
  step-Walk value word w h e k step stop = to_positional-Hold (arg_by_index c w.position) word w h e k stop

  turn-Walk : (names : Names) (w : Walk) (word : Text) (stopped : Option (Text × List Text))
      → (if is_some stopped then [] else or_else (word_fault s names w.is_trailing w.waiting word w.held)
      (step_fault s w.position (word_met c names w.is_trailing w.waiting w.position word w.held).0 (word_met c names w.is_trailing w.waiting w.position word w.held).1)) ≡ []
      → Hold Q w.held.rows → StopHolds s stopped → StopHolds s w.stopped → WalkHolds (walked_from c names stopped w word)
  turn-Walk names w word (Some p) e k stop own = record { rows = k; stop = stop }
  turn-Walk names w word None e k stop own =
      let met = word_met c names w.is_trailing w.waiting w.position word w.held in
      let none = neither_fails (word_fault s names w.is_trailing w.waiting word w.held) _ e in
      let holds = word-Hold names w.is_trailing w.waiting w.position word w.held none.0 k in
      step-Walk met.1 word w met.0 none.1 holds.0 holds.1 own

  turn-Hold : (names : Names) (w : Walk) (word : Text) → turn_fault s names w word ≡ [] → WalkHolds w → WalkHolds (walked c names w word)
  unfolding walked
  turn-Hold names w word e h = turn-Walk names w word w.stopped e h.rows h.stop h.stop

  pub walk-Hold : (names : Names) (words : List Text) (w : Walk) → walk_fault s names w words ≡ [] → WalkHolds w → WalkHolds (fold (walked c names) w words)
  unfolding walk_fault
  walk-Hold names [] w e h = h
  walk-Hold names (word ∷ rest) w e h =
      let none = neither_fails (turn_fault s names w word) _ e in
      walk-Hold names rest (walked c names w word) none.1 (turn-Hold names w word none.0 h)
