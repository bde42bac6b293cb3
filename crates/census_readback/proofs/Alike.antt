-- Rows that say the same may come in the same places.
use Rattle.std.proofs.Common.{◌≡◌, ℕ, ℤ, Bool, true, false, ◌+◌, ◌-◌, ◌&&◌, ◌==◌, nat_eq, nat_lt, nat_le, Option, Some, None as Nothing, List, [], ◌∷◌, ap, ◌∙◌, refl, subst}
use Rattle.std.specs.Prelude.{if◌then◌else◌, ⊤}
use Rattle.std.specs.Option.{option_map_or, unwrap_or}
use Rattle.census_bundle.specs.Names.{is_name}
use Rattle.census_rows.specs.declared.kinds.Behind as rows
use Rattle.census_rows.specs.declared.kinds.Behind.TheVariants as behind
use Rattle.census_rows.specs.declared.kinds.Class.{Class}
use Rattle.census_rows.specs.declared.row.Outcome.{Outcome}
use Rattle.census_rows.specs.declared.row.Row.{Row}
use Rattle.census_rows.specs.declared.row.Row.TheVariants.{Open, Line, Part, Engine, Emits, Code, Close, End}
use Rattle.census_rows.specs.declared.kinds.Field.{Field}
use Rattle.census_rows.specs.declared.kinds.Label.{Label}
use Rattle.census_rows.specs.declared.kinds.Label.TheVariants as label
use Rattle.census_rows.specs.declared.kinds.Value.{Value}
use Rattle.census_rows.specs.declared.kinds.Value.TheVariants.{Number, Signed, Text}
use Rattle.census_rows.specs.Kinds.{Said, label_number, said, value_at}
use Rattle.census_rows.specs.Lines.{SameFields, SameOutcome, SameRow, SameSaid, SameValue}
use Rattle.census_readback.specs.Codes.{is_code, is_object}
use Rattle.census_readback.specs.Lawful.{has_lawful_code, has_lawful_engines, has_lawful_fault, has_lawful_numbers, has_lawful_rule, is_lawful, is_recurrence, is_way, number_in, signed_in, text_in}
use Rattle.census_readback.specs.Engines.{after_engine, no_engine}
use Rattle.census_readback.specs.declared.engines.Way.{Way}
use Rattle.census_readback.specs.Rules.{is_rule}
use Rattle.census_readback.specs.Told.{Told, emits_told, engine_told, is_told, line_told, part_told, to_tell, told_after, told_next}
use Rattle.census_readback.specs.declared.place.Place.{Place}
use Rattle.census_readback.specs.declared.place.Place.TheVariants.{Before, Within, Behind}
use Rattle.census_readback.specs.declared.place.Tally.{Tally}
use Rattle.census_readback.specs.Counts.{Counts, line_counted, object, with_more}
use Rattle.census_readback.specs.Sections.{counted, may_stand, with_line, with_part, with_told, tells_next, next_within, first_place, place_after}
use Rattle.census_readback.specs.Steps.{Reading, collection_of, patterns_opened, place_at, gone_on, section_step, end_step, step, first_stray}
use Rattle.census_readback.specs.Texts.{SameRows}
use Rattle.census_readback.specs.Limits.{bound_limit, cell_limit, count_limit, fault_limit}

-- # Fields

abbrev SameValues : Option Value → Option Value → Type 0
SameValues Nothing Nothing = ⊤
SameValues (Some value) (Some other) = SameValue value other
SameValues _ _ = ⊥

at-same : (l : Label) (fields others : List Field) → SameFields fields others → SameValues (value_at l fields) (value_at l others)
at-same l [] [] h = tt
at-same l [] (g ∷ others) h = absurd h
at-same l (f ∷ fields) [] h = absurd h
at-same l (f ∷ fields) (g ∷ others) h =
    let same : nat_eq (label_number f.label) (label_number l) ≡ nat_eq (label_number g.label) (label_number l) = ap (λ k. nat_eq (label_number k) (label_number l)) h.0 in
    let on : (b : Bool) → SameValues (if b then Some f.value else value_at l fields) (if b then Some g.value else value_at l others) =
    λ b. elim b as (λ b. SameValues (if b then Some f.value else value_at l fields) (if b then Some g.value else value_at l others)) [
      | true ↦ h.1
      | false ↦ at-same l fields others h.2
    ] in
    subst (λ b. SameValues (if nat_eq (label_number f.label) (label_number l) then Some f.value else value_at l fields) (if b then Some g.value else value_at l others)) same
    (on (nat_eq (label_number f.label) (label_number l)))

text-same : (a b : Option Value) → SameValues a b → text_in a ≡ text_in b
text-same Nothing Nothing h = refl
text-same (Some (Number n)) (Some (Number m)) h = refl
text-same (Some (Signed z)) (Some (Signed y)) h = refl
text-same (Some (Text bytes)) (Some (Text others)) h = ap (λ (w : List ℕ). Some w) h
text-same a b h = absurd h

number-same : (a b : Option Value) → SameValues a b → number_in a ≡ number_in b
number-same Nothing Nothing h = refl
number-same (Some (Number n)) (Some (Number m)) h = h
number-same (Some (Signed z)) (Some (Signed y)) h = refl
number-same (Some (Text bytes)) (Some (Text others)) h = refl
number-same a b h = absurd h

signed-same : (a b : Option Value) → SameValues a b → signed_in a ≡ signed_in b
signed-same Nothing Nothing h = refl
signed-same (Some (Number n)) (Some (Number m)) h = refl
signed-same (Some (Signed z)) (Some (Signed y)) h = h
signed-same (Some (Text bytes)) (Some (Text others)) h = refl
signed-same a b h = absurd h

abbrev tells-some : Option Value → Bool
tells-some value = option_map_or (λ value. nat_lt 0 (number_in (Some value))) value true

some-same : (a b : Option Value) → SameValues a b → tells-some a ≡ tells-some b
some-same Nothing Nothing h = refl
some-same (Some value) (Some other) h = ap (λ n. nat_lt 0 n) (number-same (Some value) (Some other) h)
some-same a b h = absurd h

module _ (fields others : List Field) (h : SameFields fields others) where
  texts : (l : Label) → text_in (value_at l fields) ≡ text_in (value_at l others)
  texts l = text-same (value_at l fields) (value_at l others) (at-same l fields others h)

  numbers : (l : Label) → number_in (value_at l fields) ≡ number_in (value_at l others)
  numbers l = number-same (value_at l fields) (value_at l others) (at-same l fields others h)

-- # Steps

counted-same : (k : Counts) (s u : Said) → SameSaid s u → line_counted k s ≡ line_counted k u
counted-same k s u h =
    let after : Option (List ℕ) → Option (List ℕ) → Counts = λ rule code.
    record { rule = unwrap_or rule []; sums = option_map_or (λ code. with_more (object (unwrap_or rule []) code) 1 k.sums) code k.sums } in
    ap (λ rule. after rule (text_in (value_at label.Code s.fields))) (texts s.fields u.fields h.3 label.Rule)
    ∙ ap (after (text_in (value_at label.Rule u.fields))) (texts s.fields u.fields h.3 label.Code)

line-same : (t : Tally) (o p : Outcome) → SameOutcome o p → with_line t o ≡ with_line t p
line-same t o p h =
    ap (λ (class : Class). record (counted t class) { read = t.read + 1; behind = (said o).behind; counts = line_counted t.counts (said o) }) h.1
    ∙ ap (λ (kind : rows.Behind). record (counted t (said p).class) { read = t.read + 1; behind = kind; counts = line_counted t.counts (said o) }) h.2
    ∙ ap (λ (counts : Counts). record (counted t (said p).class) { read = t.read + 1; behind = (said p).behind; counts = counts }) (counted-same t.counts (said o) (said p) h)

first-same : (r q : Row) → SameRow r q → first_place r ≡ first_place q
first-same (Open c n name) (Open c2 n2 name2) h = ap (λ k. first_place (Open c k name)) h.1
first-same (Line c i o name) (Line c2 i2 o2 name2) h = refl
first-same (Part c i code k) (Part c2 i2 code2 k2) h = refl
first-same (Engine c i e p x y k) (Engine c2 i2 e2 p2 x2 y2 k2) h = refl
first-same (Emits c i e code k) (Emits c2 i2 e2 code2 k2) h = refl
first-same (Code c rule code k) (Code c2 rule2 code2 k2) h = refl
first-same (Close c n a b d) (Close c2 n2 a2 b2 d2) h = refl
first-same (End n k) (End n2 k2) h = refl
first-same r q h = absurd h

within-same : (t : Tally) (r q : Row) → SameRow r q → next_within t r ≡ next_within t q
within-same t (Open c n name) (Open c2 n2 name2) h = refl
within-same t (Line c i o name) (Line c2 i2 o2 name2) h =
    ap (λ k. next_within t (Line c k o name)) h.1
    ∙ ap (λ (u : Tally). if nat_lt t.read t.patterns && (i2 == t.read + 1) then Some (Within u) else Nothing) (line-same t o o2 h.2)
within-same t (Part c i code k) (Part c2 i2 code2 k2) h =
    ap (λ m. next_within t (Part c m code k)) h.1
    ∙ ap (λ w. if may_stand t behind.Parts i2 then Some (Within (with_part t w k)) else Nothing) h.2
    ∙ ap (λ m. if may_stand t behind.Parts i2 then Some (Within (with_part t code2.now m)) else Nothing) h.3
within-same t (Engine c i e p x y k) (Engine c2 i2 e2 p2 x2 y2 k2) h = ap (λ m. next_within t (Engine c m e p x y k)) h.1
within-same t (Emits c i e code k) (Emits c2 i2 e2 code2 k2) h = ap (λ m. next_within t (Emits c m e code k)) h.1
within-same t (Code c rule code k) (Code c2 rule2 code2 k2) h =
    ap (λ w. if (t.read == t.patterns) && tells_next t w code.now k then Some (Within (with_told t)) else Nothing) h.1
    ∙ ap (λ w. if (t.read == t.patterns) && tells_next t rule2.now w k then Some (Within (with_told t)) else Nothing) h.2
    ∙ ap (λ m. if (t.read == t.patterns) && tells_next t rule2.now code2.now m then Some (Within (with_told t)) else Nothing) h.3
within-same t (Close c n a b d) (Close c2 n2 a2 b2 d2) h =
    ap (λ m. next_within t (Close c m a b d)) h.1 ∙ ap (λ m. next_within t (Close c n2 m b d)) h.2
    ∙ ap (λ m. next_within t (Close c n2 a2 m d)) h.3 ∙ ap (λ m. next_within t (Close c n2 a2 b2 m)) h.4
within-same t (End n k) (End n2 k2) h = refl
within-same t r q h = absurd h

next-same : (p : Place) (r q : Row) → SameRow r q → place_after p r ≡ place_after p q
next-same Before r q h = first-same r q h
next-same (Within t) r q h = within-same t r q h
next-same Behind r q h = refl

pub collection-same : (r q : Row) → SameRow r q → collection_of r ≡ collection_of q
collection-same (Open c n name) (Open c2 n2 name2) h = h.0
collection-same (Line c i o name) (Line c2 i2 o2 name2) h = h.0
collection-same (Part c i code k) (Part c2 i2 code2 k2) h = h.0
collection-same (Engine c i e p x y k) (Engine c2 i2 e2 p2 x2 y2 k2) h = h.0
collection-same (Emits c i e code k) (Emits c2 i2 e2 code2 k2) h = h.0
collection-same (Code c rule code k) (Code c2 rule2 code2 k2) h = h.0
collection-same (Close c n a b d) (Close c2 n2 a2 b2 d2) h = h.0
collection-same (End n k) (End n2 k2) h = refl
collection-same r q h = absurd h

opened-same : (r q : Row) → SameRow r q → patterns_opened r ≡ patterns_opened q
opened-same (Open c n name) (Open c2 n2 name2) h = h.1
opened-same (Line c i o name) (Line c2 i2 o2 name2) h = refl
opened-same (Part c i code k) (Part c2 i2 code2 k2) h = refl
opened-same (Engine c i e p x y k) (Engine c2 i2 e2 p2 x2 y2 k2) h = refl
opened-same (Emits c i e code k) (Emits c2 i2 e2 code2 k2) h = refl
opened-same (Code c rule code k) (Code c2 rule2 code2 k2) h = refl
opened-same (Close c n a b d) (Close c2 n2 a2 b2 d2) h = refl
opened-same (End n k) (End n2 k2) h = refl
opened-same r q h = absurd h

section-same : (s : Reading) (r q : Row) → SameRow r q → section_step s r ≡ section_step s q
section-same s r q h =
    let c = collection_of q in
    ap (λ k. if nat_lt 0 k && nat_le k count_limit then gone_on s (k - 1) (patterns_opened r) (place_after (place_at s.places (k - 1)) r) else Nothing) (collection-same r q h)
    ∙ ap (λ n. if nat_lt 0 c && nat_le c count_limit then gone_on s (c - 1) n (place_after (place_at s.places (c - 1)) r) else Nothing) (opened-same r q h)
    ∙ ap (λ p. if nat_lt 0 c && nat_le c count_limit then gone_on s (c - 1) (patterns_opened q) p else Nothing) (next-same (place_at s.places (c - 1)) r q h)

step-same : (s : Reading) (r q : Row) → SameRow r q → step s r ≡ step s q
step-same s (Open c n name) (Open c2 n2 name2) h = section-same s (Open c n name) (Open c2 n2 name2) h
step-same s (Line c i o name) (Line c2 i2 o2 name2) h = section-same s (Line c i o name) (Line c2 i2 o2 name2) h
step-same s (Part c i code k) (Part c2 i2 code2 k2) h = section-same s (Part c i code k) (Part c2 i2 code2 k2) h
step-same s (Engine c i e p x y k) (Engine c2 i2 e2 p2 x2 y2 k2) h = section-same s (Engine c i e p x y k) (Engine c2 i2 e2 p2 x2 y2 k2) h
step-same s (Emits c i e code k) (Emits c2 i2 e2 code2 k2) h = section-same s (Emits c i e code k) (Emits c2 i2 e2 code2 k2) h
step-same s (Code c rule code k) (Code c2 rule2 code2 k2) h = section-same s (Code c rule code k) (Code c2 rule2 code2 k2) h
step-same s (Close c n a b d) (Close c2 n2 a2 b2 d2) h = section-same s (Close c n a b d) (Close c2 n2 a2 b2 d2) h
step-same s (End n k) (End n2 k2) h = ap (λ m. end_step s m k) h.0 ∙ ap (λ m. end_step s n2 m) h.1
step-same s r q h = absurd h

-- # What they say

code-same : (fields others : List Field) → SameFields fields others → has_lawful_code fields ≡ has_lawful_code others
code-same fields others h =
    let sign : (l : Label) → signed_in (value_at l fields) ≡ signed_in (value_at l others) =
    λ l. signed-same (value_at l fields) (value_at l others) (at-same l fields others h) in
    let period : ℕ = number_in (value_at label.Period fields) in
    let code : Option (List ℕ) = text_in (value_at label.Code fields) in
    let dx : ℤ = signed_in (value_at label.Dx others) in
    let dy : ℤ = signed_in (value_at label.Dy others) in
    ap (λ z. option_map_or (is_recurrence period z (signed_in (value_at label.Dy fields))) code true) (sign label.Dx)
    ∙ ap (λ z. option_map_or (is_recurrence period dx z) code true) (sign label.Dy)
    ∙ ap (λ n. option_map_or (is_recurrence n dx dy) code true) (numbers fields others h label.Period)
    ∙ ap (λ text. option_map_or (is_recurrence (number_in (value_at label.Period others)) dx dy) text true) (texts fields others h label.Code)

limits-same : (fields others : List Field) → SameFields fields others → has_lawful_numbers fields ≡ has_lawful_numbers others
limits-same fields others h =
    let same : (l : Label) → number_in (value_at l fields) ≡ number_in (value_at l others) = numbers fields others h in
    let onset : ℕ = number_in (value_at label.Onset others) in
    let period : ℕ = number_in (value_at label.Period others) in
    let cells : ℕ = number_in (value_at label.Population others) in
    let last : ℕ = number_in (value_at label.Generation fields) in
    let limits : ℕ → ℕ → ℕ → ℕ → Bool = λ c o p g. nat_le c cell_limit && (nat_le (o + p) bound_limit && nat_le g bound_limit) in
    ap (λ c. limits c (number_in (value_at label.Onset fields)) (number_in (value_at label.Period fields)) last) (same label.Population)
    ∙ ap (λ o. limits cells o (number_in (value_at label.Period fields)) last) (same label.Onset)
    ∙ ap (λ p. limits cells onset p last) (same label.Period)
    ∙ ap (limits cells onset period) (same label.Generation)

lawful-same : (r q : Row) → SameRow r q → is_lawful r ≡ is_lawful q
lawful-same (Open c n name) (Open c2 n2 name2) h = ap is_name h.2
lawful-same (Line c i o name) (Line c2 i2 o2 name2) h =
    let fs = (said o).fields in
    let gs = (said o2).fields in
    ap (λ rule. option_map_or is_rule rule true && (has_lawful_code fs && (has_lawful_engines fs && (has_lawful_fault fs && (has_lawful_numbers fs && is_name name.now))))) (texts fs gs h.2.3 label.Rule)
    ∙ ap (λ b. has_lawful_rule gs && (b && (has_lawful_engines fs && (has_lawful_fault fs && (has_lawful_numbers fs && is_name name.now))))) (code-same fs gs h.2.3)
    ∙ ap (λ b. has_lawful_rule gs && (has_lawful_code gs && (b && (has_lawful_fault fs && (has_lawful_numbers fs && is_name name.now))))) (some-same (value_at label.Engines fs) (value_at label.Engines gs) (at-same label.Engines fs gs h.2.3))
    ∙ ap (λ n. has_lawful_rule gs && (has_lawful_code gs && (has_lawful_engines gs && (nat_le n fault_limit && (has_lawful_numbers fs && is_name name.now))))) (numbers fs gs h.2.3 label.Fault)
    ∙ ap (λ b. has_lawful_rule gs && (has_lawful_code gs && (has_lawful_engines gs && (has_lawful_fault gs && (b && is_name name.now))))) (limits-same fs gs h.2.3)
    ∙ ap (λ w. has_lawful_rule gs && (has_lawful_code gs && (has_lawful_engines gs && (has_lawful_fault gs && (has_lawful_numbers gs && is_name w))))) h.3
lawful-same (Part c i code k) (Part c2 i2 code2 k2) h = ap (λ w. is_object w && nat_lt 0 k) h.2 ∙ ap (λ m. is_object code2.now && nat_lt 0 m) h.3
lawful-same (Engine c i e p x y k) (Engine c2 i2 e2 p2 x2 y2 k2) h =
    ap (λ m. is_way m x y && nat_lt 0 k) h.3 ∙ ap (λ z. is_way p2 z y && nat_lt 0 k) h.4 ∙ ap (λ z. is_way p2 x2 z && nat_lt 0 k) h.5
    ∙ ap (λ m. is_way p2 x2 y2 && nat_lt 0 m) h.6
lawful-same (Emits c i e code k) (Emits c2 i2 e2 code2 k2) h =
    ap (λ m. nat_lt 0 m && (is_object code.now && nat_lt 0 k)) h.2
    ∙ ap (λ w. nat_lt 0 e2 && (is_object w && nat_lt 0 k)) h.3
    ∙ ap (λ m. nat_lt 0 e2 && (is_object code2.now && nat_lt 0 m)) h.4
lawful-same (Code c rule code k) (Code c2 rule2 code2 k2) h =
    ap (λ w. is_rule w && (is_code code.now && nat_lt 0 k)) h.1 ∙ ap (λ w. is_rule rule2.now && (is_code w && nat_lt 0 k)) h.2
    ∙ ap (λ m. is_rule rule2.now && (is_code code2.now && nat_lt 0 m)) h.3
lawful-same (Close c n a b d) (Close c2 n2 a2 b2 d2) h = refl
lawful-same (End n k) (End n2 k2) h = refl
lawful-same r q h = absurd h

tell-same : (kind : rows.Behind) (s u : Said) → SameSaid s u → to_tell kind s ≡ to_tell kind u
tell-same behind.Nothing s u h = refl
tell-same behind.Parts s u h = numbers s.fields u.fields h.3 label.Objects
tell-same behind.Engines s u h = numbers s.fields u.fields h.3 label.Engines

line-told-same : (t : Told) (c : ℕ) (s u : Said) → SameSaid s u → line_told t c s ≡ line_told t c u
line-told-same t c s u h =
    let told : ℕ → Option Told = λ left. if is_told t then Some (record { collection = c; left = left; last = []; engine = no_engine }) else Nothing in
    ap (λ kind. told (to_tell kind s)) h.2 ∙ ap told (tell-same u.behind s u h)

told-same : (t : Told) (r q : Row) → SameRow r q → told_next t r ≡ told_next t q
told-same t (Open c n name) (Open c2 n2 name2) h = refl
told-same t (Line c i o name) (Line c2 i2 o2 name2) h = ap (λ k. line_told t k (said o)) h.0 ∙ line-told-same t c2 (said o) (said o2) h.2
told-same t (Part c i code k) (Part c2 i2 code2 k2) h =
    ap (λ m. part_told t m code.now k) h.0 ∙ ap (λ w. part_told t c2 w k) h.2 ∙ ap (λ m. part_told t c2 code2.now m) h.3
told-same t (Engine c i e p x y k) (Engine c2 i2 e2 p2 x2 y2 k2) h =
    let way : ℕ → ℤ → ℤ → Way = λ p x y. record { period = p; dx = x; dy = y } in
    ap (λ m. engine_told t m k (after_engine t.engine e (way p x y))) h.0
    ∙ ap (λ m. engine_told t c2 k (after_engine t.engine m (way p x y))) h.2
    ∙ ap (λ m. engine_told t c2 k (after_engine t.engine e2 (way m x y))) h.3
    ∙ ap (λ z. engine_told t c2 k (after_engine t.engine e2 (way p2 z y))) h.4
    ∙ ap (λ z. engine_told t c2 k (after_engine t.engine e2 (way p2 x2 z))) h.5
    ∙ ap (λ m. engine_told t c2 m (after_engine t.engine e2 (way p2 x2 y2))) h.6
told-same t (Emits c i e code k) (Emits c2 i2 e2 code2 k2) h =
    ap (λ m. emits_told t m e code.now k) h.0 ∙ ap (λ m. emits_told t c2 m code.now k) h.2
    ∙ ap (λ w. emits_told t c2 e2 w k) h.3 ∙ ap (λ m. emits_told t c2 e2 code2.now m) h.4
told-same t (Code c rule code k) (Code c2 rule2 code2 k2) h = refl
told-same t (Close c n a b d) (Close c2 n2 a2 b2 d2) h = refl
told-same t (End n k) (End n2 k2) h = refl
told-same t r q h = absurd h

pub after-same : (t : Told) (r q : Row) → SameRow r q → told_after t r ≡ told_after t q
after-same t r q h =
    ap (λ (b : Bool). if b then told_next t r else Nothing) (lawful-same r q h) ∙ ap (λ (o : Option Told). if is_lawful q then o else Nothing) (told-same t r q h)

-- # Rows one after another

abbrev pub stepping : Told → ℕ → List Row → Option Reading → Option ℕ
stepping u n rows o = elim o as (λ _. Option ℕ) [ Nothing ↦ Some n | Some t ↦ first_stray u t (n + 1) rows ]

abbrev pub telling : Reading → ℕ → Row → List Row → Option Told → Option ℕ
telling s n r rows o = elim o as (λ _. Option ℕ) [ Nothing ↦ Some n | Some u ↦ stepping u n rows (step s r) ]

pub stray-same : (v : Told) (s : Reading) (n : ℕ) (xs ys : List Row) → SameRows xs ys → first_stray v s n xs ≡ first_stray v s n ys
stray-same v s n [] [] h = refl
stray-same v s n [] (y ∷ ys) h = absurd h
stray-same v s n (x ∷ xs) [] h = absurd h
stray-same v s n (x ∷ xs) (y ∷ ys) h =
    let on : (u : Told) (o : Option Reading) → stepping u n xs o ≡ stepping u n ys o =
    λ u o. elim o as (λ o. stepping u n xs o ≡ stepping u n ys o) [
      | Nothing ↦ refl
      | Some t ↦ stray-same u t (n + 1) xs ys h.1
    ] in
    let each : (o : Option Told) → telling s n x xs o ≡ telling s n y ys o =
    λ o. elim o as (λ o. telling s n x xs o ≡ telling s n y ys o) [
      | Nothing ↦ refl
      | Some u ↦ ap (stepping u n xs) (step-same s x y h.0) ∙ on u (step s y)
    ] in
    ap (telling s n x xs) (after-same v x y h.0) ∙ each (told_after v y)
