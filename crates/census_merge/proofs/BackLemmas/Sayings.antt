-- What a `line` row and the rows behind it say of a pattern.
use Rattle.std.proofs.Common.{◌≡◌, ℕ, ◌+◌, ◌<◌, ◌≤◌, ◌^◌, Bool, true, ◌&&◌, cond, eqb, ltb, leb, Some, None as Nothing, List, [], ◌∷◌, map, length, ap, sym, subst, refl, arith}
use Rattle.std.specs.Borrow.{Bor}
use Rattle.std.specs.List.{AllByRecursion as Each}
use Rattle.std.specs.Option.{option_map}
use Rattle.std.specs.Prelude.{unsigned_abs}
use Rattle.std.specs.Ordering.{is_lt}
use Rattle.std.proofs.lemmas.Bool.{and_parts, eqb-true, leb-true, ltb-true}
use Rattle.census_bundle.specs.Names.{is_name}
use Rattle.census_format.specs.Found.{lent}
use Rattle.census_format.specs.Lines.{Group, Saying, pattern_row, rows_behind, saying_rows}
use Rattle.census_readback.proofs.Telling.{told-first}
use Rattle.census_readback.specs.Codes.{has_cells, is_code, is_object}
use Rattle.census_readback.specs.Counts.{Counts, line_counted}
use Rattle.census_readback.specs.Engines.{after_emits, no_engine}
use Rattle.census_readback.specs.Lawful.{has_lawful_code, has_lawful_engines, has_lawful_fault, has_lawful_numbers, is_lawful, is_recurrence}
use Rattle.census_readback.specs.Limits.{fault_limit}
use Rattle.census_readback.specs.Limits.{period_limit}
use Rattle.census_readback.specs.Rules.{is_rule}
use Rattle.census_readback.specs.Texts.{AllLines, IsLine}
use Rattle.census_readback.specs.Told.{Told, is_told, to_tell, told_by, with_engine}
use Rattle.census_rows.specs.Kinds.{said}
use Rattle.census_rows.specs.Lines.{spelling}
use Rattle.census_rows.specs.declared.kinds.Behind.{Behind}
use Rattle.census_rows.specs.declared.kinds.Behind.TheVariants as behind
use Rattle.census_rows.specs.declared.kinds.Field.{Field}
use Rattle.census_rows.specs.declared.row.Finding.{Finding}
use Rattle.census_rows.specs.declared.row.Finding.TheVariants as finding
use Rattle.census_rows.specs.declared.row.Outcome.{Outcome}
use Rattle.census_rows.specs.declared.row.Outcome.TheVariants as outcomes
use Rattle.census_rows.specs.declared.row.Row.{Row}
use Rattle.census_rows.specs.declared.row.Row.TheVariants.{Open, Line, Part, Engine, Emits, Code, Close, End}
use Rattle.life_answer.specs.Parts.{objects_in}
use Rattle.life_answer.specs.declared.finding.Answer.{Answer}
use Rattle.life_answer.specs.declared.finding.Answer.TheVariants.{Found, Refused}
use Rattle.life_answer.specs.declared.finding.Outcome as becomes
use Rattle.life_answer.specs.declared.finding.Outcome.TheVariants.{Recurs, Unresolved, Large, Ash, Grows}
use Rattle.life_answer.specs.declared.part.Part as part
use Rattle.life_answer.specs.declared.tale.Engines.{Engines}
use Rattle.life_model.specs.Rule.{Rule}
use Rattle.life_cells.specs.Rules.{rule_text}
use Rattle.life_cells.specs.TextOrder.{shorter_cmp}
use Rattle.life_objects.proofs.DecidedLemmas.Tests.{abs_small}
use Rattle.census_merge.specs.Ranges.{FitsEmitted, FitsEngines, IsCodedPart, IsToldAnswer}
use Rattle.census_merge.proofs.BackLemmas.Agree.{Agree, agree-none, agree-one}
use Rattle.census_merge.proofs.BackLemmas.Engines.{AreEngineRows, BeginsEngine, engines-back}
use Rattle.census_merge.proofs.BackLemmas.Parts.{ArePartRows, if-told, parts-back, taken}
use Rattle.census_merge.proofs.BackLemmas.Rules.{RuleBack, rule-back}
use Rattle.census_merge.proofs.BackLemmas.Unfed.{row-unfed, tight}
use Rattle.census_merge.proofs.Engined.{IsLawfulEmitted}
use Rattle.census_merge.proofs.Grown.{ascend-back, line_of}
use Rattle.census_merge.proofs.Growing.{AllBehind, IsLawfulLine}
use Rattle.census_merge.proofs.Told.{IsLawfulPart}
use Rattle.census_merge.specs.Lawful.{AreFairParts, Ascend, IsCodePart, IsCodedAnswer, IsCounted, IsFairAnswer, IsLifeLikeAnswer, IsSayable, Rise}

-- what the rows of a group say of the pattern i of the collection c
pub record SayingBack (c i : ℕ) (group : Group) : Type 0 where
  pub saying : Saying
  pub same : Agree group (saying_rows c i saying)
  pub sayable : IsSayable saying
  pub ruled : IsLifeLikeAnswer saying.found
  pub told : IsToldAnswer saying.found
  pub fair : IsFairAnswer saying.found

-- the rows behind a line are of its kind, and of its pattern
abbrev pub AreBehind : Behind → ℕ → List Row → Type 0
AreBehind behind.Nothing i rows = rows ≡ []
AreBehind behind.Parts i rows = ArePartRows i rows
AreBehind behind.Engines i rows = AreEngineRows i rows

-- what is told after a line
abbrev pub begun : ℕ → Outcome → Told
begun c o = record { collection = c; left = to_tell (said o).behind (said o); last = []; engine = no_engine }

abbrev saying : List ℕ → Answer → Saying
saying name found = record { name = name; found = found }

abbrev found_with : Rule → ℕ → becomes.Outcome → Answer
found_with rule population outcome = Found rule (record { population = population; outcome = outcome })

-- a group whose first row is that of what is found, but for where its bytes are, and whose others are those behind it
made : (c i : ℕ) (o : Outcome) (name : Bor (List ℕ)) (rows : List Row) (found : Answer)
    → Agree (Line c i o name ∷ []) (pattern_row c i found name.now ∷ []) → Agree rows (rows_behind c i found) → is_name name.now ≡ true
    → IsCodedAnswer found → IsLifeLikeAnswer found → IsToldAnswer found → IsFairAnswer found → SayingBack c i (Line c i o name ∷ rows)
unfolding saying_rows
made c i o name rows found first others named coded ruled told fair = record {
  saying = saying name.now found;
  same = agree-one (Line c i o name) (pattern_row c i found name.now) rows (rows_behind c i found) first others;
  sayable = (named, coded);
  ruled = ruled;
  told = told;
  fair = fair;
}

-- the row of a finding, with the text of its rule
line-with : (c i population : ℕ) (f : Finding) (name : Bor (List ℕ)) (g : Finding) (rule : Bor (List ℕ)) (text : List ℕ) → text ≡ rule.now
    → Agree (Line c i (outcomes.Found rule population f) name ∷ []) (Line c i (outcomes.Found (lent rule.now) population g) (lent name.now) ∷ [])
    → Agree (Line c i (outcomes.Found rule population f) name ∷ []) (Line c i (outcomes.Found (lent text) population g) (lent name.now) ∷ [])
line-with c i population f name g rule text is =
    subst (λ w. Agree (Line c i (outcomes.Found rule population f) name ∷ []) (Line c i (outcomes.Found (lent w) population g) (lent name.now) ∷ [])) (sym is)

coded-parts : (parts : List part.Part) → Each IsLawfulPart parts → Each IsCodedPart parts × Each IsCounted parts × Each IsCodePart parts
coded-parts [] h = (tt, tt, tt)
coded-parts (p ∷ parts) h =
    let more = coded-parts parts h.1 in
    let both = and_parts (is_code p.code) (has_cells p.code) h.0.1 in
    ((both.1, more.0), (h.0.0, more.1), ((λ some. both.0), more.2))

emitted-parts : (parts : List part.Part) → Each IsLawfulEmitted parts → Each IsCounted parts × Each IsCodePart parts
emitted-parts [] h = (tt, tt)
emitted-parts (p ∷ parts) h =
    let more = emitted-parts parts h.1 in
    ((h.0.0, more.0), ((λ some. (and_parts (is_code p.code) (has_cells p.code) h.0.1).0), more.1))

rise-any : (parts : List part.Part) → Rise (Some []) parts → Rise Nothing parts
rise-any [] h = tt
rise-any (p ∷ parts) h = (tt, h.1)

some-objects : (parts : List part.Part) → 0 < length parts → Each IsCounted parts → 1 ≤ objects_in parts
some-objects [] h k = absurd (omega (arith, h))
some-objects (p ∷ parts) h k = (let one = k.0 in omega (arith, one))

engine-fits : (line : Engines) → IsLawfulLine (line_of line) → Each FitsEmitted line.tale.emits → FitsEngines line
engine-fits line h k =
    let t = line.tale in
    let one = and_parts (ltb 0 t.period) (leb t.period period_limit && (leb (unsigned_abs t.dx) t.period && leb (unsigned_abs t.dy) t.period)) h.0 in
    let two = and_parts (leb t.period period_limit) (leb (unsigned_abs t.dx) t.period && leb (unsigned_abs t.dy) t.period) one.1 in
    let three = and_parts (leb (unsigned_abs t.dx) t.period) (leb (unsigned_abs t.dy) t.period) two.1 in
    let across = abs_small t.dx t.period (leb-true (unsigned_abs t.dx) t.period three.0) in
    let down = abs_small t.dy t.period (leb-true (unsigned_abs t.dy) t.period three.1) in (
      record {
        some = h.1;
        later = ltb-true 0 t.period one.0;
        soon = leb-true t.period period_limit two.0;
        left = across.0;
        right = across.1;
        above = down.0;
        below = down.1;
        emits = some-objects t.emits h.2 (emitted-parts t.emits h.4).0;
      },
      k,
      h.5,
    )

engines-fit : (lines : List Engines) → Each IsLawfulLine (map line_of lines) → Each (λ (line : Engines). Each FitsEmitted line.tale.emits) lines → Each FitsEngines lines
engines-fit [] h k = tt
engines-fit (line ∷ lines) h k = (engine-fits line h.0 k.0, engines-fit lines h.1 k.1)

engines-fair : (lines : List Engines) → Each IsLawfulLine (map line_of lines) → Each (λ (line : Engines). AreFairParts line.tale.emits) lines
engines-fair [] h = tt
engines-fair (line ∷ lines) h =
    (let emits = emitted-parts line.tale.emits h.0.4 in ((rise-any line.tale.emits h.0.3, emits.0, emits.1), engines-fair lines h.1))

ascends : (lines : List Engines) → AllBehind no_engine.way no_engine.emits (map line_of lines) → Ascend lines
ascends [] h = tt
ascends (line ∷ lines) h = ascend-back line lines h.1

-- after a line that grows the first row is that of an engine
begins : (c i : ℕ) (t u : Told) (rows : List Row) → t.engine.number ≡ 0 → told_by t rows ≡ Some u → AreEngineRows i rows → BeginsEngine rows
begins c i t u [] number h own = tt
begins c i t u (Engine d j e p x y n ∷ rows) number h own = tt
begins c i t u (Emits d j e code n ∷ rows) number h own =
    let row = Emits d j e code n in
    let first = told-first t u row rows h in
    let one = taken t first.0 row first.1 in
    let law = and_parts (ltb 0 e) (is_object code.now && ltb 0 n) one.0 in
    let engine = after_emits t.engine (record { code = code.now; count = n }) in
    let fit = if-told (eqb d t.collection && (eqb e t.engine.number && is_lt (shorter_cmp t.last code.now))) (option_map (with_engine t t.left code.now) engine) first.0 one.1 in
    let owner = and_parts (eqb d t.collection) (eqb e t.engine.number && is_lt (shorter_cmp t.last code.now)) fit.0 in
    let same = and_parts (eqb e t.engine.number) (is_lt (shorter_cmp t.last code.now)) owner.1 in
    let some = ltb-true 0 e law.0 in
    let is = eqb-true e t.engine.number same.0 in
    absurd (omega (arith, number, some, is))
begins c i t u (Open d k name ∷ rows) number h own = absurd own
begins c i t u (Line d j o name ∷ rows) number h own = absurd own
begins c i t u (Part d j code k ∷ rows) number h own = absurd own
begins c i t u (Code d rule code k ∷ rows) number h own = absurd own
begins c i t u (Close d k a b x ∷ rows) number h own = absurd own
begins c i t u (End k p ∷ rows) number h own = absurd own

-- two `line` rows that are spelled alike
one-line : (c i : ℕ) (o p : Outcome) (name : Bor (List ℕ)) → spelling (Line c i o name) ≡ spelling (Line c i p (lent name.now))
    → ((k : Counts) → line_counted k (said o) ≡ line_counted k (said p)) → (said o).class ≡ (said p).class
    → Agree (Line c i o name ∷ []) (Line c i p (lent name.now) ∷ [])
one-line c i o p name spelled counts class = record {
  spelled = ap (λ s. s ∷ []) spelled;
  counts = counts;
  lines = λ kind same. ap (λ v. cond v 1 0 + 0) (same o p class);
}

module _ (c i : ℕ) (name : Bor (List ℕ)) (rows : List Row) (u : Told) (lines : AllLines rows) (told : is_told u ≡ true) where
  none-behind : (found : Answer) → rows ≡ [] → rows_behind c i found ≡ [] → Agree rows (rows_behind c i found)
  none-behind found e f = subst (λ w. Agree rows w) (sym f) (subst (λ w. Agree w []) (sym e) agree-none)

  -- its numbers are lawful, and so is the name
  abbrev ends : List Field → Bool
  ends fields = has_lawful_numbers fields && is_name name.now

  -- a finding of a rule
  module _ (rule : Bor (List ℕ)) (population : ℕ) (back : RuleBack rule.now) where
    pub found-back : (f : Finding) → IsLine (Line c i (outcomes.Found rule population f) name) → (has_lawful_code (said (outcomes.Found rule population f)).fields && (has_lawful_engines (said (outcomes.Found rule population f)).fields && (has_lawful_fault (said (outcomes.Found rule population f)).fields && ends (said (outcomes.Found rule population f)).fields))) ≡ true
        → told_by (begun c (outcomes.Found rule population f)) rows ≡ Some u → AreBehind (said (outcomes.Found rule population f)).behind i rows
        → SayingBack c i (Line c i (outcomes.Found rule population f) name ∷ rows)
    found-back (finding.Ok onset period dx dy code) line lawful tells own =
        let f = finding.Ok onset period dx dy code in
        let o = outcomes.Found rule population f in
        let law = and_parts (is_recurrence period dx dy code.now) (ends (said o).fields) lawful in
        let last = and_parts (has_lawful_numbers (said o).fields) (is_name name.now) law.1 in
        let h = line.0.2 in
        let found = found_with back.rule population (Recurs onset period dx dy code.now) in
        made c i o name rows found
        (line-with c i population f name (finding.Ok onset period dx dy (lent code.now)) rule (rule_text back.rule) back.is (one-line c i o (outcomes.Found (lent rule.now) population (finding.Ok onset period dx dy (lent code.now))) name refl (λ k. refl) refl))
        (none-behind found own refl) last.1 (tight code.now h.1.1.1.1.1.1.0.1 (row-unfed (Line c i o name) line.1).1.1.1.1.1.1.1.1.1.0) back.ruled
        (last.0, ((h.1.1.0, (h.1.1.1.0, (h.1.1.1.1.0, (h.1.1.1.1.1.0, (h.1.1.1.1.1.1.0.0, tt))))), tt, tt)) law.0
    found-back finding.Unresolved line lawful tells own =
        let o = outcomes.Found rule population finding.Unresolved in
        let last = and_parts (has_lawful_numbers (said o).fields) (is_name name.now) lawful in
        let found = found_with back.rule population Unresolved in
        made c i o name rows found
        (line-with c i population finding.Unresolved name finding.Unresolved rule (rule_text back.rule) back.is (one-line c i o (outcomes.Found (lent rule.now) population finding.Unresolved) name refl (λ k. refl) refl))
        (none-behind found own refl) last.1 tt back.ruled (last.0, (tt, tt, tt)) tt
    found-back (finding.Large generation) line lawful tells own =
        let f = finding.Large generation in
        let o = outcomes.Found rule population f in
        let h = line.0.2 in
        let last = and_parts (has_lawful_numbers (said o).fields) (is_name name.now) lawful in
        let found = found_with back.rule population (Large generation) in
        made c i o name rows found
        (line-with c i population f name f rule (rule_text back.rule) back.is (one-line c i o (outcomes.Found (lent rule.now) population f) name refl (λ k. refl) refl))
        (none-behind found own refl) last.1 tt back.ruled (last.0, ((h.1.1.0, tt), tt, tt)) tt
    found-back (finding.Ash onset objects) line lawful tells own =
        let f = finding.Ash onset objects in
        let o = outcomes.Found rule population f in
        let h = line.0.2 in
        let b = parts-back i rows (begun c o) u tells told own lines in
        let coded = coded-parts b.parts b.lawful in
        let last = and_parts (has_lawful_numbers (said o).fields) (is_name name.now) lawful in
        let found = found_with back.rule population (Ash onset b.parts) in
        let first = line-with c i population f name f rule (rule_text back.rule) back.is (one-line c i o (outcomes.Found (lent rule.now) population f) name refl (λ k. refl) refl) in
        made c i o name rows found
        (subst (λ n. Agree (Line c i o name ∷ []) (Line c i (outcomes.Found (lent (rule_text back.rule)) population (finding.Ash onset n)) (lent name.now) ∷ [])) (sym b.all) first)
        b.same last.1 b.solid back.ruled
        (last.0, ((h.1.1.0, (subst (λ n. n < 2 ^ 64) (sym b.all) h.1.1.1.0, tt)), coded.0, tt)) (rise-any b.parts b.rise, coded.1, coded.2)
    found-back (finding.Grows engines) line lawful tells own =
        let f = finding.Grows engines in
        let o = outcomes.Found rule population f in
        let h = line.0.2 in
        let law = and_parts (ltb 0 engines) (ends (said o).fields) lawful in
        let last = and_parts (has_lawful_numbers (said o).fields) (is_name name.now) law.1 in
        let b = engines-back (length rows) i rows (omega arith) (begun c o) u tells told own lines (begins c i (begun c o) u rows refl tells own) in
        let found = found_with back.rule population (Grows b.engines) in
        let first = line-with c i population f name f rule (rule_text back.rule) back.is (one-line c i o (outcomes.Found (lent rule.now) population f) name refl (λ k. refl) refl) in
        let some = ltb-true 0 engines law.0 in
        let all = b.all in
        made c i o name rows found
        (subst (λ n. Agree (Line c i o name ∷ []) (Line c i (outcomes.Found (lent (rule_text back.rule)) population (finding.Grows n)) (lent name.now) ∷ [])) (sym b.all) first)
        b.same last.1 b.solid back.ruled
        (last.0, ((subst (λ n. n < 2 ^ 64) (sym b.all) h.1.1.0, tt), tt, engines-fit b.engines b.lawful b.fits))
        (record { some = omega (arith, some, all); rise = ascends b.engines b.behind; emits = engines-fair b.engines b.lawful })

  pub line-back : (o : Outcome) → IsLine (Line c i o name) → is_lawful (Line c i o name) ≡ true → told_by (begun c o) rows ≡ Some u → AreBehind (said o).behind i rows
      → SayingBack c i (Line c i o name ∷ rows)
  line-back (outcomes.Found rule population f) line lawful tells own =
      let fields = (said (outcomes.Found rule population f)).fields in
      let law = and_parts (is_rule rule.now) (has_lawful_code fields && (has_lawful_engines fields && (has_lawful_fault fields && ends fields))) lawful in
      found-back rule population (rule-back rule.now law.0) f line law.1 tells own
  line-back (outcomes.Bad fault) line lawful tells own =
      let law = and_parts (leb fault fault_limit) (is_name name.now) lawful in
      made c i (outcomes.Bad fault) name rows (Refused fault) (one-line c i (outcomes.Bad fault) (outcomes.Bad fault) name refl (λ k. refl) refl)
      (none-behind (Refused fault) own refl) law.1 tt tt line.0.2.0 (leb-true fault fault_limit law.0)
