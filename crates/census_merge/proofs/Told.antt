-- The rows of a report say together what the rows of a report say.
use Rattle.std.proofs.Common.{◌≡◌, ℕ, ℤ, zero, suc, ◌+◌, ◌-◌, ◌<◌, ◌≤◌, Bool, true, false, ◌&&◌, cond, eqb, leb, ltb, Some, None as Nothing, List, [], ◌∷◌, ◌++◌, map, length, count_by, replicate, slice_get, Less, ap, ◌∙◌, sym, subst, refl, arith}
use Rattle.std.proofs.lemmas.List.Sums.{sum_by-cons}
use Rattle.std.specs.List.{AllByRecursion as Each}
use Rattle.std.proofs.lemmas.Bool.{and_from, eq-eqb, le-leb, lt-ltb}
use Rattle.std.specs.Ordering.{is_lt}
use Rattle.census_bundle.specs.Names.{is_name}
use Rattle.census_format.specs.Found.{outcome_of, lent}
use Rattle.census_format.specs.Lines.{Collection, Saying, Group, found_of, outcome_rows, part_row, pattern_row, rows_behind, rows_of_engines, saying_lines, saying_rows}
use Rattle.census_format.specs.Objects.{Object, distinct_elements, object, objects, outcome_objects, part_objects, same_object}
use Rattle.census_format.specs.ObjectLaws.{same_itself}
use Rattle.census_format.specs.Reports.{Owned, lines_of, section, section_if, section_of}
use Rattle.census_readback.specs.Told.{Told, is_told, line_told, nothing_told, part_told, told_by, told_next, to_tell}
use Rattle.census_readback.specs.Engines.{LastEngine, no_engine}
use Rattle.census_readback.specs.Lawful.{has_lawful_numbers, is_lawful, is_recurrence}
use Rattle.census_readback.specs.Limits.{fault_limit}
use Rattle.census_readback.specs.Codes.{is_code, is_object}
use Rattle.census_readback.specs.Rules.{is_rule}
use Rattle.life_cells.specs.Rules.{rule_text}
use Rattle.census_rows.specs.declared.row.Row.{Row}
use Rattle.census_rows.specs.declared.row.Row.TheVariants.{Line, End}
use Rattle.census_rows.specs.declared.row.Outcome as rows
use Rattle.census_rows.specs.Kinds.{Said, said}
use Rattle.life_answer.specs.CountedTales.{engines_in}
use Rattle.life_answer.specs.Parts.{objects_in}
use Rattle.life_answer.specs.declared.finding.Answer.{Answer}
use Rattle.life_answer.specs.declared.finding.Answer.TheVariants.{Found, Refused}
use Rattle.life_answer.specs.declared.finding.Finding.{Finding}
use Rattle.life_answer.specs.declared.finding.Outcome.{Outcome}
use Rattle.life_answer.specs.declared.finding.Outcome.TheVariants.{Recurs, Unresolved, Large, Ash, Grows}
use Rattle.life_answer.specs.declared.part.Part as part
use Rattle.life_answer.specs.declared.tale.Engines.{Engines}
use Rattle.life_model.specs.Rule.{Rule}
use Rattle.life_cells.specs.TextOrder.{shorter_cmp}
use Rattle.census_merge.specs.Telling.{rows_in}
use Rattle.census_merge.specs.Ranges.{FitsEngines, FitsOutcome, IsCodedPart, IsToldAnswer, fields_of}
use Rattle.census_merge.proofs.Coded.{counted-each, distinct-each}
use Rattle.census_merge.proofs.Grouped.{each-then}
use Rattle.census_merge.proofs.CodeTexts.{recurrence-code}
use Rattle.census_merge.proofs.Grown as grown
use Rattle.census_merge.proofs.Grown.{engines-are, first-behind, lines-lawful, rows-are}
use Rattle.census_merge.proofs.Growing.{AllBehind, engines-told}
use Rattle.census_merge.proofs.ObjectCodes.{cells-object}
use Rattle.census_merge.proofs.PartsFound.{rise-some}
use Rattle.census_merge.proofs.Ranged.{HasObjectCode, objects-some}
use Rattle.census_merge.proofs.Ruled.{IsLifeLikeObject, objects-ruled, rule-printed}
use Rattle.census_merge.proofs.Rowed.{close_row, code_groups, code_row, code-is, counted_in, open_row, row_outcome, section-is}
use Rattle.census_merge.proofs.Taken.{fits, told-one, told-then}
use Rattle.census_merge.proofs.Solid.{each-append, each-replicate}
use Rattle.census_merge.specs.Lawful.{AreSayable, IsCodeIfSome, IsCodePart, IsCounted, IsFair, IsFairAnswer, IsFairGrowth, IsLawfulCollection, IsLifeLike, IsLifeLikeAnswer, IsSayable, IsSayableCollection, Rise}

-- ---- what is told between groups

-- all objects or engines of the last line are told before these rows and after them
record Passes (t : Told) (rows : List Row) : Type 0 where
  after : Told
  tells : told_by t rows ≡ Some after
  calm : is_told after ≡ true

abbrev IsTold : List Row → Type 0
IsTold rows = (t : Told) → is_told t ≡ true → Passes t rows

-- after a row that says nothing of a pattern
abbrev past : Told → Told
past t = record t { engine = no_engine }

no-more : (t : Told) → is_told t ≡ true → cond (is_told t) (Some (past t)) Nothing ≡ Some (past t)
no-more t h = ap (λ b. cond b (Some (past t)) Nothing) h

past-told : (a b : Bool) → (a && b) ≡ true → (a && true) ≡ true
past-told true b h = refl
past-told false b h = h

-- a lawful row that says nothing of a pattern
plain : (row : Row) → is_lawful row ≡ true → ((t : Told) → is_told t ≡ true → told_next t row ≡ Some (past t)) → IsTold (row ∷ [])
plain row lawful same t calm = record {
  after = past t;
  tells = told-one t (past t) row [] (fits t (past t) row lawful (same t calm));
  calm = past-told (eqb t.left 0) t.engine.rises calm;
}

-- ---- parts

abbrev with_left : Told → ℕ → List ℕ → Told
with_left t left last = record t { left = left; last = last }

-- a part whose row is lawful
abbrev pub IsLawfulPart : part.Part → Type 0
IsLawfulPart p = IsCounted p × (is_object p.code ≡ true)

part-lawful : (c i : ℕ) (p : part.Part) → IsLawfulPart p → is_lawful (part_row c i p) ≡ true
part-lawful c i p h = ap (λ b. b && ltb 0 p.count) h.1 ∙ lt-ltb 0 p.count h.0

-- a part that comes after its line
part-fits : (t : Told) (c : ℕ) (code : List ℕ) (count : ℕ) → c ≡ t.collection → count ≤ t.left → shorter_cmp t.last code ≡ Less
    → part_told t c code count ≡ Some (record t { left = t.left - count; last = code })
part-fits t c code count owner few later =
    let u : Told = record t { left = t.left - count; last = code } in
    ap (λ b. cond (b && (leb count t.left && is_lt (shorter_cmp t.last code))) (Some u) Nothing) (eq-eqb c t.collection owner)
    ∙ ap (λ b. cond (b && is_lt (shorter_cmp t.last code)) (Some u) Nothing) (le-leb count t.left few)
    ∙ ap (λ o. cond (is_lt o) (Some u) Nothing) later

parts-told : (c i : ℕ) (parts : List part.Part) (t : Told) → t.collection ≡ c → t.left ≡ objects_in parts → t.engine.rises ≡ true
    → Rise (Some t.last) parts → Each IsLawfulPart parts → Passes t (map (part_row c i) parts)
parts-told c i [] t owner left rises rise counted = record { after = t; tells = refl; calm = ap (λ b. b && t.engine.rises) (eq-eqb t.left 0 left) ∙ rises }
parts-told c i (p ∷ parts) t owner left rises rise counted =
    let few : p.count ≤ t.left = omega (arith, left) in
    let u : Told = record t { left = t.left - p.count; last = p.code } in
    let rest : t.left - p.count ≡ objects_in parts = omega (arith, left) in
    let one = told-one t u (part_row c i p) (map (part_row c i) parts)
    (fits t u (part_row c i p) (part-lawful c i p counted.0) (part-fits t c p.code p.count (sym owner) few rise.0)) in
    let others = parts-told c i parts u owner rest rises rise.1 counted.1 in
    record { after = others.after; tells = one ∙ others.tells; calm = others.calm }

-- ---- lines

record Lined (t : Told) (c : ℕ) (what : Said) : Type 0 where
  after : Told
  told : line_told t c what ≡ Some after
  collection : after.collection ≡ c
  left : after.left ≡ to_tell what.behind what
  last : after.last ≡ []
  fresh : after.engine ≡ no_engine

lined : (t : Told) (c : ℕ) (what : Said) → is_told t ≡ true → Lined t c what
lined t c what calm =
    let next : Told = record { collection = c; left = to_tell what.behind what; last = []; engine = no_engine } in
    record {
      after = next;
      told = ap (λ z. cond z (Some next) Nothing) calm;
      collection = refl;
      left = refl;
      last = refl;
      fresh = refl;
    }

-- a line and its parts
line-told : (c i : ℕ) (o : rows.Outcome) (name : List ℕ) (parts : List part.Part) → is_lawful (Line c i o (lent name)) ≡ true
    → to_tell (said o).behind (said o) ≡ objects_in parts → Rise (Some []) parts → Each IsLawfulPart parts
    → IsTold (Line c i o (lent name) ∷ map (part_row c i) parts)
line-told c i o name parts lawful all rise counted t calm =
    let row = Line c i o (lent name) in
    let one = lined t c (said o) calm in
    let behind : Rise (Some one.after.last) parts = subst (λ w. Rise (Some w) parts) (sym one.last) rise in
    let rises = ap (λ (e : LastEngine). e.rises) one.fresh in
    let others = parts-told c i parts one.after one.collection (one.left ∙ all) rises behind counted in
    record {
      after = others.after;
      tells = told-one t one.after row (map (part_row c i) parts) (fits t one.after row lawful one.told) ∙ others.tells;
      calm = others.calm;
    }

-- a line of growth, and the rows of its engines
grows-told : (c i : ℕ) (o : rows.Outcome) (name : List ℕ) (engines : List Engines)
    → is_lawful (Line c i o (lent name)) ≡ true → to_tell (said o).behind (said o) ≡ engines_in engines
    → Each FitsEngines engines → IsFairGrowth engines → IsTold (Line c i o (lent name) ∷ rows_of_engines c i 1 engines)
grows-told c i o name engines lawful all range fair t calm =
    let row = Line c i o (lent name) in
    let one = lined t c (said o) calm in
    let lines = map grown.line_of engines in
    let first : (e : LastEngine) → no_engine ≡ e → AllBehind e.way e.emits lines =
    λ e is. subst (λ (e : LastEngine). AllBehind e.way e.emits lines) is (first-behind engines fair.rise range) in
    let others = engines-told c i 1 lines one.after one.collection (one.left ∙ all ∙ sym (engines-are engines))
    (ap (λ (e : LastEngine). e.rises) one.fresh) (ap (λ (e : LastEngine). e.number + 1) (sym one.fresh)) (first one.after.engine (sym one.fresh))
    (lines-lawful engines range fair.emits) in
    record {
      after = others.after;
      tells = told-one t one.after row (rows_of_engines c i 1 engines) (fits t one.after row lawful one.told)
          ∙ ap (told_by one.after) (sym (rows-are c i 1 engines)) ∙ others.tells;
      calm = others.told;
    }

growing-line : (rule : Rule) (last : Bool) (n : ℕ) → IsLifeLike rule → 1 ≤ n → last ≡ true → (is_rule (rule_text rule) && (ltb 0 n && last)) ≡ true
growing-line rule last n ruled some ends =
    ap (λ b. b && (ltb 0 n && last)) (rule-printed rule ruled) ∙ ap (λ b. b && last) (lt-ltb 0 n some) ∙ ends

plain-line : (rule : Rule) (last : Bool) → IsLifeLike rule → last ≡ true → (is_rule (rule_text rule) && last) ≡ true
plain-line rule last ruled ends = ap (λ b. b && last) (rule-printed rule ruled) ∙ ends

coded-line : (rule : Rule) (last : Bool) (period : ℕ) (dx dy : ℤ) (code : List ℕ) → IsLifeLike rule → is_recurrence period dx dy code ≡ true → last ≡ true
    → (is_rule (rule_text rule) && (is_recurrence period dx dy code && last)) ≡ true
coded-line rule last period dx dy code ruled told ends =
    ap (λ b. b && (is_recurrence period dx dy code && last)) (rule-printed rule ruled) ∙ ap (λ b. b && last) told ∙ ends

parts-lawful : (parts : List part.Part) → Each IsCounted parts → Each IsCodePart parts → Each IsCodedPart parts → Each IsLawfulPart parts
parts-lawful [] counted told some = tt
parts-lawful (p ∷ parts) counted told some = ((counted.0, cells-object p.code told.0 some.0), parts-lawful parts counted.1 told.1 some.1)

-- its numbers are lawful, and so is the name
abbrev ends_line : Finding → List ℕ → Bool
ends_line finding name = has_lawful_numbers (fields_of finding) && is_name name

outcome-told : (c i : ℕ) (rule : Rule) (population : ℕ) (outcome : Outcome) (name : List ℕ) → IsLifeLike rule
    → ends_line (record { population = population; outcome = outcome }) name ≡ true → FitsOutcome outcome → IsFair outcome
    → IsTold (Line c i (row_outcome rule population outcome) (lent name) ∷ outcome_rows c i outcome)
outcome-told c i rule population (Recurs onset period dx dy code) name ruled ends range fair =
    line-told c i (row_outcome rule population (Recurs onset period dx dy code)) name []
    (coded-line rule (ends_line (record { population = population; outcome = Recurs onset period dx dy code }) name) period dx dy code ruled fair ends) refl tt tt
outcome-told c i rule population Unresolved name ruled ends range fair =
    line-told c i (row_outcome rule population Unresolved) name []
    (plain-line rule (ends_line (record { population = population; outcome = Unresolved }) name) ruled ends) refl tt tt
outcome-told c i rule population (Large n) name ruled ends range fair =
    line-told c i (row_outcome rule population (Large n)) name []
    (plain-line rule (ends_line (record { population = population; outcome = Large n }) name) ruled ends) refl tt tt
outcome-told c i rule population (Ash onset parts) name ruled ends range fair =
    line-told c i (row_outcome rule population (Ash onset parts)) name parts
    (plain-line rule (ends_line (record { population = population; outcome = Ash onset parts }) name) ruled ends) refl
    (rise-some parts fair.0 range.1) (parts-lawful parts fair.1 fair.2 range.1)
outcome-told c i rule population (Grows engines) name ruled ends range fair =
    grows-told c i (row_outcome rule population (Grows engines)) name engines
    (growing-line rule (ends_line (record { population = population; outcome = Grows engines }) name) (engines_in engines) ruled fair.some ends) refl range.2 fair

answer-told : (c i : ℕ) (found : Answer) (name : List ℕ) → is_name name ≡ true → IsLifeLikeAnswer found → IsToldAnswer found → IsFairAnswer found
    → IsTold (pattern_row c i found name ∷ rows_behind c i found)
answer-told c i (Found rule finding) name named ruled range fair =
    outcome-told c i rule finding.population finding.outcome name ruled
    (and_from (has_lawful_numbers (fields_of finding)) (is_name name) range.0 named) range.1 fair
answer-told c i (Refused number) name named ruled range fair =
    line-told c i (outcome_of (Refused number)) name [] (ap (λ b. b && is_name name) (le-leb number fault_limit fair) ∙ named) refl tt tt

-- ---- sections

patterns-told : (c i : ℕ) (ss : List Saying) → Each IsSayable ss → Each IsLifeLikeAnswer (found_of ss) → Each IsToldAnswer (found_of ss) → Each IsFairAnswer (found_of ss)
    → Each IsTold (saying_lines c i ss)
unfolding saying_rows
patterns-told c i [] named ruled range fair = tt
patterns-told c i (s ∷ ss) named ruled range fair =
    (answer-told c i s.found s.name named.0.0 ruled.0 range.0 fair.0, patterns-told c (suc i) ss named.1 ruled.1 range.1 fair.1)

count-first : (p : Object → Bool) (x : Object) (xs : List Object) → count_by p (x ∷ xs) ≡ cond (p x) 1 0 + count_by p xs
count-first p x xs = sum_by-cons (λ y. cond (p y) 1 0) x xs

count-more : (y x : Object) (xs : List Object) → 0 < count_by (same_object y) xs → 0 < count_by (same_object y) (x ∷ xs)
count-more y x xs h = let first = count-first (same_object y) x xs in omega (arith, first, h)

-- each of these is counted at least once
counts-some : (xs : List Object) → Each (λ (x : Object). 0 < count_by (same_object x) xs) xs
counts-some [] = tt
counts-some (x ∷ xs) =
    let first = count-first (same_object x) x xs in
    let one = ap {B = ℕ} (λ b. cond b 1 0) (same_itself x) in (
      omega (arith, first, one),
      each-then (λ (y : Object). 0 < count_by (same_object y) xs) (λ (y : Object). 0 < count_by (same_object y) (x ∷ xs)) (λ y h. count-more y x xs h) xs (counts-some xs),
    )

abbrev IsCountedObject : Object × ℕ → Type 0
IsCountedObject x = 0 < x.1

tally-some : (f : Object → ℕ) (xs : List Object) → Each (λ (x : Object). 0 < f x) xs → Each IsCountedObject (map (λ x. (x, f x)) xs)
tally-some f [] h = tt
tally-some f (x ∷ xs) h = (h.0, tally-some f xs h.1)

-- the object's code is one if it has a byte
abbrev IsCodeObject : Object → Type 0
IsCodeObject o = IsCodeIfSome o.code

parts-coded : (rule : Rule) (parts : List part.Part) → Each IsCodePart parts → Each IsCodeObject (part_objects rule parts)
parts-coded rule [] h = tt
parts-coded rule (p ∷ parts) h =
    each-append IsCodeObject (replicate p.count (object rule p.code)) (part_objects rule parts)
    (each-replicate IsCodeObject p.count (object rule p.code) h.0) (parts-coded rule parts h.1)

outcome-coded : (rule : Rule) (outcome : Outcome) → IsFair outcome → Each IsCodeObject (outcome_objects rule outcome)
outcome-coded rule (Recurs onset period dx dy code) h = ((λ some. recurrence-code period dx dy code h), tt)
outcome-coded rule (Ash onset parts) h = parts-coded rule parts h.2
outcome-coded rule Unresolved h = tt
outcome-coded rule (Large n) h = tt
outcome-coded rule (Grows engines) h = tt

objects-coded : (found : List Answer) → Each IsFairAnswer found → Each IsCodeObject (objects found)
objects-coded [] h = tt
objects-coded (Found rule finding ∷ found) h =
    each-append IsCodeObject (outcome_objects rule finding.outcome) (objects found) (outcome-coded rule finding.outcome h.0) (objects-coded found h.1)
objects-coded (Refused number ∷ found) h = objects-coded found h.1

code-lawful : (c : ℕ) (x : Object × ℕ) → IsLifeLikeObject x.0 → IsCodeObject x.0 → HasObjectCode x.0 → IsCountedObject x → is_lawful (code_row c x) ≡ true
code-lawful c x ruled told some counted =
    ap (λ b. b && (is_code x.0.code && ltb 0 x.1)) (rule-printed x.0.rule ruled) ∙ ap (λ b. b && ltb 0 x.1) (told some) ∙ lt-ltb 0 x.1 counted

abbrev IsLawfulObject : Object → Type 0
IsLawfulObject o = IsLifeLikeObject o × IsCodeObject o × HasObjectCode o

each-three : (xs : List Object) → Each IsLifeLikeObject xs → Each IsCodeObject xs → Each HasObjectCode xs → Each IsLawfulObject xs
each-three [] a b c = tt
each-three (x ∷ xs) a b c = ((a.0, b.0, c.0), each-three xs a.1 b.1 c.1)

codes-told : (c : ℕ) (counted : List (Object × ℕ)) → Each (λ (x : Object × ℕ). IsLawfulObject x.0) counted → Each IsCountedObject counted
    → Each IsTold (code_groups c counted)
codes-told c [] lawful h = tt
codes-told c (x ∷ counted) lawful h = (
  subst IsTold (sym (code-is c x)) (plain (code_row c x) (code-lawful c x lawful.0.0 lawful.0.1 lawful.0.2 h.0) no-more),
  codes-told c counted lawful.1 h.1,
)

section-told : (c : ℕ) (f : Collection) → IsSayableCollection f → IsLawfulCollection f → Each IsTold (section_of c f)
section-told c f named h =
    let found = found_of f.sayings in
    let coded = code_groups c (counted_in f) in
    let last = (close_row c found (length f.sayings) ∷ []) ∷ [] in
    let all = objects found in
    let some = tally-some (λ x. count_by (same_object x) all) (distinct_elements same_object all)
    (distinct-each (λ (x : Object). 0 < count_by (same_object x) all) same_object all (counts-some all)) in
    let lawful = counted-each IsLawfulObject (λ x. count_by (same_object x) all) (distinct_elements same_object all)
    (distinct-each IsLawfulObject same_object all
    (each-three all (objects-ruled found h.ruled) (objects-coded found h.fair) (objects-some found h.told.0))) in
    let ends = each-append IsTold coded last (codes-told c (counted_in f) lawful some)
    (plain (close_row c found (length f.sayings)) refl no-more, tt) in
    subst (Each IsTold) (sym (section-is c f)) (
      plain (open_row c f) named.named no-more,
      each-append IsTold (saying_lines c 1 f.sayings) (coded ++ last) (patterns-told c 1 f.sayings named.each h.ruled h.told.0 h.fair) ends,
    )

at-told : (c : ℕ) (b : List Collection) (k : ℕ) → Each IsSayableCollection b → Each IsLawfulCollection b → Each IsTold (section_if c (slice_get b k))
at-told c [] k named h = tt
at-told c (f ∷ b) zero named h = section-told c f named.0 h.0
at-told c (f ∷ b) (suc k) named h = at-told c b k named.1 h.1

sections-told : (b : List Collection) → AreSayable b → Each IsLawfulCollection b → (c : ℕ) → Each IsTold (section b c)
sections-told b named h zero = tt
sections-told b named h (suc k) = at-told (suc k) b k named.each h

-- ---- groups

tail-told : (P : Group → Type 0) (c : ℕ) (l : Owned) (ls : List Owned) → Each P (lines_of c (l ∷ ls)) → Each P (lines_of c ls)
tail-told P c l ls =
    elim (eqb l.owner c) as (λ v. Each P (cond v (l.group ∷ lines_of c ls) (lines_of c ls)) → Each P (lines_of c ls)) [ true ↦ λ h. h.1 | false ↦ λ h. h ]

in-owned : (P : Group → Type 0) (groups : List Owned) → ((c : ℕ) → Each P (lines_of c groups)) → Each (λ (l : Owned). P l.group) groups
in-owned P [] h = tt
in-owned P (l ∷ ls) h =
    let own = subst (λ v. Each P (cond v (l.group ∷ lines_of l.owner ls) (lines_of l.owner ls))) (eq-eqb l.owner l.owner refl) (h l.owner) in
    (own.0, in-owned P ls (λ c. tail-told P c l ls (h c)))

groups-told : (groups : List Owned) → Each (λ (l : Owned). IsTold l.group) groups → IsTold (rows_in groups)
groups-told [] h t calm = record { after = t; tells = refl; calm = calm }
groups-told (l ∷ ls) h t calm =
    let one = h.0 t calm in
    let others = groups-told ls h.1 one.after one.calm in
    record { after = others.after; tells = told-then t one.after l.group (rows_in ls) one.tells ∙ others.tells; calm = others.calm }

-- the rows of a report say what rows of a report say
pub report-tells : (b : List Collection) (groups : List Owned) (n k : ℕ) → AreSayable b → Each IsLawfulCollection b
    → ((c : ℕ) → lines_of c groups ≡ section b c) → told_by nothing_told (rows_in groups ++ End n k ∷ []) ≡ Some nothing_told
report-tells b groups n k named h are =
    let each = in-owned IsTold groups (λ c. subst (Each IsTold) (sym (are c)) (sections-told b named h c)) in
    let all = groups-told groups each nothing_told refl in
    told-then nothing_told all.after (rows_in groups) (End n k ∷ []) all.tells
    ∙ told-one all.after nothing_told (End n k) []
    (fits all.after nothing_told (End n k) refl (ap (λ z. cond z (Some nothing_told) Nothing) all.calm))
