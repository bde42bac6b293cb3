-- The rows that say what is said of a bundle are on lines, if their numbers are in range.
use Rattle.std.proofs.Common.{◌≡◌, ℕ, zero, suc, ◌+◌, ◌-◌, ◌<◌, ⊎_elim, eq-zero-or-pos, replicate, ◌≤◌, ◌^◌, Bool, true, leb, None as Nothing, List, [], ◌∷◌, ◌++◌, map, length, count_by, slice_get, sym, refl, arith, subst}
use Rattle.std.specs.List.{AllByRecursion as Each}
use Rattle.std.specs.Prelude.{FitsSigned}
use Rattle.std.specs.Int.{w64}
use Rattle.std.proofs.lemmas.Bool.{and_parts, leb-true}
use Rattle.std.proofs.lemmas.Int.{ints}
use Rattle.std.proofs.lemmas.List.{length-map}
use Rattle.std.proofs.lemmas.List.Sums.{count_by-le-length}
use Rattle.std.proofs.lemmas.Option.{slice_get_past}
use Rattle.census_bundle.specs.Sizes.{count_limit}
use Rattle.census_format.specs.Found.{outcome_of}
use Rattle.census_format.specs.Lines.{Collection, Saying, emits_row, engine_row, engine_rows, found_of, is_refused, is_resolved, is_unresolved, outcome_rows, part_row, rows_behind, rows_of_engines, saying_lines, saying_rows}
use Rattle.census_format.specs.Objects.{Object, code_line, distinct_elements, object, objects, outcome_objects, part_objects, same_object}
use Rattle.census_format.specs.Reports.{section, section_if, section_of}
use Rattle.census_merge.specs.Sums.{sums_of}
use Rattle.census_readback.specs.Lawful.{has_lawful_numbers}
use Rattle.census_readback.specs.Limits.{cell_limit}
use Rattle.census_readback.specs.Steps.{collection_of}
use Rattle.census_rows.specs.declared.row.Row.{Row}
use Rattle.census_rows.specs.Lines.{IsOutcome, IsRow, IsWord}
use Rattle.life_answer.specs.declared.finding.Answer.{Answer}
use Rattle.life_answer.specs.declared.finding.Answer.TheVariants.{Found, Refused}
use Rattle.life_answer.specs.declared.finding.Finding.{Finding}
use Rattle.life_answer.specs.declared.finding.Outcome as becomes
use Rattle.life_answer.specs.declared.finding.Outcome.TheVariants.{Recurs, Unresolved, Large, Ash, Grows}
use Rattle.life_answer.specs.declared.part.Part as part
use Rattle.life_answer.specs.Parts.{objects_in}
use Rattle.life_answer.specs.CountedTales.{engines_in}
use Rattle.life_answer.specs.declared.tale.Engines.{Engines}
use Rattle.life_cells.specs.Rules.{rule_text}
use Rattle.life_model.specs.Rule.{Rule}
use Rattle.census_merge.specs.Ranges.{FitsEmitted, FitsEngines, FitsOutcome, IsCodedPart, IsToldAnswer, fields_of}
use Rattle.census_merge.proofs.Named.{found-coded}
use Rattle.census_merge.proofs.ObjectCodes.{cells-some}
use Rattle.census_merge.proofs.Coded.{IsSolidObject, counted-each, distinct-each, tally-coded}
use Rattle.census_merge.proofs.Parsed.{solid-plain}
use Rattle.census_merge.proofs.Rowed.{close_row, code_groups, counted_in, row_outcome, section-is}
use Rattle.census_merge.proofs.Solid.{each-append, each-replicate, rule-solid}
use Rattle.census_merge.specs.Lawful.{AreSayable, IsCoded, IsCodedAnswer, IsSayable, IsSayableCollection, IsSolid, IsSolidEngines, IsSolidPart, IsToldCollection}

-- a row of the collection c, with numbers in range
abbrev pub IsFit : ℕ → Row → Type 0
IsFit c row = (collection_of row ≡ c) × (sums_of row ≡ Nothing) × IsRow row

rule-word : (rule : Rule) → IsWord (rule_text rule)
rule-word rule = (omega arith, solid-plain (rule_text rule) (rule-solid rule))

word : (code : List ℕ) → 0 < length code → IsSolid code → IsWord code
word code some h = (some, solid-plain code h)

row-outcome-fits : (rule : Rule) (population : ℕ) (outcome : becomes.Outcome) → population < 2 ^ 64 → FitsOutcome outcome → IsCoded outcome
    → IsOutcome (row_outcome rule population outcome)
row-outcome-fits rule population (Recurs onset period dx dy code) few h k =
    (rule-word rule, (few, (h.0.0, (h.0.1.0, (h.0.1.1.0, (h.0.1.1.1.0, (word code h.0.1.1.1.1.0 k, tt)))))))
row-outcome-fits rule population Unresolved few h k = (rule-word rule, (few, tt))
row-outcome-fits rule population (Large generation) few h k = (rule-word rule, (few, (h.0.0, tt)))
row-outcome-fits rule population (Ash onset parts) few h k = (rule-word rule, (few, (h.0.0, (h.0.1.0, tt))))
row-outcome-fits rule population (Grows engines) few h k = (rule-word rule, (few, (h.0.0, tt)))

few-cells : (finding : Finding) → has_lawful_numbers (fields_of finding) ≡ true → finding.population < 2 ^ 64
few-cells finding h =
    let few = leb-true finding.population cell_limit (and_parts (leb finding.population cell_limit) _ h).0 in
    omega (arith, few)

outcome-fits : (found : Answer) → IsToldAnswer found → IsCodedAnswer found → IsOutcome (outcome_of found)
outcome-fits (Found rule finding) h k = row-outcome-fits rule finding.population finding.outcome (few-cells finding h.0) h.1 k
outcome-fits (Refused number) h k = (h, tt)

parts-fit : (c i : ℕ) (parts : List part.Part) → c < 2 ^ 64 → i < 2 ^ 64 → objects_in parts < 2 ^ 64 → Each IsCodedPart parts → Each IsSolidPart parts
    → Each (IsFit c) (map (part_row c i) parts)
parts-fit c i [] a b few some h = tt
parts-fit c i (p ∷ parts) a b few some h =
    let here : p.count < 2 ^ 64 = omega (arith, few) in
    let more : objects_in parts < 2 ^ 64 = omega (arith, few) in
    ((refl, refl, (a, b, word p.code (cells-some p.code some.0) h.0, here)), parts-fit c i parts a b more some.1 h.1)

emits-fit : (c i e : ℕ) (parts : List part.Part) → c < 2 ^ 64 → i < 2 ^ 64 → e < 2 ^ 64 → Each FitsEmitted parts → Each IsSolidPart parts
    → Each (IsFit c) (map (emits_row c i e) parts)
emits-fit c i e [] a b d h k = tt
emits-fit c i e (p ∷ parts) a b d h k =
    ((refl, refl, (a, b, d, word p.code (cells-some p.code h.0.0) k.0, h.0.1)), emits-fit c i e parts a b d h.1 k.1)

engine-fit : (c i e : ℕ) (line : Engines) → c < 2 ^ 64 → i < 2 ^ 64 → e < 2 ^ 64 → line.count < 2 ^ 64 → FitsEngines line → IsFit c (engine_row c i e line)
engine-fit c i e line a b d few h =
    let soon = h.0.soon in
    let left = h.0.left in
    let right = h.0.right in
    let above = h.0.above in
    let below = h.0.below in
    let short : line.tale.period < 2 ^ 64 = omega (arith, soon) in
    let across : FitsSigned w64 line.tale.dx = omega (arith, ints, soon, left, right) in
    let down : FitsSigned w64 line.tale.dy = omega (arith, ints, soon, above, below) in
    (refl, refl, (a, b, d, short, across, down, few))

engines-fit : (c i e : ℕ) (engines : List Engines) → c < 2 ^ 64 → i < 2 ^ 64 → 0 < e → e + engines_in engines ≤ 2 ^ 64 → Each FitsEngines engines → Each IsSolidEngines engines
    → Each (IsFit c) (rows_of_engines c i e engines)
engines-fit c i e [] a b from few h k = tt
engines-fit c i e (line ∷ engines) a b from few h k =
    let some = h.0.0.some in
    let number : e < 2 ^ 64 = omega (arith, few, some) in
    let count : line.count < 2 ^ 64 = omega (arith, from, few) in
    each-append (IsFit c) (engine_rows c i e line) (rows_of_engines c i (suc e) engines)
    (engine-fit c i e line a b number count h.0, emits-fit c i e line.tale.emits a b number h.0.1 k.0)
    (engines-fit c i (suc e) engines a b (omega arith) (omega (arith, few, some)) h.1 k.1)

found-fit : (c i : ℕ) (outcome : becomes.Outcome) → c < 2 ^ 64 → i < 2 ^ 64 → FitsOutcome outcome → IsCoded outcome
    → Each (IsFit c) (outcome_rows c i outcome)
found-fit c i (Ash onset parts) a b h k = parts-fit c i parts a b h.0.1.0 h.1 k
found-fit c i (Grows engines) a b h k = let few = h.0.0 in engines-fit c i 1 engines a b (omega arith) (omega (arith, few)) h.2 k
found-fit c i _ a b h k = tt

after-fit : (c i : ℕ) (found : Answer) → c < 2 ^ 64 → i < 2 ^ 64 → IsToldAnswer found → IsCodedAnswer found → Each (IsFit c) (rows_behind c i found)
after-fit c i (Found rule finding) a b h k = found-fit c i finding.outcome a b h.1 k
after-fit c i (Refused number) a b h k = tt

patterns-fit : (c i : ℕ) (ss : List Saying) → c < 2 ^ 64 → i + length ss < 2 ^ 64 → Each IsSayable ss → Each IsToldAnswer (found_of ss)
    → Each (Each (IsFit c)) (saying_lines c i ss)
unfolding saying_rows
patterns-fit c i [] a b k h = tt
patterns-fit c i (s ∷ ss) a b k h =
    let here : i < 2 ^ 64 = omega (arith, b) in (
      ((refl, refl, (a, here, outcome-fits s.found h.0 k.0.1)), after-fit c i s.found a here h.0 k.0.1),
      patterns-fit c (suc i) ss a (omega (arith, b)) k.1 h.1,
    )

abbrev pub HasObjectCode : Object → Type 0
HasObjectCode o = 0 < length o.code

parts-some : (rule : Rule) (parts : List part.Part) → Each IsCodedPart parts → Each HasObjectCode (part_objects rule parts)
parts-some rule [] h = tt
parts-some rule (p ∷ parts) h =
    each-append HasObjectCode (replicate p.count (object rule p.code)) (part_objects rule parts)
    (each-replicate HasObjectCode p.count (object rule p.code) (cells-some p.code h.0)) (parts-some rule parts h.1)

outcome-some : (rule : Rule) (outcome : becomes.Outcome) → FitsOutcome outcome → Each HasObjectCode (outcome_objects rule outcome)
outcome-some rule (Recurs onset period dx dy code) h = (h.0.1.1.1.1.0, tt)
outcome-some rule (Ash onset parts) h = parts-some rule parts h.1
outcome-some rule _ h = tt

pub objects-some : (found : List Answer) → Each IsToldAnswer found → Each HasObjectCode (objects found)
objects-some [] h = tt
objects-some (Found rule finding ∷ found) h =
    each-append HasObjectCode (outcome_objects rule finding.outcome) (objects found) (outcome-some rule finding.outcome h.0.1) (objects-some found h.1)
objects-some (Refused number ∷ found) h = objects-some found h.1

pub counts-fit : (all xs : List Object) → length all < 2 ^ 64 → Each (λ (x : Object × ℕ). x.1 < 2 ^ 64) (map (λ x. (x, count_by (same_object x) all)) xs)
counts-fit all [] few = tt
counts-fit all (x ∷ xs) few = (let most = count_by-le-length (same_object x) all in omega (arith, most, few), counts-fit all xs few)

codes-fit : (c : ℕ) (ones : List (Object × ℕ)) → c < 2 ^ 64 → Each (λ (x : Object × ℕ). IsSolidObject x.0) ones
    → Each (λ (x : Object × ℕ). HasObjectCode x.0) ones → Each (λ (x : Object × ℕ). x.1 < 2 ^ 64) ones → Each (Each (IsFit c)) (code_groups c ones)
unfolding code_line
codes-fit c [] a h k few = tt
codes-fit c (x ∷ ones) a h k few =
    (((refl, refl, (a, rule-word x.0.rule, word x.0.code k.0 h.0, few.0)), tt), codes-fit c ones a h.1 k.1 few.1)

few-that : (test : Answer → Bool) (ss : List Saying) → length ss ≤ count_limit → count_by test (found_of ss) < 2 ^ 64
few-that test ss few =
    let most = count_by-le-length test (found_of ss) in
    let all = length-map ss (λ (s : Saying). s.found) in
    omega (arith, most, all, few)

section-fit : (c : ℕ) (f : Collection) → c < 2 ^ 64 → IsSayableCollection f → IsToldCollection f → Each (Each (IsFit c)) (section_of c f)
section-fit c f a k h =
    let few = k.few in
    let found = found_of f.sayings in
    let all = objects found in
    let coded = code_groups c (counted_in f) in
    let last = (close_row c found (length f.sayings) ∷ []) ∷ [] in
    let size : length f.sayings < 2 ^ 64 = omega (arith, few) in
    let counted = codes-fit c (counted_in f) a (tally-coded same_object found (found-coded f.sayings k.each))
    (counted-each HasObjectCode (λ x. count_by (same_object x) all) (distinct_elements same_object all) (distinct-each HasObjectCode same_object all (objects-some found h.0)))
    h.1 in
    let closes : Each (Each (IsFit c)) last =
    (((refl, refl, (a, size, few-that is_resolved f.sayings few, few-that is_unresolved f.sayings few, few-that is_refused f.sayings few)), tt), tt) in
    subst (Each (Each (IsFit c))) (sym (section-is c f)) (
      ((refl, refl, (a, size)), tt),
      each-append (Each (IsFit c)) (saying_lines c 1 f.sayings) (coded ++ last) (patterns-fit c 1 f.sayings a (omega (arith, few)) k.each h.0)
          (each-append (Each (IsFit c)) coded last counted closes),
    )

at-fit : (c : ℕ) (b : List Collection) (k : ℕ) → c < 2 ^ 64 → Each IsSayableCollection b → Each IsToldCollection b → Each (Each (IsFit c)) (section_if c (slice_get b k))
at-fit c [] k a few h = tt
at-fit c (f ∷ b) zero a few h = section-fit c f a few.0 h.0
at-fit c (f ∷ b) (suc k) a few h = at-fit c b k a few.1 h.1

pub rows-fit : (b : List Collection) → AreSayable b → Each IsToldCollection b → (c : ℕ) → Each (Each (IsFit c)) (section b c)
rows-fit b small h zero = tt
rows-fit b small h (suc k) = ⊎_elim
    (λ none. subst (λ o. Each (Each (IsFit (suc k))) (section_if (suc k) o)) (sym (slice_get_past b k (omega arith))) tt)
    (λ some. at-fit (suc k) b k (let few = small.few in omega (arith, few)) small.each h)
    (eq-zero-or-pos (length b - k))
