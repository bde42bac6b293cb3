-- What the lines of a collection count is what its `code` lines say.
use Rattle.std.proofs.Common.{◌≡◌, ℕ, suc, ◌+◌, ◌<◌, ◌≤◌, ◌^◌, Bool, true, false, cond, ltb, Some, None as Nothing, List, [], ◌∷◌, ◌++◌, map, count_by, replicate, ap, ◌∙◌, sym, refl, arith, append_assoc, append-nil}
use Rattle.std.specs.List.{AllByRecursion as Each}
use Rattle.std.specs.Map.{lookup}
use Rattle.std.specs.Option.{unwrap_or}
use Rattle.std.proofs.lemmas.Bool.{false≢true, lt-ltb, ltb-false}
use Rattle.std.proofs.lemmas.Bool.Decides.{nat_tests}
use Rattle.indexmap.specs.IndexMap.{insert_entry}
use Rattle.census_format.specs.Lines.{Saying, Collection, emits_row, found_of, outcome_rows, part_row, pattern_row, rows_behind, rows_of_engines, saying_lines, saying_rows}
use Rattle.census_format.specs.Found.{lent}
use Rattle.census_format.specs.Objects.{Object, code_line, distinct_elements, object, objects, outcome_objects, part_objects, same_object, tally}
use Rattle.census_format.specs.ObjectLaws.{one_object, same_itself}
use Rattle.census_format.proofs.Tallies.{lookup_tally, tally_push_all}
use Rattle.census_readback.specs.Counts as told
use Rattle.census_readback.specs.Counts.{Counts, Sum, counted_by, counts_told, nothing_counted, sum_with, with_more}
use Rattle.census_readback.specs.ObjectLaws as told_laws
use Rattle.census_readback.specs.Shapes.{all_rows}
use Rattle.census_rows.specs.declared.row.Row.{Row}
use Rattle.census_rows.specs.declared.row.Row.TheVariants.{Line}
use Rattle.life_answer.specs.Census.{parts_found}
use Rattle.life_answer.specs.declared.finding.Answer.{Answer}
use Rattle.life_answer.specs.declared.finding.Answer.TheVariants.{Found, Refused}
use Rattle.life_answer.specs.declared.finding.Outcome.{Outcome}
use Rattle.life_answer.specs.declared.finding.Outcome.TheVariants.{Recurs, Unresolved, Large, Ash, Grows}
use Rattle.life_answer.specs.declared.part.Part as part
use Rattle.life_answer.specs.declared.tale.Engines.{Engines}
use Rattle.life_cells.specs.Rules.{rule_text}
use Rattle.life_model.specs.Rule.{Rule}
use Rattle.census_merge.proofs.Coded.{counted-each, distinct-each}
use Rattle.census_merge.proofs.Rowed.{code_groups, counted_in, row_outcome}
use Rattle.census_merge.proofs.Ruled.{IsLifeLikeObject, one-rule, outcome-ruled}
use Rattle.census_merge.proofs.Solid.{each-append, each-replicate}
use Rattle.census_merge.specs.Lawful.{IsCounted, IsFair, IsFairAnswer, IsLawfulCollection, IsLifeLike, IsLifeLikeAnswer}

-- ---- objects as they are printed

abbrev pub printed : Object → told.Object
printed k = told.object (rule_text k.rule) k.code

-- as 64 bits have it
abbrev pub bounded : ℕ → Sum
bounded n = cond (ltb n (2 ^ 64)) (Some n) Nothing

abbrev pub printed_count : Object × ℕ → told.Object × Sum
printed_count e = (printed e.0, bounded e.1)

printed-one : (k l : Object) → IsLifeLikeObject k → IsLifeLikeObject l → printed k ≡ printed l → same_object k l ≡ true
printed-one k l a b e =
    let rules = one-rule k.rule l.rule a b (ap (λ (o : told.Object). o.rule) e) in
    let codes = ap (λ (o : told.Object). o.code) e in
    let one : k ≡ l = λ i. object (rules i) (codes i) in
    ap (λ z. same_object k z) (sym one) ∙ same_itself k

-- printed objects are the same if the objects are
printed-same : (k l : Object) → IsLifeLikeObject k → IsLifeLikeObject l → told.same_object (printed k) (printed l) ≡ same_object k l
printed-same k l a b =
    elim (same_object k l) as (λ v. same_object k l ≡ v → told.same_object (printed k) (printed l) ≡ v) [
      | true ↦ λ e. ap (λ z. told.same_object (printed k) (printed z)) (sym (one_object k l e)) ∙ told_laws.same_itself (printed k)
      | false ↦ λ e. elim (told.same_object (printed k) (printed l)) as (λ v. told.same_object (printed k) (printed l) ≡ v → v ≡ false) [
        | true ↦ λ f. absurd (false≢true (sym e ∙ printed-one k l a b (told_laws.one_object (printed k) (printed l) f)))
        | false ↦ λ _. refl
      ] refl
    ] refl

more-bounded : (limit m n : ℕ) → cond (ltb m limit) (cond (ltb (m + n) limit) (Some (m + n)) Nothing) Nothing ≡ cond (ltb (m + n) limit) (Some (m + n)) Nothing
more-bounded limit m n =
    elim (ltb m limit) as (λ v. ltb m limit ≡ v → cond v (cond (ltb (m + n) limit) (Some (m + n)) Nothing) Nothing ≡ cond (ltb (m + n) limit) (Some (m + n)) Nothing) [
      | true ↦ λ e. refl
      | false ↦ λ e.
          (let past : ltb (m + n) limit ≡ false = (let high = ltb-false m limit e in grind (arith, nat_tests, high)) in
          sym (ap (λ b. cond b (Some (m + n)) Nothing) past))
    ] refl

sum-more : (m n : ℕ) → sum_with (bounded m) n ≡ bounded (m + n)
sum-more m n = by (ltb m (2 ^ 64)) refl
  where
    by : (v : Bool) → ltb m (2 ^ 64) ≡ v → sum_with (cond v (Some m) Nothing) n ≡ bounded (m + n)
    by true e = refl
    by false e = ap (λ v. cond v (cond (ltb (m + n) (2 ^ 64)) (Some (m + n)) Nothing) Nothing) (sym e) ∙ more-bounded (2 ^ 64) m n

-- n more of an object
raised : (es : List (Object × ℕ)) (k : Object) (n : ℕ) → IsLifeLikeObject k → Each (λ (e : Object × ℕ). IsLifeLikeObject e.0) es
    → with_more (printed k) n (map printed_count es) ≡ map printed_count (insert_entry same_object es k (unwrap_or (lookup (same_object k) es) 0 + n))
raised [] k n own all = ap (λ sum. (printed k, sum) ∷ []) (sum-more 0 n)
raised (e ∷ es) k n own all =
    let others = map printed_count es in
    ap (λ b. cond b ((printed e.0, sum_with (bounded e.1) n) ∷ others) (printed_count e ∷ with_more (printed k) n others)) (printed-same k e.0 own all.0)
    ∙ elim (same_object k e.0) as (λ b.
    cond b ((printed e.0, sum_with (bounded e.1) n) ∷ others) (printed_count e ∷ with_more (printed k) n others)
    ≡ map printed_count (cond b ((e.0, unwrap_or (cond b (Some e.1) (lookup (same_object k) es)) 0 + n) ∷ es) (e ∷ insert_entry same_object es k (unwrap_or (cond b (Some e.1) (lookup (same_object k) es)) 0 + n)))) [
      | true ↦ ap (λ sum. (printed e.0, sum) ∷ others) (sum-more e.1 n)
      | false ↦ ap (λ zs. printed_count e ∷ zs) (raised es k n own all.1)
    ]

-- ---- what is counted of objects

abbrev counted : List Object → List (told.Object × Sum)
counted all = map printed_count (tally same_object all)

abbrev at : List ℕ → List Object → Counts
at rule all = record { rule = rule; sums = counted all }

abbrev AreLifeLike : List Object → Type 0
AreLifeLike all = Each IsLifeLikeObject all

counted-more : (before : List Object) (k : Object) (n : ℕ) → IsLifeLikeObject k → AreLifeLike before → 1 ≤ n
    → with_more (printed k) n (counted before) ≡ counted (before ++ replicate n k)
counted-more before k n own all some =
    let looked = lookup_tally same_object one_object same_itself k before in
    let each = counted-each IsLifeLikeObject (λ x. count_by (same_object x) before) (distinct_elements same_object before) (distinct-each IsLifeLikeObject same_object before all) in
    let v = unwrap_or (lookup (same_object k) (tally same_object before)) 0 + n in
    raised (tally same_object before) k n own each
    ∙ ap (map printed_count) (tally_push_all same_object one_object same_itself before k n v some (ap (λ m. m + n) looked))

parts-counted : (c i : ℕ) (rule : Rule) (parts : List part.Part) (before : List Object) (rest : List Row) → IsLifeLike rule → AreLifeLike before → Each IsCounted parts
    → counted_by (at (rule_text rule) before) (map (part_row c i) parts ++ rest) ≡ counted_by (at (rule_text rule) (before ++ part_objects rule parts)) rest
parts-counted c i rule [] before rest own all some = ap (λ os. counted_by (at (rule_text rule) os) rest) (sym (append-nil before))
parts-counted c i rule (p ∷ parts) before rest own all some =
    let k = object rule p.code in
    let here = replicate p.count k in
    let behind = part_objects rule parts in
    ap (λ sums. counted_by (record { rule = rule_text rule; sums = sums }) (map (part_row c i) parts ++ rest)) (counted-more before k p.count own all some.0)
    ∙ parts-counted c i rule parts (before ++ here) rest own (each-append IsLifeLikeObject before here all (each-replicate IsLifeLikeObject p.count k own)) some.1
    ∙ ap (λ os. counted_by (at (rule_text rule) os) rest) (append_assoc before here behind)

-- the rows of engines count no object
emits-uncounted : (c i e : ℕ) (parts : List part.Part) (k : Counts) (rest : List Row) → counted_by k (map (emits_row c i e) parts ++ rest) ≡ counted_by k rest
emits-uncounted c i e [] k rest = refl
emits-uncounted c i e (p ∷ parts) k rest = emits-uncounted c i e parts k rest

engines-uncounted : (c i e : ℕ) (engines : List Engines) (k : Counts) (rest : List Row) → counted_by k (rows_of_engines c i e engines ++ rest) ≡ counted_by k rest
engines-uncounted c i e [] k rest = refl
engines-uncounted c i e (line ∷ engines) k rest =
    let more = rows_of_engines c i (suc e) engines in
    ap (counted_by k) (append_assoc (map (emits_row c i e) line.tale.emits) more rest)
    ∙ emits-uncounted c i e line.tale.emits k (more ++ rest) ∙ engines-uncounted c i (suc e) engines k rest

-- what was counted before, and these objects in addition
record Goes (k : Counts) (rows rest : List Row) (all : List Object) : Type 0 where
  rule : List ℕ
  is : counted_by k rows ≡ counted_by (at rule all) rest

outcome-counted : (c i : ℕ) (rule : Rule) (population : ℕ) (outcome : Outcome) (name : List ℕ) (last : List ℕ) (before : List Object) (rest : List Row)
    → IsLifeLike rule → AreLifeLike before → Each IsCounted (parts_found outcome)
    → Goes (at last before) (Line c i (row_outcome rule population outcome) (lent name) ∷ (outcome_rows c i outcome ++ rest)) rest (before ++ outcome_objects rule outcome)
outcome-counted c i rule population (Recurs onset period dx dy code) name last before rest own all some = record {
  rule = rule_text rule;
  is = ap (λ sums. counted_by (record { rule = rule_text rule; sums = sums }) rest) (counted-more before (object rule code) 1 own all (omega arith));
}
outcome-counted c i rule population (Ash onset parts) name last before rest own all some = record {
  rule = rule_text rule;
  is = parts-counted c i rule parts before rest own all some;
}
outcome-counted c i rule population Unresolved name last before rest own all some = record {
  rule = rule_text rule;
  is = ap (λ os. counted_by (at (rule_text rule) os) rest) (sym (append-nil before));
}
outcome-counted c i rule population (Large n) name last before rest own all some = record {
  rule = rule_text rule;
  is = ap (λ os. counted_by (at (rule_text rule) os) rest) (sym (append-nil before));
}
outcome-counted c i rule population (Grows engines) name last before rest own all some = record {
  rule = rule_text rule;
  is = engines-uncounted c i 1 engines (at (rule_text rule) before) rest ∙ ap (λ os. counted_by (at (rule_text rule) os) rest) (sym (append-nil before));
}

-- ---- answers

-- the objects that an answer has
abbrev answer_objects : Answer → List Object
answer_objects (Found rule finding) = outcome_objects rule finding.outcome
answer_objects (Refused number) = []

objects-first : (found : Answer) (others : List Answer) → objects (found ∷ others) ≡ answer_objects found ++ objects others
objects-first (Found rule finding) others = refl
objects-first (Refused number) others = refl

answer-ruled : (found : Answer) → IsLifeLikeAnswer found → AreLifeLike (answer_objects found)
answer-ruled (Found rule finding) h = outcome-ruled rule finding.outcome h
answer-ruled (Refused number) h = tt

fair-counted : (outcome : Outcome) → IsFair outcome → Each IsCounted (parts_found outcome)
fair-counted (Ash onset parts) h = h.1
fair-counted (Recurs onset period dx dy code) h = tt
fair-counted Unresolved h = tt
fair-counted (Large n) h = tt
fair-counted (Grows engines) h = tt

answer-counted : (c i : ℕ) (found : Answer) (name last : List ℕ) (before : List Object) (rest : List Row) → IsLifeLikeAnswer found → IsFairAnswer found
    → AreLifeLike before
    → Goes (at last before) (pattern_row c i found name ∷ (rows_behind c i found ++ rest)) rest (before ++ answer_objects found)
answer-counted c i (Found rule finding) name last before rest own fair all =
    outcome-counted c i rule finding.population finding.outcome name last before rest own all (fair-counted finding.outcome fair)
answer-counted c i (Refused number) name last before rest own fair all = record {
  rule = [];
  is = ap (λ os. counted_by (at [] os) rest) (sym (append-nil before));
}

pub patterns-counted : (c i : ℕ) (ss : List Saying) (last : List ℕ) (before : List Object) → Each IsLifeLikeAnswer (found_of ss) → Each IsFairAnswer (found_of ss)
    → AreLifeLike before
    → (counted_by (at last before) (all_rows (saying_lines c i ss))).sums ≡ counted (before ++ objects (found_of ss))
unfolding saying_rows
patterns-counted c i [] last before ruled fair all = ap counted (sym (append-nil before))
patterns-counted c i (s ∷ ss) last before ruled fair all =
    let found = s.found in
    let own = ruled.0 in
    let others = objects (found_of ss) in
    let rest = all_rows (saying_lines c (suc i) ss) in
    let first = objects-first found (found_of ss) in
    let one = answer-counted c i found s.name last before rest own fair.0 all in
    ap (λ (k : Counts). k.sums) one.is
    ∙ patterns-counted c (suc i) ss one.rule (before ++ answer_objects found) ruled.1 fair.1 (each-append IsLifeLikeObject before (answer_objects found) all (answer-ruled found own))
    ∙ ap counted (append_assoc before (answer_objects found) others ∙ ap (λ os. before ++ os) (sym first))

-- ---- a collection

abbrev pub told_count : Object × ℕ → told.Object × Sum
told_count e = (printed e.0, Some e.1)

pub codes-tell : (c : ℕ) (es : List (Object × ℕ)) → counts_told (all_rows (code_groups c es)) ≡ map told_count es
unfolding code_line
codes-tell c [] = refl
codes-tell c (e ∷ es) = ap (λ zs. told_count e ∷ zs) (codes-tell c es)

fit-counts : (es : List (Object × ℕ)) → Each (λ (e : Object × ℕ). e.1 < 2 ^ 64) es → map told_count es ≡ map printed_count es
fit-counts [] h = refl
fit-counts (e ∷ es) h = (λ i. (printed e.0, cond (sym (lt-ltb e.1 (2 ^ 64) h.0) i) (Some e.1) Nothing) ∷ fit-counts es h.1 i)

-- the `code` lines say what the lines before them count
pub section-tallied : (c : ℕ) (f : Collection) → IsLawfulCollection f
    → counts_told (all_rows (code_groups c (counted_in f))) ≡ (counted_by nothing_counted (all_rows (saying_lines c 1 f.sayings))).sums
section-tallied c f h =
    codes-tell c (counted_in f) ∙ fit-counts (counted_in f) h.told.1 ∙ sym (patterns-counted c 1 f.sayings [] [] h.ruled h.fair tt)
