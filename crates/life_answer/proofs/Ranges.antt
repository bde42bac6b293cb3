-- What is reported about engines is in range.
use Rattle.std.proofs.Common.{◌≡◌, ◌≢◌, ℕ, Option, zero, suc, ◌<◌, ◌≤◌, min, Bool, true, false, cond, List, [], ◌∷◌, length, map, flat_map, Some, inl, inr, refl, sym, ap, subst, ◌∙◌, arith}
use Rattle.std.specs.List.{All, Contains}
use Rattle.std.proofs.lemmas.Bool.{cases_lt}
use Rattle.std.proofs.lemmas.List.{length-append, length-map}
use Rattle.std.proofs.lemmas.List.Elements.{All-contains_itself, All-head, All-weaker}
use Rattle.life_model.specs.Rule.{Rule}
use Rattle.life_model.specs.Generation.{Generation, empty}
use Rattle.life_model.specs.Evolution.{generation}
use Rattle.life_objects.specs.Ash.{IsObject}
use Rattle.life_objects.specs.Limits.{objects_bound_limit}
use Rattle.life_objects.specs.Union.{union_of}
use Rattle.life_parts.specs.Independent.Independent.{independent_parts_of}
use Rattle.life_parts.proofs.IndependentLemmas.Finest.{are_the_parts}
use Rattle.life_objects.proofs.Found.{of_map}
use Rattle.life_growth.specs.Engine.{Emits, IsEngine, Way, joined}
use Rattle.life_growth.proofs.Emitting.{emits_some}
use Rattle.life_growth.proofs.OneGrowth.{engine_of, some_element}
use Rattle.life_answer.specs.Census.{counted_parts, part_code}
use Rattle.life_answer.specs.Counted.{all_come_again, code_bound, counted_of}
use Rattle.life_answer.specs.CountedTales.{counted_tales, engines_in, same_tale}
use Rattle.life_answer.specs.Parts.{objects_in}
use Rattle.life_answer.specs.Questions.{outcome_to}
use Rattle.life_answer.specs.Ranges.{IsInRange}
use Rattle.life_answer.specs.Tales.{tale_by, tale_of}
use Rattle.life_answer.specs.Told.{growth_told}
use Rattle.life_answer.specs.declared.finding.Outcome.TheVariants.{Grows}
use Rattle.life_answer.specs.declared.question.Question.TheVariants.{Objects}
use Rattle.life_answer.specs.declared.tale.Engines.{Engines}
use Rattle.life_answer.proofs.CountedSets.{codes_as, codes_of_each}
use Rattle.life_answer.proofs.CountedTales.{line_number, lines_add_up}
use Rattle.life_answer.proofs.Growing.{allowed, its_growth}
use Rattle.life_answer.proofs.Moving.{not_above, not_below, not_left, not_right}
use Rattle.life_answer.proofs.Permuted.{counted_is_in}
use Rattle.life_answer.proofs.TaleOrders.{same_by_test, test_by_same}
use Rattle.life_answer.proofs.Tales.{emits_objects, tale_right}
use Rattle.life_answer.proofs.Tallying.{counted_all}
use Rattle.life_answer.proofs.Told.{growth_is_so}

-- ---- an engine emits something

length-joined : (lists : ℕ → List Generation) (k n : ℕ) → n < k → length (lists n) ≤ length (joined lists k)
length-joined lists zero n below = absurd (omega arith)
length-joined lists (suc k) n below =
    let e = length-append (joined lists k) (lists k) in
    elim (cases_lt n k) [
      | inl before ↦ let rest = length-joined lists k n before in omega arith
      | inr not_before ↦
          let same : length (lists n) ≡ length (lists k) = ap (λ m. length (lists m)) (let z : n ≡ k = omega arith in z) in
          omega arith
    ]

module _ (R : Rule) where
  some_parts : (G : Generation) (parts : List Generation) → union_of parts ≡ G → G ≢ empty → 1 ≤ length parts
  some_parts G [] e some = absurd (some (sym e))
  some_parts G (P ∷ Ps) e some = omega arith

  emits_something : (b : ℕ) (E : Generation) (way : Way) (objects : List Generation) → IsEngine R b E way →
      Emits R b way objects → 1 ≤ length objects
  emits_something b E way objects engine emits =
      let n = engine.emitting.0 in
      let ash = emits.each n engine.emitting.1 in
      let some = some_parts (generation R (way.left n) b) (emits.ashes n) ash.together engine.emitting.2 in
      let among = length-joined emits.ashes way.period n engine.emitting.1 in
      let all = ap length emits.together in
      omega arith

  -- ---- and what it emits counts as something

  some_by : (b : ℕ) (P : Generation) (Qs : List Generation) (t : Bool) → 1 ≤ length Qs → 1 ≤ length (cond t Qs (P ∷ []))
  some_by b P Qs true some = some
  some_by b P Qs false some = omega arith

  some_codes : (near : Bool) (b : ℕ) (P : Generation) → IsObject R b P → 1 ≤ length (codes_as near R b P)
  some_codes true b P object = omega arith
  some_codes false b P object =
      let Qs = independent_parts_of R b P in
      let parts = some_parts P Qs (are_the_parts R b P object.recurs).together object.nonempty in
      let t = all_come_again R objects_bound_limit Qs in
      let some = some_by b P Qs t parts in
      let e = length-map (cond t Qs (P ∷ [])) (part_code R (code_bound b)) in
      omega arith

  counts_some : (near : Bool) (b : ℕ) (Ps : List Generation) → All (IsObject R b) Ps → 1 ≤ length Ps →
      1 ≤ objects_in (counted_parts near R b Ps)
  counts_some near b [] objects some = absurd (omega arith)
  counts_some near b (P ∷ Ps) objects some =
      let first = some_codes near b P (All-head (IsObject R b) P Ps objects) in
      let both = length-append (codes_as near R b P) (flat_map (codes_as near R b) Ps) in
      let all = counted_all (map (part_code R (code_bound b)) (counted_of near R b (P ∷ Ps))) in
      let same = ap length (codes_of_each near R b (P ∷ Ps)) in
      omega arith

  -- ---- engines

  engine_in_range : (near : Bool) (b : ℕ) (E : Generation) (way : Way) (line : Engines) → IsEngine R b E way →
      tale_of near R b E ≡ line.tale → 1 ≤ line.count → IsInRange b line
  engine_in_range near b E way line engine same count =
      let some = emits_some R b E way engine in
      let objects = some.0 in
      let told : tale_by near R b way objects ≡ line.tale = sym (tale_right R near b E way objects engine some.1) ∙ same in
      let soon : way.period ≤ b = engine.within in
      let emitted = counts_some near b objects (emits_objects R b way objects some.1)
      (emits_something b E way objects engine some.1) in
      subst (λ t. IsInRange b (record { tale = t; count = line.count })) told
      (record {
        some = count;
        later = engine.later;
        soon = soon;
        left = not_left R b E way engine;
        right = not_right R b E way engine;
        above = not_above R b E way engine;
        below = not_below R b E way engine;
        emits = emitted;
      })

  module _ (near : Bool) (b : ℕ) (G : Generation) (told : List Engines) (e : growth_told near R b G ≡ Some told) where
    pub lines_in_range : All (IsInRange b) told
    lines_in_range =
        let q = growth_is_so near R b G told e in
        let Es = q.0 in
        let tales = map (tale_of near R b) Es in
        subst (All (IsInRange b)) (sym q.3)
        (All-weaker (Contains (counted_tales tales)) (IsInRange b) (λ line one.
        let number = line_number tales line one in
        let some : 1 ≤ line.count = number.0 in
        let count = number.1 in
        let among = counted_is_in same_tale (λ t. test_by_same t t refl) same_by_test line.tale tales (omega arith) in
        let its = of_map (tale_of near R b) Es line.tale among in
        let engine = engine_of R b G Es q.1 q.2 its.0 its.1 in
        engine_in_range near b its.0 engine.0 line engine.1 its.2 some)
        (counted_tales tales) (All-contains_itself (counted_tales tales)))

    pub some_engines : 1 ≤ engines_in told
    some_engines =
        let q = growth_is_so near R b G told e in
        let Es = q.0 in
        let one = some_element R Es q.2.some in
        let place = one.1.1 in
        let all = lines_add_up (map (tale_of near R b) Es) in
        let each = length-map Es (tale_of near R b) in
        let same = ap engines_in q.3 in
        omega arith

-- ---- answers

pub wider : (h b : ℕ) (line : Engines) → h ≤ b → IsInRange h line → IsInRange b line
wider h b line le range =
    let soon : line.tale.period ≤ h = range.soon in
    record {
      some = range.some;
      later = range.later;
      soon = omega arith;
      left = range.left;
      right = range.right;
      above = range.above;
      below = range.below;
      emits = range.emits;
    }

module _ (near : Bool) (limit : Option ℕ) (R : Rule) (G : Generation) (b horizon : ℕ) (told : List Engines)
    (e : outcome_to (Objects b limit near horizon) R G ≡ Grows told) where
  abbrev c : ℕ
  c = allowed near limit R G b

  pub answer_in_range : All (IsInRange horizon) told
  answer_in_range =
      let h : ℕ = min horizon c in
      All-weaker (IsInRange h) (IsInRange horizon) (λ line range. wider h horizon line (omega arith) range) told
      (lines_in_range R near h (generation R G c) told (its_growth near limit R G b horizon told e))

  pub answer_has_some : 1 ≤ engines_in told
  answer_has_some =
      some_engines R near (min horizon c) (generation R G c) told (its_growth near limit R G b horizon told e)
