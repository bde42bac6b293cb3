-- What is reported of engines has numbers in the range of a line.
use Rattle.std.proofs.Common.{◌≡◌, ◌≢◌, ℕ, zero, suc, ◌+◌, ◌*◌, ◌<◌, ◌≤◌, ◌^◌, Bool, Some, List, [], ◌∷◌, ◌++◌, length, map, sym, ap, subst, ◌∙◌, arith}
use Rattle.std.specs.List.{All, AllByRecursion as Each, Contains}
use Rattle.std.proofs.lemmas.List.{length-append, length-map}
use Rattle.std.proofs.lemmas.List.Elements.{All-head, All-tail, All-weaker}
use Rattle.census_readback.specs.Limits.{period_limit}
use Rattle.life_answer.specs.Census.{counted_parts, part_code}
use Rattle.life_answer.specs.Counted.{code_bound, counted_as, counted_of}
use Rattle.life_answer.specs.CountedTales.{engines_in}
use Rattle.life_answer.specs.Parts.{objects_in}
use Rattle.life_answer.specs.Ranges.{IsInRange}
use Rattle.life_answer.specs.Tales.{tale_of}
use Rattle.life_answer.specs.Told.{growth_told}
use Rattle.life_answer.specs.declared.part.Part.{Part}
use Rattle.life_answer.specs.declared.tale.Engines.{Engines}
use Rattle.life_answer.proofs.CountedTales.{lines_add_up}
use Rattle.life_answer.proofs.Ranges.{lines_in_range, wider}
use Rattle.life_answer.proofs.Tales.{emits_objects, tale_right}
use Rattle.life_answer.proofs.Tallying.{counted_all}
use Rattle.life_answer.proofs.Told.{growth_is_so}
use Rattle.life_objects.proofs.Found.{owned}
use Rattle.life_cells.proofs.Places.{generation_within, place_of, subset_within}
use Rattle.life_cells.specs.Limits.{IsWithin}
use Rattle.life_growth.specs.Engine.{Emits, IsEngine, IsEngineWithin, Way, joined}
use Rattle.life_growth.specs.Growth.{IsGrowth}
use Rattle.life_growth.proofs.Emitting.{emits_some}
use Rattle.life_growth.proofs.Growing.{generation-one}
use Rattle.life_growth.proofs.OneGrowth.{IsUnsplit-engine, engines_apart}
use Rattle.life_model.specs.Evolution.{generation}
use Rattle.life_model.specs.Generation.{Generation, cells, contains, empty}
use Rattle.life_model.specs.Rule.{Rule}
use Rattle.life_objects.specs.Apart.{AreApart, AreDisjoint}
use Rattle.life_objects.specs.Limits.{objects_bound_limit}
use Rattle.life_objects.specs.Union.{union, union_of}
use Rattle.life_objects.proofs.Distances.{disjoint_from_apart}
use Rattle.life_objects.proofs.Lists.{AllPairs-weaker, Contains-head, Contains-later}
use Rattle.life_objects.proofs.Unions.{in_first, in_second}
use Rattle.census_merge.specs.Ranges.{FitsEmitted, FitsEngines, FitsTale, IsCodedPart}
use Rattle.census_merge.proofs.Named.{each-of}
use Rattle.census_merge.proofs.Tales.{OfEngines, counted-holds}
use Rattle.census_merge.proofs.BoundsLemmas.CellCounts.{few_sets}
use Rattle.census_merge.proofs.BoundsLemmas.Codes.{counted-coded}
use Rattle.census_merge.proofs.BoundsLemmas.CountedCells.{apart_now, few_counted}
use Rattle.census_merge.proofs.BoundsLemmas.Leaving.{emitted-away}

-- ---- how much an engine emits

counts-append : (near : Bool) (R : Rule) (b : ℕ) (Ps Qs : List Generation) →
    length (counted_of near R b (Ps ++ Qs)) ≡ length (counted_of near R b Ps) + length (counted_of near R b Qs)
counts-append near R b [] Qs = omega arith
counts-append near R b (P ∷ Ps) Qs =
    let here = counted_as near R b P in
    let rest = counts-append near R b Ps Qs in
    let all = length-append here (counted_of near R b (Ps ++ Qs)) in
    let some = length-append here (counted_of near R b Ps) in
    omega arith

each-at-most : (parts : List Part) (most : ℕ) → objects_in parts ≤ most → Each (λ (p : Part). p.count ≤ most) parts
each-at-most [] most few = tt
each-at-most (p ∷ parts) most few = (omega arith, each-at-most parts most (omega arith))

-- what is reported of growth fits a report
pub record FitsGrowth (told : List Engines) : Type 0 where
  pub few : engines_in told < 2 ^ 64
  pub each : Each FitsEngines told

both-each : (parts : List Part) → Each IsCodedPart parts → Each (λ (p : Part). p.count ≤ 2 ^ 62) parts → Each FitsEmitted parts
both-each [] coded few = tt
both-each (p ∷ parts) coded few =
    let here = few.0 in
    ((coded.0, omega (arith, here)), both-each parts coded.1 few.1)

module _ (R : Rule) (near : Bool) (h c : ℕ) (soon : h ≤ period_limit) (young : c ≤ objects_bound_limit) where
  module _ (E : Generation) (stands : All (IsWithin c) (cells E)) (way : Way) (engine : IsEngine R h E way) where
    -- where the core is after n steps, and what leaves it then
    stepped : (n : ℕ) → n < way.period → All (IsWithin (c + n)) (cells (way.core n)) →
        All (IsWithin (c + n + 1)) (cells (union (way.core (suc n)) (way.left n)))
    stepped n less core =
        subst (λ G. All (IsWithin (c + n + 1)) (cells G)) (generation-one R (way.core n) ∙ sym (engine.leaves n less).together)
        (generation_within R (c + n) (way.core n) core 1)

    core-stands : (n : ℕ) → n ≤ way.period → All (IsWithin (c + n)) (cells (way.core n))
    core-stands zero le =
        subst (λ k. All (IsWithin k) (cells (way.core 0))) (let e : c ≡ c + 0 = omega arith in e)
        (subst (λ G. All (IsWithin c) (cells G)) (sym engine.start) stands)
    core-stands (suc n) le =
        let less : n < way.period = omega arith in
        subset_within (c + n + 1) (c + suc n) (omega arith) (way.core (suc n)) (union (way.core (suc n)) (way.left n))
        (in_first (way.core (suc n)) (way.left n)) (stepped n less (core-stands n (omega arith)))

    left-stands : (n : ℕ) → n < way.period → All (IsWithin (c + n + 1)) (cells (way.left n))
    left-stands n less =
        subset_within (c + n + 1) (c + n + 1) (omega arith) (way.left n) (union (way.core (suc n)) (way.left n))
        (in_second (way.core (suc n)) (way.left n)) (stepped n less (core-stands n (omega arith)))

    module _ (objects : List Generation) (emits : Emits R h way objects) where
      few-left : (n : ℕ) → n < way.period → length (counted_of near R h (emits.ashes n)) ≤ 2 ^ 48
      few-left n less =
          let within = engine.within in
          let age : ℕ = (c + n + 1) + h in
          few_counted R h near (generation R (way.left n) h) (emits.ashes n) (emits.each n less) age (omega arith)
          (place_of age (generation R (way.left n) h) (generation_within R (c + n + 1) (way.left n) (left-stands n less) h))

      few-joined : (k : ℕ) → k ≤ way.period → length (counted_of near R h (joined emits.ashes k)) ≤ k * 2 ^ 48
      few-joined zero le = omega arith
      few-joined (suc k) le =
          let before = few-joined k (omega arith) in
          let last = few-left k (omega arith) in
          let both = counts-append near R h (joined emits.ashes k) (emits.ashes k) in
          omega arith

      few-emitted : objects_in (counted_parts near R h objects) ≤ 2 ^ 62
      few-emitted =
          let within = engine.within in
          let sets = counted_of near R h objects in
          let most = few-joined way.period (omega arith) in
          let same = ap (λ Ps. length (counted_of near R h Ps)) emits.together in
          let counted = counted_all (map (part_code R (code_bound h)) sets) in
          let long = length-map sets (part_code R (code_bound h)) in
          omega arith

      fits-emitted : Each FitsEmitted (counted_parts near R h objects)
      fits-emitted =
          both-each (counted_parts near R h objects) (counted-coded R h near objects (emits_objects R h way objects emits))
          (each-at-most (counted_parts near R h objects) (2 ^ 62) few-emitted)

    tale-fits : FitsTale (tale_of near R h E)
    tale-fits =
        let some = emits_some R h E way engine in
        subst FitsTale (sym (tale_right R near h E way some.0 engine some.1))
        (fits-emitted some.0 some.1, emitted-away R near h E way engine some.0 some.1)

  tales-fit : (Es : List Generation) → All (IsEngineWithin R h) Es → ((E : Generation) → Contains Es E → All (IsWithin c) (cells E)) →
      Each FitsTale (map (tale_of near R h) Es)
  tales-fit [] engines stand = tt
  tales-fit (E ∷ Es) engines stand =
      let first = All-head (IsEngineWithin R h) E Es engines in (
        tale-fits E (stand E (Contains-head E Es)) first.0 first.1,
        tales-fit Es (All-tail (IsEngineWithin R h) E Es engines) (λ F one. stand F (Contains-later E F Es one)),
      )

  -- ---- growth

  lines-fit : (told : List Engines) → Each (IsInRange h) told → Each (OfEngines FitsTale) told → Each FitsEngines told
  lines-fit [] range emits = tt
  lines-fit (line ∷ told) range emits = ((wider h period_limit line soon range.0, emits.0.0, emits.0.1), lines-fit told range.1 emits.1)

  engines-few : (G : Generation) (Es : List Generation) (S : Generation) → IsGrowth R h G Es S → All (IsWithin c) (cells G) → length Es ≤ 2 ^ 48
  engines-few G Es S growth stands =
      let some = All-weaker (IsEngineWithin R h) (λ E. E ≢ empty) (λ E engine. (IsUnsplit-engine R h E engine.0 engine.1).nonempty) Es growth.each in
      let apart = AllPairs-weaker AreApart AreDisjoint disjoint_from_apart Es (apart_now R Es (engines_apart R h G Es S growth)) in
      few_sets Es some apart c (omega arith)
      (λ q has. place_of c G stands q (ap (λ H. contains H q) (sym growth.together) ∙ in_second S (union_of Es) q has))

  engine-stands : (G : Generation) (Es : List Generation) (S : Generation) → IsGrowth R h G Es S → All (IsWithin c) (cells G) →
      (E : Generation) → Contains Es E → All (IsWithin c) (cells E)
  engine-stands G Es S growth stands E one =
      subset_within c c (omega arith) E G
      (λ q has. ap (λ H. contains H q) (sym growth.together) ∙ in_second S (union_of Es) q (owned Es E q one has)) stands

  pub growth-fits : (G : Generation) → All (IsWithin c) (cells G) → (told : List Engines) → growth_told near R h G ≡ Some told → FitsGrowth told
  growth-fits G stands told e =
      let q = growth_is_so near R h G told e in
      let Es = q.0 in
      let emits = subst (Each (OfEngines FitsTale)) (sym q.3)
      (counted-holds FitsTale (map (tale_of near R h) Es)
      (tales-fit Es q.2.each (engine-stands G Es q.1 q.2 stands))) in
      let most = engines-few G Es q.1 q.2 stands in
      let all = lines_add_up (map (tale_of near R h) Es) in
      let long = length-map Es (tale_of near R h) in
      let same = ap engines_in q.3 in
      record {
        few = omega arith;
        each = lines-fit told (each-of (IsInRange h) told (lines_in_range R near h G told e)) emits;
      }
