-- What grows within some number of generations is more than one island after these.
use Rattle.std.proofs.Common.{◌≡◌, ℕ, ◌+◌, ◌<◌, ◌≤◌, true, List, [], ◌∷◌, inl, inr, length, sym, ap, subst, ◌∙◌, arith}
use Rattle.life_model.specs.Cell.{Cell}
use Rattle.life_model.specs.Evolution.{generation}
use Rattle.life_model.specs.Generation.{Generation, contains, empty, size}
use Rattle.life_model.specs.Rule.{Rule}
use Rattle.life_model.proofs.Moves.{nothing_or_some}
use Rattle.life_model.proofs.Recurrences.{generation-zero}
use Rattle.life_objects.specs.Piece.{IsSplit, LivesThrough}
use Rattle.life_objects.specs.Union.{IsSubsetOf, union, union_of}
use Rattle.life_objects.specs.Whole.{StaysWhole}
use Rattle.std.proofs.lemmas.List.Elements.{All-head}
use Rattle.life_objects.proofs.Lists.{Contains-later}
use Rattle.life_objects.proofs.Unions.{in_empty, in_second, union-empty}
use Rattle.life_classes.specs.Tracking.{AreTracked, first_sets}
use Rattle.life_classes.specs.declared.class.Class.{Class}
use Rattle.life_growth.specs.Engine.{IsEngine, Way}
use Rattle.life_growth.specs.Growth.{IsGrowth}
use Rattle.life_growth.specs.Onward.{endless}
use Rattle.life_growth.proofs.Endless.{core_first, goes_on, left_first}
use Rattle.life_growth.proofs.Growing.{more_than_core}
use Rattle.life_growth.proofs.Lasting.{core_part}
use Rattle.life_growth.proofs.OneGrowth.{IsPart-growth, engine_of, some_element}
use Rattle.life_growth.proofs.Parts.{IsPart, disjoint_now, part_later, part_within}
use Rattle.life_strays.proofs.Belonging.{part_of_part}
use Rattle.life_census.specs.Grown.{NeverGrows}

-- classes of which there is at most one are in no split torn
pub one_class : (R : Rule) (G : Generation) (cs : List Class) → AreTracked R 0 0 G cs → length cs ≤ 1 → StaysWhole R 0 G G
one_class R G [] tracked few =
    λ A B split. inl (λ c there. absurd (in_empty c (ap (λ H. contains H c) tracked.together ∙ there)))
one_class R G (one ∷ []) tracked few =
    subst (StaysWhole R 0 G) (sym (union-empty one.first) ∙ tracked.together) (All-head (λ c. StaysWhole R 0 G c.first) one [] tracked.whole)
one_class R G (one ∷ (other ∷ cs)) tracked few = absurd (omega arith)

module _ (R : Rule) (b : ℕ) (E : Generation) (way : Way) (engine : IsEngine R b E way) where
  abbrev core : Generation
  core = (endless way).core b

  lives : LivesThrough R b ((endless way).left engine.emitting.0)
  lives =
      subst (LivesThrough R b) (sym (left_first R b E way engine engine.emitting.0 engine.emitting.1)) engine.emitting.2

  inner : IsPart R core (generation R E b)
  inner = core_part R b b E way engine

  -- what an engine has become is more than its core
  more : size core < size (generation R E b)
  more =
      let early : engine.emitting.0 < b = let h = engine.emitting.1 in let k = engine.within in omega arith in
      let all : size (generation R core 0) < size (generation R ((endless way).core 0) (b + 0)) =
      more_than_core R b (endless way) (goes_on R b E way engine) engine.emitting.0 lives b early 0 in
      let now : size (generation R core 0) ≡ size core = ap size (generation-zero R core) in
      let same : size (generation R ((endless way).core 0) (b + 0)) ≡ size (generation R E b) =
      ap (λ H. size (generation R H (b + 0))) (core_first R b E way engine 0 (omega arith) ∙ engine.start)
      ∙ ap (λ m. size (generation R E m)) (let e : b + 0 ≡ b = omega arith in e) in
      omega arith

  has_left_some : (c : Cell) × (contains inner.rest c ≡ true)
  has_left_some = elim (nothing_or_some inner.rest) [
    | inl none ↦
        let same : size core ≡ size (generation R E b) =
        ap size (sym (union-empty core) ∙ ap (union core) (sym none) ∙ inner.together) in
        let less = more in
        absurd (omega arith)
    | inr some ↦ some
  ]

  module _ (G : Generation) (part : IsPart R E G) where
    abbrev H : Generation
    H = generation R G b

    later : IsPart R (generation R E b) H
    later = part_later R E G part b

    whole : IsPart R core H
    whole = part_of_part R core (generation R E b) H inner later

    not_in_core : IsSubsetOf H core → ⊥
    not_in_core within =
        let some = has_left_some in
        let there : contains (generation R E b) some.0 ≡ true =
        ap (λ K. contains K some.0) (sym inner.together) ∙ in_second core inner.rest some.0 some.1 in
        disjoint_now R core inner.rest inner.apart some.0
        (within some.0 (part_within R (generation R E b) H later some.0 there)) some.1

    not_in_rest : IsSubsetOf H whole.rest → ⊥
    not_in_rest within = elim (nothing_or_some core) [
      | inl none ↦ ((goes_on R b E way engine).whole b).nonempty none
      | inr some ↦
          disjoint_now R core whole.rest whole.apart some.0 some.1
          (within some.0 (part_within R core H whole some.0 some.1))
    ]

    pub engine_parts : StaysWhole R 0 H H → ⊥
    engine_parts stays =
        elim (stays core whole.rest (record { together = whole.together; apart = λ n less. whole.apart n })) [
          | inl here ↦ not_in_core here
          | inr there ↦ not_in_rest there
        ]

pub one_island_never_grows : (R : Rule) (b : ℕ) (G : Generation) → StaysWhole R 0 (generation R G b) (generation R G b) →
    NeverGrows R b G
one_island_never_grows R b G stays Es S growth =
    let one = some_element R Es growth.some in
    let engine = engine_of R b G Es S growth one.0 one.1 in
    engine_parts R b one.0 engine.0 engine.1 G
    (IsPart-growth R b G Es S growth one.0 (Contains-later S one.0 Es one.1)) stays
