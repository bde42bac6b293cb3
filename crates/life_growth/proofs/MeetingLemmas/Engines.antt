-- The listed things of an engine are all its things.
use Rattle.std.proofs.Common.{◌≡◌, ℕ, ◌+◌, ◌*◌, ◌<◌, true, List, ◌∷◌, map, flat_map, inl, inr, sym, ap, subst, ◌∙◌, arith}
use Rattle.std.specs.List.{Contains}
use Rattle.std.proofs.lemmas.List.Elements.{Contains-append_cases, Contains-append_left, Contains-append_right}
use Rattle.life_model.specs.Cell.{Cell, opposite, plus}
use Rattle.life_model.specs.Rule.{Rule}
use Rattle.life_model.specs.Generation.{Generation, contains}
use Rattle.life_model.specs.Evolution.{generation}
use Rattle.life_model.specs.Symmetry.{translate_of}
use Rattle.std.proofs.lemmas.Int.{ints}
use Rattle.life_model.proofs.Cells.{pair}
use Rattle.life_model.proofs.Moves.{moved-moved}
use Rattle.life_model.proofs.Symmetries.{contains-moved}
use Rattle.life_objects.specs.Ash.{HasFallenApart}
use Rattle.life_objects.specs.Drift.{multiple_of}
use Rattle.life_objects.proofs.Found.{Contains-flat_map, of_flat_map, of_map}
use Rattle.life_growth.specs.Engine.{IsEngine, Way}
use Rattle.life_growth.specs.Things.{IsEngineThing, IsMadeOf, IsSettledThing, Thing, core_thing, left_thing, lefts_within, move_of, set_then, time_of, time_then}
use Rattle.life_growth.proofs.Things.{engine_is_made, how_often, lefts_are_made, settled_is_made}
use Rattle.life_growth.specs.Meeting.Listed.{engine_things, numbers_below, settled_things}
use Rattle.life_growth.proofs.MeetingLemmas.Listed.{listed_all, listed_below, of_below, settled_by_listed}
use Rattle.life_growth.proofs.MeetingLemmas.Reach.{mapped}

pub moved_in_turn : (A : Generation) (d e : Cell) → translate_of A (plus d e) ≡ translate_of (translate_of A e) d
moved_in_turn A d e =
    ap (translate_of A) (let z : plus d e ≡ plus e d = pair (omega (arith, ints)) (omega (arith, ints)) in z)
    ∙ sym (moved-moved A e d)

module _ (R : Rule) (a b : ℕ) (E : Generation) (way : Way) (engine : IsEngine R a E way) (ashes : ℕ → List Generation)
    (fallen : (n : ℕ) → n < way.period → HasFallenApart R b (way.left n) (ashes n)) where
  abbrev p : ℕ
  p = way.period

  abbrev things : List Thing
  things = engine_things R b way ashes

  abbrev settled : ℕ → List Thing
  settled n = settled_things R b (way.left n) (ashes n)

  abbrev lefts : ℕ → List Thing
  lefts n = map (left_thing way n) (settled n)

  of_engine : (thing : Thing) → Contains things thing → IsEngineThing way (lefts_within R b way ashes) thing
  unfolding engine_things
  of_engine thing one =
      elim (Contains-append_cases (map (core_thing way) (numbers_below p)) (flat_map lefts (numbers_below p)) thing one) [
        | inl core ↦
            let q = of_map (core_thing way) (numbers_below p) thing core in
            inl (q.0, of_below p q.0 q.1, sym q.2)
        | inr left ↦
            let q = of_flat_map lefts (numbers_below p) thing left in
            let r = of_map (left_thing way q.0) (settled q.0) thing q.2 in
            let h : q.0 < p = of_below p q.0 q.1 in
            inr (q.0, h, r.0, settled_by_listed R b (way.left q.0) (ashes q.0) (fallen q.0 h) r.0 r.1, sym r.2)
      ]

  listed_core : (n : ℕ) → n < p → Contains things (core_thing way n)
  unfolding engine_things
  listed_core n h =
      Contains-append_left (map (core_thing way) (numbers_below p)) (flat_map lefts (numbers_below p)) (core_thing way n)
      (mapped (core_thing way) (numbers_below p) n (listed_below p n h))

  listed_left : (n : ℕ) (it : Thing) → n < p → Contains (settled n) it → Contains things (left_thing way n it)
  unfolding engine_things
  listed_left n it h of =
      Contains-append_right (map (core_thing way) (numbers_below p)) (flat_map lefts (numbers_below p)) (left_thing way n it)
      (Contains-flat_map lefts (numbers_below p) n (left_thing way n it) (listed_below p n h)
      (mapped (left_thing way n) (settled n) it of))

  abbrev Stands : ℕ → Cell → Type 0
  Stands t c =
      (thing : Thing) × Contains things thing × (often : List ℕ) × (time_then thing often ≡ t) ×
      (contains (set_then thing often) c ≡ true)

  left_stands : (n : ℕ) (it : Thing) (often : List ℕ) (c : Cell) → n < p →
      IsSettledThing R b (way.left n) (ashes n) it → contains (set_then (left_thing way n it) often) c ≡ true →
      Stands (time_then (left_thing way n it) often) c
  left_stands n it often c h is there =
      let o = how_often p way.displacement it.ways often in
      let by : Cell = multiple_of o.first way.displacement in
      let c0 : Cell = plus c (opposite by) in
      let before : contains (set_then it o.others) c0 ≡ true =
      sym (contains-moved (set_then it o.others) by c)
      ∙ ap (λ K. contains K c) (sym (moved_in_turn it.set by (move_of it.ways o.others)))
      ∙ ap (λ m. contains (translate_of it.set m) c) (sym o.moves) ∙ there in
      let now = (settled_is_made R b b (way.left n) (ashes n) (fallen n h)).each it is o.others c0 before in
      let q = listed_all R b (way.left n) (ashes n) (fallen n h) (time_then it o.others) c0 now in
      let same : q.0.time + time_of q.0.ways q.2 ≡ it.time + time_of it.ways o.others = q.3 in
      let long : time_of ((p, way.displacement) ∷ it.ways) often ≡ o.first * p + time_of it.ways o.others = o.times in (
        left_thing way n q.0,
        listed_left n q.0 h q.1,
        o.first ∷ q.2,
        omega arith,
        ap (λ K. contains K c) (moved_in_turn q.0.set by (move_of q.0.ways q.2))
            ∙ contains-moved (set_then q.0 q.2) by c ∙ q.4,
      )

  engine_all : (t : ℕ) (c : Cell) → contains (generation R E t) c ≡ true → Stands t c
  engine_all t c h =
      let q = (engine_is_made R a E way engine (lefts_within R b way ashes) (lefts_are_made R b way ashes fallen)).all t c h in
      elim q.1 [
        | inl core ↦
            (q.0, subst (Contains things) (sym core.2) (listed_core core.0 core.1), q.2, q.3, q.4)
        | inr left ↦
            subst (λ m. Stands m c) q.3
            (subst (λ thing. Stands (time_then thing q.2) c) (sym left.4)
            (left_stands left.0 left.2 q.2 c left.1 left.3 (subst (λ thing. contains (set_then thing q.2) c ≡ true) left.4 q.4)))
      ]

  pub engine_is_listed : IsMadeOf R E (Contains things)
  engine_is_listed =
      record {
        each = λ thing one. (engine_is_made R a E way engine (lefts_within R b way ashes) (lefts_are_made R b way ashes fallen)).each thing (of_engine thing one);
        all = engine_all;
      }
