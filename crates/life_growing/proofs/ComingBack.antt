-- Sets that come back, moved, in a later generation.
use Rattle.std.proofs.Common.{◌≡◌, ℕ, ◌+◌, ◌<◌, Bool, true, false, List, [], ◌∷◌, ◌++◌, cond, filter, get_or, length, take, inl, inr, sym, ap, subst, ◌∙◌, arith}
use Rattle.std.proofs.lemmas.Int.{ints}
use Rattle.std.proofs.lemmas.List.{append-nil, take_more}
use Rattle.std.proofs.lemmas.List.Elements.{filter-append}
use Rattle.life_model.specs.Cell.{Cell, opposite, origin, plus}
use Rattle.life_model.specs.Evolution.{generation}
use Rattle.life_model.specs.Generation.{Generation, cells, contains}
use Rattle.life_model.specs.Rule.{Rule}
use Rattle.life_model.specs.Symmetry.{translate_of}
use Rattle.life_model.proofs.Cells.{plus-opposite}
use Rattle.life_model.proofs.Symmetries.{contains-moved}
use Rattle.life_objects.specs.Apart.{AreDisjoint}
use Rattle.life_objects.specs.Union.{IsSubsetOf, union}
use Rattle.life_objects.proofs.Sides.{within_each_other}
use Rattle.life_objects.proofs.Unions.{in_first, in_second, in_union}
use Rattle.life_apart.specs.Alone.{others_of}
use Rattle.life_apart.proofs.Loners.{in_others, in_set_or_others}
use Rattle.life_islands.proofs.Labelled.{listed_cell, place_in_list}
use Rattle.life_plane.proofs.Offsets.{plus_back}
use Rattle.life_growth.specs.Engine.{FallsApart, IsEngine, Way}
use Rattle.life_growth.specs.Onward.{debris_after, endless}
use Rattle.life_growth.proofs.Endless.{core_first}
use Rattle.life_growth.proofs.Lasting.{core_from_debris, debris_falls_apart, engine_becomes}
use Rattle.life_growth.proofs.Outgrowing.{outgrows_itself}
use Rattle.life_growth.proofs.Parts.{disjoint_now}
use Rattle.life_growing.specs.Populations.{ArePopulations, FallsBack}
use Rattle.life_cells.specs.Limits.{IsPlace}
use Rattle.life_growing.specs.Returning.{ComesBackBy, IsMove}

-- what a set adds to another, with which it shares no cell, is what is left without that one
left_is : (M X G : Generation) → union M X ≡ G → AreDisjoint M X → others_of G M ≡ X
left_is M X G together apart =
    let sub : IsSubsetOf M G = λ c h. ap (λ H. contains H c) (sym together) ∙ in_first M X c h in
    within_each_other (others_of G M) X
    (λ c h.
    let both = in_others G M c h in
    elim (in_union M X c (ap (λ H. contains H c) together ∙ both.0)) [
      | inl one ↦ absurd (both.1 one)
      | inr other ↦ other
    ])
    (λ c h. elim (in_set_or_others G M sub c (ap (λ H. contains H c) (sym together) ∙ in_second M X c h)) [
      | inl one ↦ absurd (apart c one h)
      | inr other ↦ other
    ])

module _ (R : Rule) (b : ℕ) (E : Generation) (way : Way) (engine : IsEngine R b E way) where
  abbrev moved : Generation
  moved = translate_of E way.displacement

  abbrev debris : Generation
  debris = debris_after R way way.period

  core_is : (endless way).core way.period ≡ moved
  core_is = core_first R b E way engine way.period (omega arith) ∙ engine.again

  becomes : union moved debris ≡ generation R E way.period
  becomes =
      ap (λ H. union H debris) (sym core_is) ∙ sym (engine_becomes R b way.period E way engine)

  share_none : AreDisjoint moved debris
  share_none =
      subst (λ H. AreDisjoint H debris) core_is
      (disjoint_now R ((endless way).core way.period) debris (core_from_debris R b way.period E way engine))

  -- after a period an engine has come back, and what is left then falls apart
  pub engine_comes_back : ComesBackBy R b E (generation R E way.period) way.displacement
  engine_comes_back = record {
    among = λ c h. ap (λ H. contains H c) (sym becomes) ∙ in_first moved debris c h;
    settles = subst (FallsApart R b) (sym (left_is moved debris (generation R E way.period) becomes share_none))
        (debris_falls_apart R b way.period E way engine);
  }

  -- some generation would have no fewer cells than the one a period later
  pub never_falls_back : (counts : List ℕ) → ArePopulations R E (length counts) counts → FallsBack counts way.period → ⊥
  never_falls_back counts are falls =
      let within = falls.within in
      let no_more = falls.no_more in
      let then = are.each falls.place (omega arith) in
      let later = are.each (falls.place + way.period) (omega arith) in
      let more = outgrows_itself R b E way engine falls.place in
      absurd (omega arith)

-- a cell of a set is in each set that has all of it, moved
pub moved_stands : (E G : Generation) (d c : Cell) → IsSubsetOf (translate_of E d) G → contains E c ≡ true →
    contains G (plus c d) ≡ true
moved_stands E G d c among h =
    among (plus c d) (contains-moved E d (plus c d) ∙ ap (contains E) (plus-opposite c d) ∙ h)

-- the move leads a listed cell to a cell of the later generation
pub move_to_one : (E G : Generation) (items all : List Cell) (i : ℕ) (d : Cell) → items ≡ cells E → all ≡ cells G →
    i < length items → IsSubsetOf (translate_of E d) G →
    (n : ℕ) × (n < length all) × (plus (get_or all n origin) (opposite (get_or items i origin)) ≡ d)
move_to_one E G items all i d of all_of inside among =
    let c = get_or items i origin in
    let at = place_in_list G all all_of (plus c d)
    (moved_stands E G d c among (listed_cell E items i of inside)) in
    (at.0, at.1, ap (λ q. plus q (opposite c)) at.2 ∙ plus_back c d)

-- the cells of a list that pass a test, and the next one if it does
module _ (test : Cell → Bool) (all : List Cell) (n : ℕ) (inside : n < length all) where
  next_is : (b : Bool) → test (get_or all n origin) ≡ b →
      filter test (take (n + 1) all) ≡ filter test (take n all) ++ cond b (get_or all n origin ∷ []) []
  next_is b e =
      ap (filter test) (take_more all n origin inside) ∙ filter-append test (take n all) (get_or all n origin ∷ [])
      ∙ ap (λ k. filter test (take n all) ++ cond k (get_or all n origin ∷ []) []) e

  pub next_passes : test (get_or all n origin) ≡ true →
      filter test (take n all) ++ get_or all n origin ∷ [] ≡ filter test (take (n + 1) all)
  next_passes e = sym (next_is true e)

  pub next_fails : test (get_or all n origin) ≡ false → filter test (take n all) ≡ filter test (take (n + 1) all)
  next_fails e = sym (next_is false e ∙ append-nil (filter test (take n all)))

-- how far one place of a list of cells is from another
pub steps_apart : {c e : Cell} → IsPlace c → IsPlace e → IsMove (plus e (opposite c))
steps_apart c e =
    let a1 = c.left in
    let a2 = c.right in
    let a3 = c.above in
    let a4 = c.below in
    let b1 = e.left in
    let b2 = e.right in
    let b3 = e.above in
    let b4 = e.below in
    record {
      left = omega (arith, ints);
      right = omega (arith, ints);
      above = omega (arith, ints);
      below = omega (arith, ints);
    }
