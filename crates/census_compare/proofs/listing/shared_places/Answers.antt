use Rattle.std.proofs.Common.{◌∙◌, List, ap, arith, drop, map, subst, take}
use Rattle.std.proofs.lemmas.List.{length-drop, length-map}
use Rattle.census_table.specs.declared.place.Place.{Place}
use Rattle.census_table.proofs.Texts.{rest-whole}
use Rattle.census_compare.specs.Order.{AreInOrder, key_of}
use Rattle.census_compare.specs.Same.{several}
use Rattle.census_compare.specs.declared.told.Told.{Told}
use Rattle.census_compare.proofs.Groups.{Walk, behind_places, taken, taken-order, walk_left}
use Rattle.census_compare.proofs.listing.shared_places.Goals as goal

pub loop-at-smaller : goal.loop-at-smaller
loop-at-smaller g c =
    let l = c.loop-at in
    let told : Place → Told = g.S.AtPlaces.told c.args.source.now in
    let on : Walk (map told (drop l.at c.args.places.now)) c.run_len-count.result =
    walk_left told c.args.places.now l.at _ (key_of c.keyed_at-told.result) c.run_len-count.result c.loop-at-test.true l.invariant.order (rest-whole l.at c.args.places.now)
    c.keyed_at-told.ensures c.run_len-count.ensures.count in
    omega (arith, on.on, c.loop-at-test.true)

pub loop-at-preserved : goal.loop-at-preserved
loop-at-preserved g c =
    let l = c.loop-at in
    let places = c.args.places.now in
    let n = c.run_len-count.result in
    let told : Place → Told = g.S.AtPlaces.told c.args.source.now in
    let on : Walk (map told (drop l.at places)) n =
    walk_left told places l.at _ (key_of c.keyed_at-told.result) n c.loop-at-test.true l.invariant.order (rest-whole l.at places)
    c.keyed_at-told.ensures c.run_len-count.ensures.count in
    let chosen = c.several_of.ensures told ∙ ap (λ (ps : List Place). several (map told (take n ps))) (rest-whole l.at places) in
    record {
      within = omega (arith, on.within, length-map (drop l.at places) told, length-drop l.at places, l.invariant.within);
      order = subst AreInOrder (behind_places told places l.at n) on.order;
      ordered = taken-order told places l.shared.items c.several_of.result.now c.extend_from_slice.new.self.items l.at n c.in_ok-extend_from_slice.ensures.items chosen l.invariant.ordered;
      same = λ key.
          taken told places l.shared.items c.several_of.result.now c.extend_from_slice.new.self.items l.at n key on c.in_ok-extend_from_slice.ensures.items
          chosen (l.invariant.same key);
    }
