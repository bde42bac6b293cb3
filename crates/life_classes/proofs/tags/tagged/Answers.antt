use Rattle.std.proofs.Common.{◌≡◌, [], ◌∷◌, ◌++◌, get_or, of_z, to_z, w64, refl, ap, ◌∙◌, arith}
use Rattle.std.proofs.lemmas.Int.{ints}
use Rattle.std.proofs.lemmas.List.{get_or_default}
use Rattle.life_model.specs.Cell.{origin}
use Rattle.life_classes.specs.declared.tags.Tag.{Tag}
use Rattle.life_classes.specs.Tags.{place_number}
use Rattle.life_classes.proofs.Lookups.{length_pushed, pushed}
use Rattle.life_classes.proofs.tags.tagged.Goals as goal

pub loop-label-preserved : goal.loop-label-preserved
loop-label-preserved c =
    let cells = c.args.cells.now in
    let n = c.loop-label.label in
    let old = c.loop-label.tags.items in
    let new = c.push.new.self.items in
    let low = c.place_number.ensures.low in
    let high = c.place_number.ensures.high in
    let back : to_z w64 (of_z w64 c.place_number.result) ≡ c.place_number.result = omega (arith, ints) in
    let tag : Tag = record { number = to_z w64 (of_z w64 c.place_number.result); label = n } in
    let is : new ≡ old ++ (tag ∷ []) = c.in_ok-push.ensures.items in
    let count = c.loop-label.invariant.count in
    record {
      count = length_pushed old new tag n count is;
      numbers = λ k d e h.
          pushed (λ m (t : Tag). t.number ≡ place_number (get_or cells m e)) old new tag n count is
          (λ m f l. c.loop-label.invariant.numbers m f e l)
          (back ∙ c.place_number.ensures.number ∙ ap place_number (get_or_default cells n origin e c.loop-label-test.true)) k d h;
      own = λ k d h. pushed (λ m (t : Tag). t.label ≡ m) old new tag n count is c.loop-label.invariant.own refl k d h;
    }
