use Rattle.std.proofs.Common.{◌≡◌, ◌+◌, ◌++◌, Some, length, replicate, slice_get, take, refl, sym, ap, ◌∙◌, arith, append_assoc}
use Rattle.std.proofs.lemmas.List.{length-append}
use Rattle.std.proofs.lemmas.Option.{slice_get_read}
use Rattle.census_format.specs.Objects.{object, part_objects, same_object, tally}
use Rattle.census_format.proofs.AshParts.{length-part_objects, objects_take, objects_taken, part_objects_taken}
use Rattle.census_format.proofs.closing.count_parts.Goals as goal

pub count_object-requires-clause-tally : goal.count_object-requires-clause-tally
count_object-requires-clause-tally c =
    let rule = c.args.rule.now in
    let before = take c.loop-part.part-index c.args.parts.now in
    let ks = c.requires.tally.objects in
    record {
      objects = ks ++ part_objects rule before;
      few =
          let most = objects_take c.args.parts.now c.loop-part.part-index in
          omega (arith, length-append ks (part_objects rule before), length-part_objects rule before, most, c.requires.tally.few, c.requires.few);
      is = c.loop-part.invariant ks c.requires.tally.is;
    }

pub count_object-requires-clause-few : goal.count_object-requires-clause-few
count_object-requires-clause-few c =
    let parts = c.args.parts.now in
    let i = c.loop-part.part-index in
    let part = c.part-item.result in
    let at : slice_get parts i ≡ Some part = slice_get_read parts (length parts) i part refl c.loop-part-test.true c.part-item.is in
    omega (arith, c.requires.few, objects_taken parts i part at, objects_take parts (i + 1))

pub loop-part-preserved : goal.loop-part-preserved
loop-part-preserved c = λ ks is.
    let rule = c.args.rule.now in
    let parts = c.args.parts.now in
    let i = c.loop-part.part-index in
    let part = c.part-item.result in
    let at : slice_get parts i ≡ Some part = slice_get_read parts (length parts) i part refl c.loop-part-test.true c.part-item.is in
    let before = part_objects rule (take i parts) in
    c.in_ok-count_object.ensures (ks ++ before) (c.loop-part.invariant ks is)
    ∙ ap (λ o. tally same_object ((ks ++ before) ++ replicate part.count o)) (c.of.ensures ∙ ap (object rule) c.as_slice.ensures)
    ∙ ap (tally same_object) (append_assoc ks before (replicate part.count (object rule part.code)))
    ∙ ap (λ os. tally same_object (ks ++ os)) (sym (part_objects_taken rule parts i part at))
