use Rattle.std.proofs.Common.{◌≡◌, Some, length, map, slice_get, take, refl, sym, ap, ◌∙◌, arith}
use Rattle.std.proofs.lemmas.Option.{slice_get_read}
use Rattle.census_format.specs.Objects.{objects, same_object, tally}
use Rattle.census_format.proofs.AshParts.{map_taken, objects_more}
use Rattle.census_format.proofs.closing.tally_of.Goals as goal

pub count_answer-requires : goal.count_answer-requires
count_answer-requires c =
    record {
      objects = objects (map (λ a. a.now) (take c.loop-answer.answer-index c.args.answers.now));
      few = omega (arith, c.loop-answer.invariant.1, c.loop-answer-test.true, c.requires);
      is = c.loop-answer.invariant.0;
    }

pub loop-answer-preserved : goal.loop-answer-preserved
loop-answer-preserved c =
    let xs = c.args.answers.now in
    let i = c.loop-answer.answer-index in
    let x = c.answer-item.result in
    let at : slice_get xs i ≡ Some x = slice_get_read xs (length xs) i x refl c.loop-answer-test.true c.answer-item.is in
    let before = map (λ a. a.now) (take i xs) in
    let more = map_taken (λ a. a.now) xs i x at in
    let few = objects_more before _ x.now _ more c.loop-answer.invariant.1 (omega (arith, c.in_ok-count_answer.ensures.few)) in (
      c.in_ok-count_answer.ensures.counts before c.loop-answer.invariant.0 ∙ ap (λ found. tally same_object (objects found)) (sym more),
      omega (arith, few),
    )
