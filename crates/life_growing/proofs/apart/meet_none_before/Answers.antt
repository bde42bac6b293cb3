use Rattle.std.proofs.Common.{◌<◌, [], length, below_more, refl, sym, ◌∙◌, arith}
use Rattle.std.proofs.lemmas.Bool.{false≢true}
use Rattle.life_growing.proofs.FindingLists.{in_map, meet_alike}
use Rattle.life_growing.proofs.apart.meet_none_before.Goals as goal

pub returns-then-not-none_meets : goal.returns-then-not-none_meets
returns-then-not-none_meets c =
    let lists = c.args.lists.now in
    let at = c.loop-other.other in
    let inside = c.loop-other-test.true in
    let short = c.requires in
    let before : at < length lists = omega arith in
    let first = in_map (λ v. v.items) lists at c.index-lists-other.result [] c.as_slice.result.now before
    c.index-lists-other.is c.as_slice.ensures.value in
    let other = in_map (λ v. v.items) lists c.args.n c.index-lists-n.result [] c.as_slice-in-loop-other.result.now
    c.requires c.index-lists-n.is c.as_slice-in-loop-other.ensures.value in (
      λ t. absurd (false≢true t),
      λ none. sym c.if-not-none_meets.true
          ∙ c.none_meets.ensures.1 (meet_alike _ _ _ _ first other (none at c.loop-other-test.true)),
    )

pub loop-other-preserved : goal.loop-other-preserved
loop-other-preserved c =
    let lists = c.args.lists.now in
    let at = c.loop-other.other in
    let inside = c.loop-other-test.true in
    let short = c.requires in
    let before : at < length lists = omega arith in
    let first = in_map (λ v. v.items) lists at c.index-lists-other.result [] c.as_slice.result.now before
    c.index-lists-other.is c.as_slice.ensures.value in
    let other = in_map (λ v. v.items) lists c.args.n c.index-lists-n.result [] c.as_slice-in-loop-other.result.now
    c.requires c.index-lists-n.is c.as_slice-in-loop-other.ensures.value in
    below_more _ _ c.loop-other.invariant
    (meet_alike _ _ _ _ (sym first) (sym other) (c.none_meets.ensures.0 c.if-not-none_meets.false))

pub returns : goal.returns
returns c =
    let end = c.loop-other-test.false in
    (λ t m h. c.loop-other.invariant m (omega arith), λ none. refl)
