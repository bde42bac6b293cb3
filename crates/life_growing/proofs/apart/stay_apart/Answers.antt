use Rattle.std.proofs.Common.{ℕ, ◌<◌, map, below_more, refl, sym, subst, ◌∙◌, arith}
use Rattle.std.proofs.lemmas.Bool.{false≢true}
use Rattle.std.proofs.lemmas.List.{length-map}
use Rattle.life_growing.specs.Emissions.{NoneMeets}
use Rattle.life_growing.specs.Meeting.{list_in}
use Rattle.life_growing.proofs.FindingLists.{apart_by_lists, lists_by_apart}
use Rattle.life_growing.proofs.apart.stay_apart.Goals as goal

pub returns-then-not-meet_none_before : goal.returns-then-not-meet_none_before
returns-then-not-meet_none_before c =
    let lists = map (λ v. v.items) c.in_ok-lists.lists.items in
    let count = c.in_ok-lists.ensures.count in
    let same = length-map c.in_ok-lists.lists.items (λ v. v.items) in
    let long = c.len-n-end.ensures in
    let inside = c.loop-n-test.true in
    let n = c.loop-n.n in (
      λ t. absurd (false≢true t),
      λ go. sym c.if-not-meet_none_before.true
          ∙ c.meet_none_before.ensures.1 (subst (λ vs. (m : ℕ) → m < n →
          NoneMeets (list_in (map (λ v. v.items) vs) m) (list_in (map (λ v. v.items) vs) n)) (sym c.as_slice.ensures.value)
          (λ m h. lists_by_apart c.args.engines.now c.args.debris.now lists c.in_ok-lists.ensures m n h (omega arith)
          (go m n h (omega arith)))),
    )

pub loop-n-preserved : goal.loop-n-preserved
loop-n-preserved c =
    let n = c.loop-n.n in
    below_more _ _ c.loop-n.invariant
    (subst (λ vs. (m : ℕ) → m < n →
    NoneMeets (list_in (map (λ v. v.items) vs) m) (list_in (map (λ v. v.items) vs) n)) c.as_slice.ensures.value
    (c.meet_none_before.ensures.0 c.if-not-meet_none_before.false))

pub returns : goal.returns
returns c =
    let lists = map (λ v. v.items) c.in_ok-lists.lists.items in
    let count = c.in_ok-lists.ensures.count in
    let same = length-map c.in_ok-lists.lists.items (λ v. v.items) in
    let long = c.len-n-end.ensures in
    let end = c.loop-n-test.false in (
      λ t m n h within. apart_by_lists c.args.engines.now c.args.debris.now lists c.in_ok-lists.ensures m n h within
          (c.loop-n.invariant n (omega arith) m h),
      λ go. refl,
    )
