use Rattle.std.proofs.Common.{◌+◌, ◌^◌, get_or, inl, inr, neg_ℤ, pos, refl, arith}
use Rattle.std.proofs.lemmas.Int.{ints}
use Rattle.life_classes.proofs.Joined.{tied_through}
use Rattle.life_classes.proofs.Tied.{around_as}
use Rattle.life_classes.proofs.joining.tie_below.Goals as goal

pub tie_around-requires-clause-away : goal.tie_around-requires-clause-away
tie_around-requires-clause-away c = record {
  row = neg_ℤ (pos (2 ^ 31));
  rows = inr (inl refl);
  is = λ d.
      let same = c.number_at-number.ensures.same d in
      let low = c.number_at-number.ensures.low in
      let high = c.number_at-number.ensures.high in
      omega (arith, ints);
}

pub tie_around-requires-2-clause-away : goal.tie_around-requires-2-clause-away
tie_around-requires-2-clause-away c = record {
  row = neg_ℤ (pos (2 ^ 32));
  rows = inr (inr refl);
  is = λ d.
      let same = c.number_at-number.ensures.same d in
      let low = c.number_at-number.ensures.low in
      let high = c.number_at-number.ensures.high in
      omega (arith, ints);
}

pub returns-clause-tied : goal.returns-clause-tied
returns-clause-tied c =
    let l = c.args.cells.now in
    let f = c.args.forest.now.items in
    let one = c.tie_after.new.forest.items in
    let two = c.tie_around.new.forest.items in
    tied_through l f two c.tie_around-2.new.forest.items
    (tied_through l f one two c.tie_after.ensures.tied c.tie_around.ensures.tied) c.tie_around-2.ensures.tied

pub returns-clause-after : goal.returns-clause-after
returns-clause-after c =
    let ts = c.args.cells.now.tags.items in
    let n = c.args.n in
    let two = c.tie_around.new.forest.items in
    let three = c.tie_around-2.new.forest.items in
    let low = c.number_at-number.ensures.low in
    let high = c.number_at-number.ensures.high in
    record {
      next = λ d some near e f.
          c.tie_around-2.ensures.tied.coarser (get_or ts n e).label (get_or ts (n + 1) f).label
          (c.tie_around.ensures.tied.coarser (get_or ts n e).label (get_or ts (n + 1) f).label
          (c.tie_after.ensures.next d some near e f));
      below = λ d.
          let same = c.number_at-number.ensures.same d in
          around_as ts two three n _ _ c.tie_around-2.ensures.tied.coarser (omega (arith, ints)) c.tie_around.ensures.around;
      beyond = λ d.
          let same = c.number_at-number.ensures.same d in
          around_as ts three three n _ _ (λ k m e. e) (omega (arith, ints)) c.tie_around-2.ensures.around;
    }
