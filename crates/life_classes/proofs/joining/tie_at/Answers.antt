use Rattle.std.proofs.Common.{◌-◌, ◌^◌, get_or, inl, inr, pos, refl, arith}
use Rattle.std.proofs.lemmas.Int.{ints}
use Rattle.life_classes.proofs.Joined.{tied_through}
use Rattle.life_classes.proofs.Tied.{around_as}
use Rattle.life_classes.proofs.joining.tie_at.Goals as goal

pub tie_around-requires-clause-away : goal.tie_around-requires-clause-away
tie_around-requires-clause-away c = record {
  row = pos (2 ^ 31);
  rows = inl (inl refl);
  is = λ d.
      let same = c.number_at-number.ensures.same d in
      let low = c.number_at-number.ensures.low in
      let high = c.number_at-number.ensures.high in
      omega (arith, ints);
}

pub tie_around-requires-2-clause-away : goal.tie_around-requires-2-clause-away
tie_around-requires-2-clause-away c = record {
  row = pos (2 ^ 32);
  rows = inl (inr refl);
  is = λ d.
      let same = c.number_at-number.ensures.same d in
      let low = c.number_at-number.ensures.low in
      let high = c.number_at-number.ensures.high in
      omega (arith, ints);
}

pub returns-clause-tied : goal.returns-clause-tied
returns-clause-tied c =
    let l = c.args.cells.now in
    let f = c.args.forest.now.items in
    let one = c.tie_before.new.forest.items in
    let two = c.tie_around.new.forest.items in
    tied_through l f two c.tie_around-2.new.forest.items
    (tied_through l f one two c.tie_before.ensures.tied c.tie_around.ensures.tied) c.tie_around-2.ensures.tied

pub returns-clause-at : goal.returns-clause-at
returns-clause-at c =
    let ts = c.args.cells.now.tags.items in
    let n = c.args.n in
    let one = c.tie_before.new.forest.items in
    let two = c.tie_around.new.forest.items in
    let three = c.tie_around-2.new.forest.items in
    let low = c.number_at-number.ensures.low in
    let high = c.number_at-number.ensures.high in
    record {
      before = λ d some near e f.
          c.tie_around-2.ensures.tied.coarser (get_or ts (n - 1) e).label (get_or ts n f).label
          (c.tie_around.ensures.tied.coarser (get_or ts (n - 1) e).label (get_or ts n f).label
          (c.tie_before.ensures.before d some near e f));
      above = λ d.
          let same = c.number_at-number.ensures.same d in
          around_as ts two three n _ _ c.tie_around-2.ensures.tied.coarser (omega (arith, ints)) c.tie_around.ensures.around;
      further = λ d.
          let same = c.number_at-number.ensures.same d in
          around_as ts three three n _ _ (λ k m e. e) (omega (arith, ints)) c.tie_around-2.ensures.around;
    }
