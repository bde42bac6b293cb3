use Rattle.std.proofs.Common.{◌≡◌, length, get_or, sym, ap, ◌∙◌, below_more, arith}
use borrow.Author.Tests.{eqb-true, eqb-false}
use Rattle.life_model.specs.Cell.{origin, plus}
use Rattle.life_plane.proofs.Offsets.{apart_by_length, apart_at, offset_of_each, offset_of_none, differ_by_test, same_by_test, plus_there}
use Rattle.life_plane.proofs.offset.offset_between.Goals as goal

pub returns-then-from-to-clause-apart : goal.returns-then-from-to-clause-apart
returns-then-from-to-clause-apart c = apart_by_length _ _ c.requires.from_rising c.requires.to_rising (λ e. omega arith)

pub returns-then-is_empty-clause-offset : goal.returns-then-is_empty-clause-offset
returns-then-is_empty-clause-offset c =
    let none : length c.args.from.now ≡ 0 = eqb-true (length c.args.from.now) 0 (sym c.is_empty.ensures ∙ c.if-is_empty.true) in
    offset_of_none _ _ none (omega arith)

pub returns-then-ne-clause-apart : goal.returns-then-ne-clause-apart
returns-then-ne-clause-apart c =
    apart_at _ _ c.requires.from_rising c.requires.to_rising c.loop-i.i c.loop-i-test.true
    (λ e. differ_by_test c.move_between.result c.move_between-offset.result c.ne.result c.ne.ensures c.if-ne.true (c.move_between.ensures ∙ e ∙ sym c.move_between-offset.ensures))

pub loop-i-preserved : goal.loop-i-preserved
loop-i-preserved c =
    below_more _ _ c.loop-i.invariant
    (plus_there (get_or c.args.from.now c.loop-i.i origin) (get_or c.args.to.now c.loop-i.i origin)
    ∙ ap (plus (get_or c.args.from.now c.loop-i.i origin)) (sym c.move_between.ensures ∙ same_by_test c.move_between.result c.move_between-offset.result c.ne.result c.ne.ensures c.if-ne.false))

pub returns-clause-offset : goal.returns-clause-offset
returns-clause-offset c = offset_of_each _ _ c.requires.from_rising c.requires.to_rising _ (eqb-false (length c.args.from.now) 0 (sym c.is_empty.ensures ∙ c.if-is_empty.false)) (omega arith) (λ k h. c.loop-i.invariant k (omega arith))
