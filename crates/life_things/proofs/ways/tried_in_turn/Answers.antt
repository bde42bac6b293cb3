use Rattle.std.proofs.Common.{◌≡◌, ◌+◌, ◌*◌, [], ◌∷◌, inl, inr, refl, sym, subst, true≢false, arith}
use Rattle.std.proofs.lemmas.Bool.{cases_lt}
use Rattle.life_growth.specs.Meeting.Sums.{and_then, times}
use Rattle.life_things.specs.Clear.{StaysClear}
use Rattle.life_things.specs.Lattice.Short.{IsShort, count_limit, one_start, two_start, way_limit}
use Rattle.life_things.proofs.LatticeLemmas.Turning.{next_turn, out_of_turn}
use Rattle.life_things.proofs.LatticeLemmas.Within.{short_after, short_wider}
use Rattle.life_things.proofs.ways.tried_in_turn.Goals as goal

pub one_way-requires-clause-start : goal.one_way-requires-clause-start
one_way-requires-clause-start c =
    subst (IsShort one_start) (sym c.after.ensures)
    (short_wider (two_start + count_limit * way_limit) one_start _ (omega arith)
    (short_after two_start count_limit way_limit c.loop-count.count c.args.start c.args.steps.0 c.requires.start (omega arith)
    c.requires.steps.0.short))

pub loop-count-init : goal.loop-count-init
loop-count-init c = record {
  turn = c.first_in_turn-count.ensures.turn;
  late = c.first_in_turn-count.ensures.late;
  clear = λ n after before. c.requires.others n (c.first_in_turn-count.ensures.none n after before);
}

pub loop-count-preserved : goal.loop-count-preserved
loop-count-preserved c = record {
  turn = next_turn c.args.turn.every c.args.turn.first c.loop-count.count c.requires.first c.loop-count.invariant.turn;
  late = let late = c.loop-count.invariant.late in omega arith;
  clear = λ n after before.
      elim (cases_lt n c.loop-count.count) [
        | inl earlier ↦ c.loop-count.invariant.clear n after earlier
        | inr later ↦ elim (cases_lt c.loop-count.count n) [
          | inl between ↦ c.requires.others n
              (out_of_turn c.args.turn.every c.args.turn.first c.loop-count.count n c.loop-count.invariant.turn between before)
          | inr last ↦
              subst (λ k. StaysClear c.args.one.now c.args.other.now (and_then c.args.start (times k c.args.steps.0))
              (c.args.steps.1 ∷ []))
              (let z : c.loop-count.count ≡ n = omega arith in z)
              (subst (λ s. StaysClear c.args.one.now c.args.other.now s (c.args.steps.1 ∷ [])) c.after.ensures
              (c.if-not-one_way.ensures.0 refl))
        ]
      ];
}

pub returns-then-not-one_way : goal.returns-then-not-one_way
returns-then-not-one_way c = (
  λ t. absurd (true≢false (sym t)),
  λ clear. c.if-not-one_way.ensures.1
      (subst (λ s. StaysClear c.args.one.now c.args.other.now s (c.args.steps.1 ∷ [])) (sym c.after.ensures)
      (clear c.loop-count.count c.loop-count.invariant.late (omega arith))),
)

pub returns : goal.returns
returns c = (λ t n late early. c.loop-count.invariant.clear n late (omega arith), λ clear. refl)
