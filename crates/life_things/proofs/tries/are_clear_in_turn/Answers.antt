use Rattle.std.proofs.Common.{◌≡◌, inl, inr, refl, subst, arith}
use Rattle.std.proofs.lemmas.Bool.{cases_lt}
use Rattle.life_things.proofs.LatticeLemmas.Turning.{next_turn, out_of_turn}
use Rattle.life_things.specs.Tries.{ClearAfter}
use Rattle.life_things.proofs.tries.are_clear_in_turn.Goals as goal

pub loop-count-preserved : goal.loop-count-preserved
loop-count-preserved c = record {
  turn = next_turn c.args.turn.every c.args.turn.first c.loop-count.count c.requires.first c.loop-count.invariant.turn;
  late = let late = c.loop-count.invariant.late in omega arith;
  clear = λ n after before it.
      elim (cases_lt n c.loop-count.count) [
        | inl earlier ↦ c.loop-count.invariant.clear n after earlier it
        | inr later ↦ elim (cases_lt c.loop-count.count n) [
          | inl between ↦ absurd
              (out_of_turn c.args.turn.every c.args.turn.first c.loop-count.count n c.loop-count.invariant.turn between before it)
          | inr last ↦
              subst (ClearAfter c.args.one.now c.args.other.now c.args.tries)
              (let z : c.loop-count.count ≡ n = omega arith in z) (c.if-not-is_clear_after.ensures.0 refl)
        ]
      ];
}
