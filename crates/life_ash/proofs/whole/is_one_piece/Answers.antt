use Rattle.std.proofs.Common.{◌-◌, ◌≤◌, refl, ap, arith}
use Rattle.std.proofs.lemmas.List.Elements.{All-same}
use Rattle.life_cells.specs.Limits.{IsWithin}
use Rattle.life_model.specs.Generation.{cells}
use Rattle.life_ash.proofs.Objects.{more_phases, one_piece_by_phases, phase_within}
use Rattle.life_ash.proofs.whole.is_one_piece.Goals as goal

pub is_undivided-requires-clause-within : goal.is_undivided-requires-clause-within
is_undivided-requires-clause-within g c =
    let within = c.loop-end.invariant.within in
    let some = c.loop-end-test.true in
    All-same (IsWithin 500000) _ _ (ap cells c.phase-phase.ensures)
    (phase_within c.args.rule.now c.args.bound c.args.orbit.now c.requires.fit (omega arith) (c.loop-end.end - 1)
    (omega arith))

pub loop-end-preserved-then-branch : goal.loop-end-preserved-then-branch
loop-end-preserved-then-branch g c =
    let within = c.loop-end.invariant.within in
    let some = c.loop-end.invariant.some in
    let short = c.loop-end.invariant.short in
    let more = c.loop-end-test.true in
    let step = c.min-step.result in
    let one : 1 ≤ step = omega arith in
    let few : step ≤ c.loop-end.end = omega arith in
    let less : step ≤ c.args.bound = omega arith in
    record {
      some = one;
      short = less;
      within = omega arith;
      whole = more_phases c.args.rule.now c.args.bound c.args.orbit.now c.requires.fit step c.loop-end.end
          c.phase-phase.result.now one few less c.phase-phase.ensures (c.in_ok-is_undivided.ensures.0 c.if-branch.true)
          c.loop-end.invariant.whole;
    }

pub returns : goal.returns
returns g c = (
  λ t. one_piece_by_phases c.args.rule.now c.args.bound c.args.orbit.now c.requires.fit
      (λ m h. c.loop-end.invariant.whole m (let ended = c.loop-end-test.false in omega arith) h),
  λ whole. refl,
)
