use mir.Syntax.{w128, w32}
use mir.Val.{SFits}
use Rattle.std.proofs.Common.{◌≡◌, pos, ◌+ℤ◌, ◌∙◌, rules, arith}
use Rattle.std.specs.Int.{int_max, int_min}
use Rattle.std.proofs.lemmas.Int.{ints, to_z-of_z}
use Rattle.life_orbit.proofs.Watching.{passed_at_once, passed_later}
use Rattle.life_orbit.proofs.lanes.rounds_to_pass.Goals as goal

pub returns-then-high-low-clause-passed : goal.returns-then-high-low-clause-passed
returns-then-high-low-clause-passed c =
    let first : SFits w32 c.args.lane.first = search rules in
    let by : SFits w128 c.args.lane.by = search rules in
    let last : SFits w32 c.args.other.last = search rules in
    let other_by : SFits w128 c.args.other.by = search rules in
    let low : c.low_end-low.result ≡ c.args.lane.first +ℤ int_min (pos 0) c.args.lane.by =
    c.low_end-low.ensures.end
    ∙ (λ i. to_z-of_z w32 c.args.lane.first first i +ℤ int_min (pos 0) (to_z-of_z w128 c.args.lane.by by i)) in
    let high : c.high_end-high.result ≡ c.args.other.last +ℤ int_max (pos 0) c.args.other.by =
    c.high_end-high.ensures.end
    ∙ (λ i. to_z-of_z w32 c.args.other.last last i +ℤ int_max (pos 0) (to_z-of_z w128 c.args.other.by other_by i)) in
    record {
      order = let faster = c.requires.faster in omega (arith, ints);
      passes = λ gain e.
          passed_at_once (c.args.lane.first +ℤ int_min (pos 0) c.args.lane.by)
          (c.args.other.last +ℤ int_max (pos 0) c.args.other.by) gain (omega (arith, ints));
    }

pub returns-clause-passed : goal.returns-clause-passed
returns-clause-passed c =
    let first : SFits w32 c.args.lane.first = search rules in
    let by : SFits w128 c.args.lane.by = search rules in
    let last : SFits w32 c.args.other.last = search rules in
    let other_by : SFits w128 c.args.other.by = search rules in
    let low : c.low_end-low.result ≡ c.args.lane.first +ℤ int_min (pos 0) c.args.lane.by =
    c.low_end-low.ensures.end
    ∙ (λ i. to_z-of_z w32 c.args.lane.first first i +ℤ int_min (pos 0) (to_z-of_z w128 c.args.lane.by by i)) in
    let high : c.high_end-high.result ≡ c.args.other.last +ℤ int_max (pos 0) c.args.other.by =
    c.high_end-high.ensures.end
    ∙ (λ i. to_z-of_z w32 c.args.other.last last i +ℤ int_max (pos 0) (to_z-of_z w128 c.args.other.by other_by i)) in
    record {
      order = let faster = c.requires.faster in omega (arith, ints);
      passes = λ gain e.
          passed_later (c.args.lane.first +ℤ int_min (pos 0) c.args.lane.by)
          (c.args.other.last +ℤ int_max (pos 0) c.args.other.by)
          c.args.lane.by c.args.other.by c.difference.result c.difference-2.result c.rounds_over.result gain
          (let missing = c.difference.ensures.value in omega (arith, ints))
          (let gained = c.difference-2.ensures.value in omega (arith, ints))
          c.rounds_over.ensures.over e;
    }
