use mir.Syntax.{w128, w32}
use mir.Val.{SFits}
use Rattle.std.proofs.Common.{◌≡◌, pos, ◌+ℤ◌, ◌∙◌, rules, arith}
use Rattle.std.specs.Int.{int_max, int_min}
use Rattle.std.proofs.lemmas.Int.{ints, to_z-of_z}
use Rattle.life_orbit.proofs.Watching.{passed_at_once}
use Rattle.life_orbit.proofs.lanes.stays_past.Goals as goal

pub returns-then-high_end-low_end : goal.returns-then-high_end-low_end
returns-then-high_end-low_end c =
    let first : SFits w32 c.args.lane.first = search rules in
    let by : SFits w128 c.args.lane.by = search rules in
    let last : SFits w32 c.args.other.last = search rules in
    let other_by : SFits w128 c.args.other.by = search rules in
    record {
      order = c.requires.order;
      passes = λ gain e.
          let low : c.low_end.result ≡ c.args.lane.first +ℤ int_min (pos 0) c.args.lane.by =
          c.low_end.ensures.end
          ∙ (λ i. to_z-of_z w32 c.args.lane.first first i +ℤ int_min (pos 0) (to_z-of_z w128 c.args.lane.by by i)) in
          let high : c.high_end.result ≡ c.args.other.last +ℤ int_max (pos 0) c.args.other.by =
          c.high_end.ensures.end
          ∙ (λ i. to_z-of_z w32 c.args.other.last last i +ℤ int_max (pos 0) (to_z-of_z w128 c.args.other.by other_by i)) in
          passed_at_once (c.args.lane.first +ℤ int_min (pos 0) c.args.lane.by)
          (c.args.other.last +ℤ int_max (pos 0) c.args.other.by) gain (omega (arith, ints));
    }
