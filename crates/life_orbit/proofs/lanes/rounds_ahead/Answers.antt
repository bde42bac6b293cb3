use mir.Syntax.{w128, w32}
use mir.Val.{SFits}
use Rattle.std.proofs.Common.{◌≡◌, pos, ◌+ℤ◌, ◌∙◌, rules, arith}
use Rattle.std.specs.Int.{int_max, int_min}
use Rattle.std.proofs.lemmas.Int.{ints, to_z-of_z}
use Rattle.life_orbit.proofs.Watching.{still_ahead}
use Rattle.life_orbit.proofs.lanes.rounds_ahead.Goals as goal

pub returns-clause-ahead : goal.returns-clause-ahead
returns-clause-ahead c =
    let first : SFits w32 c.args.lane.first = search rules in
    let by : SFits w128 c.args.lane.by = search rules in
    let last : SFits w32 c.args.other.last = search rules in
    let other_by : SFits w128 c.args.other.by = search rules in
    let low : c.low_end-low.result ≡ c.args.lane.first +ℤ int_min (pos 0) c.args.lane.by =
    c.low_end-low.ensures.end
    ∙ (λ i. to_z-of_z w32 c.args.lane.first first i +ℤ int_min (pos 0) (to_z-of_z w128 c.args.lane.by by i)) in
    let high : c.high_end-high.result ≡ c.args.other.last +ℤ int_max (pos 0) c.args.other.by =
    c.high_end-high.ensures.end
    ∙ (λ i. to_z-of_z w32 c.args.other.last last i +ℤ int_max (pos 0) (to_z-of_z w128 c.args.other.by other_by i)) in
    record {
      order = let slower = c.requires.slower in omega (arith, ints);
      ahead = λ loss k e early.
          still_ahead (c.args.lane.first +ℤ int_min (pos 0) c.args.lane.by)
          (c.args.other.last +ℤ int_max (pos 0) c.args.other.by)
          c.args.other.by c.args.lane.by c.difference.result c.difference-2.result loss k
          (let room = c.difference.ensures.value in omega (arith, ints))
          (let lost = c.difference-2.ensures.value in omega (arith, ints))
          (c.rounds_over.ensures.least k early) e;
    }
