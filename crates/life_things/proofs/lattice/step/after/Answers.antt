use mir.Syntax.{w128}
use mir.Val.{SFits, to_z}
use Rattle.std.proofs.Common.{◌≡◌, ℕ, ◌*◌, ◌^◌, pos, sym, subst, ◌∙◌, rules, arith}
use Rattle.std.proofs.Math.IntN.{◌*ℤ◌, ◌+ℤ◌}
use Rattle.std.proofs.lemmas.Int.{to_z-of_z, to_z_pos}
use Rattle.life_growth.proofs.MeetingLemmas.Reach.{step_is}
use Rattle.life_growth.proofs.RelationsLemmas.Signed.{times-scaled}
use Rattle.life_growth.specs.Meeting.Sums.{and_then}
use Rattle.life_growth.specs.Relations.Relations.{scaled}
use Rattle.life_things.specs.Lattice.Short.{IsWithin, way_limit}
use Rattle.life_things.proofs.LatticeLemmas.Within.{count_within, sizes_product, sum_fits, sum_is, within_product}
use Rattle.life_things.proofs.lattice.step.after.Goals as goal
use Rattle.life_things.proofs.lattice.step.after.Goals.{After-multiplied-along}

-- how often it is made at most, and how far that leads
abbrev most : ℕ
most = 737 * 10 ^ 31

abbrev furthest : ℕ
furthest = most * way_limit

pub multiplied-time-requires : goal.multiplied-time-requires
multiplied-time-requires c =
    let often : to_z w128 c.args.count ≡ pos c.args.count = to_z_pos w128 c.args.count (omega arith) in
    let step : SFits w128 c.args.step.0 = search rules in
    let small = sizes_product most way_limit (pos c.args.count) c.args.step.0 (count_within most c.args.count c.requires.count)
    c.requires.step.short.time in
    simp (to_z-of_z, often) (omega arith)

pub multiplied-across-requires : goal.multiplied-across-requires
multiplied-across-requires c =
    let often : to_z w128 c.args.count ≡ pos c.args.count = to_z_pos w128 c.args.count (omega arith) in
    let step : SFits w128 c.args.step.1.0 = search rules in
    let small = sizes_product most way_limit (pos c.args.count) c.args.step.1.0 (count_within most c.args.count c.requires.count)
    c.requires.step.short.across in
    simp (to_z-of_z, often) (omega arith)

pub multiplied-along-requires : goal.multiplied-along-requires
multiplied-along-requires c =
    let often : to_z w128 c.args.count ≡ pos c.args.count = to_z_pos w128 c.args.count (omega arith) in
    let step : SFits w128 c.args.step.1.1 = search rules in
    let small = sizes_product most way_limit (pos c.args.count) c.args.step.1.1 (count_within most c.args.count c.requires.count)
    c.requires.step.short.along in
    simp (to_z-of_z, often) (omega arith)

time_is : (c : After-multiplied-along) → c.multiplied-time.result ≡ (pos c.args.count *ℤ c.args.step.0)
time_is c =
    let often : to_z w128 c.args.count ≡ pos c.args.count = to_z_pos w128 c.args.count (omega arith) in
    let step : SFits w128 c.args.step.0 = search rules in
    simp (to_z-of_z, often) at c.multiplied-time.ensures

time_small : (c : After-multiplied-along) → IsWithin furthest c.multiplied-time.result
time_small c =
    subst (IsWithin furthest) (sym (time_is c))
    (within_product most way_limit (pos c.args.count) c.args.step.0 (count_within most c.args.count c.requires.count)
    c.requires.step.short.time)

across_is : (c : After-multiplied-along) → c.multiplied-across.result ≡ (pos c.args.count *ℤ c.args.step.1.0)
across_is c =
    let often : to_z w128 c.args.count ≡ pos c.args.count = to_z_pos w128 c.args.count (omega arith) in
    let step : SFits w128 c.args.step.1.0 = search rules in
    simp (to_z-of_z, often) at c.multiplied-across.ensures

across_small : (c : After-multiplied-along) → IsWithin furthest c.multiplied-across.result
across_small c =
    subst (IsWithin furthest) (sym (across_is c))
    (within_product most way_limit (pos c.args.count) c.args.step.1.0 (count_within most c.args.count c.requires.count)
    c.requires.step.short.across)

along_is : (c : After-multiplied-along) → c.multiplied-along.result ≡ (pos c.args.count *ℤ c.args.step.1.1)
along_is c =
    let often : to_z w128 c.args.count ≡ pos c.args.count = to_z_pos w128 c.args.count (omega arith) in
    let step : SFits w128 c.args.step.1.1 = search rules in
    simp (to_z-of_z, often) at c.multiplied-along.ensures

along_small : (c : After-multiplied-along) → IsWithin furthest c.multiplied-along.result
along_small c =
    subst (IsWithin furthest) (sym (along_is c))
    (within_product most way_limit (pos c.args.count) c.args.step.1.1 (count_within most c.args.count c.requires.count)
    c.requires.step.short.along)

pub overflow_add-result : goal.overflow_add-result
overflow_add-result c =
    sum_fits (10 ^ 30) furthest c.args.start.0 c.multiplied-time.result (omega arith) c.requires.start.time (time_small (goal.at.overflow_add-result c).After-multiplied-along)

pub overflow_add-result-2 : goal.overflow_add-result-2
overflow_add-result-2 c =
    sum_fits (10 ^ 30) furthest c.args.start.1.0 c.multiplied-across.result (omega arith) c.requires.start.across (across_small (goal.at.overflow_add-result-2 c).After-multiplied-along)

pub overflow_add-result-3 : goal.overflow_add-result-3
overflow_add-result-3 c =
    sum_fits (10 ^ 30) furthest c.args.start.1.1 c.multiplied-along.result (omega arith) c.requires.start.along (along_small (goal.at.overflow_add-result-3 c).After-multiplied-along)

pub returns : goal.returns
returns c =
    step_is _ (and_then c.args.start (scaled (pos c.args.count) c.args.step))
    (sum_is (10 ^ 30) furthest c.args.start.0 c.multiplied-time.result (omega arith) c.requires.start.time (time_small (goal.at.returns c).After-multiplied-along)
    ∙ (λ i. c.args.start.0 +ℤ time_is (goal.at.returns c).After-multiplied-along i))
    (sum_is (10 ^ 30) furthest c.args.start.1.0 c.multiplied-across.result (omega arith) c.requires.start.across (across_small (goal.at.returns c).After-multiplied-along)
    ∙ (λ i. c.args.start.1.0 +ℤ across_is (goal.at.returns c).After-multiplied-along i))
    (sum_is (10 ^ 30) furthest c.args.start.1.1 c.multiplied-along.result (omega arith) c.requires.start.along (along_small (goal.at.returns c).After-multiplied-along)
    ∙ (λ i. c.args.start.1.1 +ℤ along_is (goal.at.returns c).After-multiplied-along i))
    ∙ (λ i. and_then c.args.start (sym (times-scaled c.args.count c.args.step) i))
