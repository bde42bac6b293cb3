use mir.Syntax.{w128}
use mir.Val.{SFits}
use Rattle.std.proofs.Common.{◌≡◌, ◌*◌, ℕ, sym, ◌∙◌, subst, rules, arith}
use Rattle.std.proofs.Math.IntN.{◌*ℤ◌, ◌+ℤ◌}
use Rattle.std.proofs.lemmas.Int.{to_z-of_z}
use Rattle.life_things.specs.Lattice.Short.{IsWithin}
use Rattle.life_things.proofs.LatticeLemmas.Within.{sizes_product, sum_fits, three_are, three_fits, within_product}
use Rattle.life_things.proofs.lattice.step.product.Goals as goal

pub multiplied-time-requires : goal.multiplied-time-requires
multiplied-time-requires c =
    let first : SFits w128 c.args.first.0 = search rules in
    let second : SFits w128 c.args.second.0 = search rules in
    let small = sizes_product c.requires.first c.requires.second c.args.first.0 c.args.second.0 c.requires.one.time
    c.requires.other.time in
    simp to_z-of_z (omega arith)

pub multiplied-across-requires : goal.multiplied-across-requires
multiplied-across-requires c =
    let first : SFits w128 c.args.first.1.0 = search rules in
    let second : SFits w128 c.args.second.1.0 = search rules in
    let small = sizes_product c.requires.first c.requires.second c.args.first.1.0 c.args.second.1.0 c.requires.one.across
    c.requires.other.across in
    simp to_z-of_z (omega arith)

pub multiplied-along-requires : goal.multiplied-along-requires
multiplied-along-requires c =
    let first : SFits w128 c.args.first.1.1 = search rules in
    let second : SFits w128 c.args.second.1.1 = search rules in
    let small = sizes_product c.requires.first c.requires.second c.args.first.1.1 c.args.second.1.1 c.requires.one.along
    c.requires.other.along in
    simp to_z-of_z (omega arith)

abbrev few : (c : goal.After-multiplied-along) → ℕ
few c = c.requires.first * c.requires.second

time_is : (c : goal.After-multiplied-along) → c.multiplied-time.result ≡ (c.args.first.0 *ℤ c.args.second.0)
time_is c =
    let first : SFits w128 c.args.first.0 = search rules in
    let second : SFits w128 c.args.second.0 = search rules in
    simp to_z-of_z at c.multiplied-time.ensures

time_small : (c : goal.After-multiplied-along) → IsWithin (few c) c.multiplied-time.result
time_small c =
    subst (IsWithin (few c)) (sym (time_is c))
    (within_product c.requires.first c.requires.second c.args.first.0 c.args.second.0 c.requires.one.time
    c.requires.other.time)

across_is : (c : goal.After-multiplied-along) → c.multiplied-across.result ≡ (c.args.first.1.0 *ℤ c.args.second.1.0)
across_is c =
    let first : SFits w128 c.args.first.1.0 = search rules in
    let second : SFits w128 c.args.second.1.0 = search rules in
    simp to_z-of_z at c.multiplied-across.ensures

across_small : (c : goal.After-multiplied-along) → IsWithin (few c) c.multiplied-across.result
across_small c =
    subst (IsWithin (few c)) (sym (across_is c))
    (within_product c.requires.first c.requires.second c.args.first.1.0 c.args.second.1.0 c.requires.one.across
    c.requires.other.across)

along_is : (c : goal.After-multiplied-along) → c.multiplied-along.result ≡ (c.args.first.1.1 *ℤ c.args.second.1.1)
along_is c =
    let first : SFits w128 c.args.first.1.1 = search rules in
    let second : SFits w128 c.args.second.1.1 = search rules in
    simp to_z-of_z at c.multiplied-along.ensures

along_small : (c : goal.After-multiplied-along) → IsWithin (few c) c.multiplied-along.result
along_small c =
    subst (IsWithin (few c)) (sym (along_is c))
    (within_product c.requires.first c.requires.second c.args.first.1.1 c.args.second.1.1 c.requires.one.along
    c.requires.other.along)

pub overflow_add-result : goal.overflow_add-result
overflow_add-result c =
    sum_fits (few c) (few c) c.multiplied-across.result c.multiplied-along.result
    (let fits = c.requires.fits in omega arith) (across_small c) (along_small c)

pub overflow_add-result-2 : goal.overflow_add-result-2
overflow_add-result-2 c =
    three_fits (few c) c.multiplied-time.result c.multiplied-across.result c.multiplied-along.result
    (let fits = c.requires.fits in omega arith) (time_small c) (across_small c) (along_small c)

pub returns : goal.returns
returns c =
    three_are (few c) c.multiplied-time.result c.multiplied-across.result c.multiplied-along.result
    (let fits = c.requires.fits in omega arith) (time_small c) (across_small c) (along_small c)
    ∙ (λ i. time_is c i +ℤ (across_is c i +ℤ along_is c i))
