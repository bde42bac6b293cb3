use Rattle.std.proofs.Common.{◌≡◌, ℕ, pos, ◌+ℤ◌, ◌^◌, ◌<◌, FitsSigned, w32, w64, to_z, sym, ◌∙◌, true≢false, arith}
use Rattle.std.specs.Int.{trailing_zeros}
use Rattle.std.proofs.lemmas.Int.{ints, to_z-of_z}
use Rattle.life_slots.proofs.Lowest.{goes_on, inside, same_on, set_there}
use Rattle.life_tile.proofs.changed.lists_row.Goals as goal

pub returns-then-not-is_listed : goal.returns-then-not-is_listed
returns-then-not-is_listed c = λ _ all.
    let same = c.loop-rest.invariant.same in
    let reach = c.requires.reach in
    let x : ℕ = trailing_zeros w64 c.loop-rest.rest in
    let fits : c.loop-rest.rest < 2 ^ 64 = (let known = c.loop-rest.auto.rest-fits in omega arith) in
    let some : 0 < c.loop-rest.rest = (let test = c.loop-rest-test.true in omega arith) in
    let small = inside c.args.word c.loop-rest.rest fits some same in
    let cast : to_z w32 (trailing_zeros w64 c.loop-rest.rest) ≡ pos (trailing_zeros w64 c.loop-rest.rest) = omega (arith, ints) in
    let left : FitsSigned w32 c.args.start.0 = omega (arith, ints) in
    let across : FitsSigned w32 (c.args.start.0 +ℤ pos (trailing_zeros w64 c.loop-rest.rest)) = omega (arith, ints) in
    let down : FitsSigned w32 c.args.start.1 = omega (arith, ints) in
    let live = all.each x small (set_there c.args.word c.loop-rest.rest fits some same) in
    let dead = c.is_listed.ensures c.if-not-is_listed.true in
    true≢false (sym live ∙ (simp (to_z-of_z, cast) at dead))

pub loop-rest-preserved : goal.loop-rest-preserved
loop-rest-preserved c =
    let fits : c.loop-rest.rest < 2 ^ 64 = (let known = c.loop-rest.auto.rest-fits in omega arith) in
    let some : 0 < c.loop-rest.rest = (let test = c.loop-rest-test.true in omega arith) in
    record { same = same_on c.args.word c.loop-rest.rest fits some c.loop-rest.invariant.same }

pub loop-rest-smaller : goal.loop-rest-smaller
loop-rest-smaller c =
    let fits : c.loop-rest.rest < 2 ^ 64 = (let known = c.loop-rest.auto.rest-fits in omega arith) in
    let some : 0 < c.loop-rest.rest = (let test = c.loop-rest-test.true in omega arith) in
    let column = inside c.args.word c.loop-rest.rest fits some c.loop-rest.invariant.same in
    let on = goes_on c.args.word c.loop-rest.rest fits some c.loop-rest.invariant.same in
    omega arith
