use Rattle.std.proofs.Common.{◌<◌, ◌+◌, ◌-◌, ◌++◌, arith, length}
use Rattle.std.proofs.lemmas.List.{length-append}
use Rattle.census_table.specs.Places.{place_cmp}
use Rattle.census_table.proofs.Rising.{place_total}
use Rattle.census_table.proofs.Ties.{run-length, runs-end, runs-more, runs-start}
use Rattle.census_table.proofs.place.put_runs_in_order.Goals as goal

pub loop-at-init : goal.loop-at-init
loop-at-init g c = runs-start (g.O.OrderAtPlaces.cmp c.args.order.now) place_cmp (g.O.OrderAtPlaces.total c.args.order.now) place_total c.args.places.now c.requires

pub loop-at-smaller : goal.loop-at-smaller
loop-at-smaller g c =
    let front = c.split_at_mut-left.result.0.now in
    let left = c.split_at_mut-left.result.1.now in
    let more = c.put_run_in_order-at.new.places in
    let n = c.put_run_in_order-at.result in
    let some : 0 < length left = omega (arith, c.loop-at-test.true, c.split_at_mut-left.ensures.back_len) in
    let longer = run-length (g.O.OrderAtPlaces.cmp c.args.order.now) place_cmp (g.O.OrderAtPlaces.total c.args.order.now) place_total left n some c.put_run_in_order-at.ensures.count in
    let less : length (front ++ more) - (c.loop-at.at + n) < length c.loop-at.places - c.loop-at.at = omega (arith, longer, c.put_run_in_order-at.auto.places, length-append front more, c.split_at_mut-left.ensures.front_len, c.split_at_mut-left.ensures.back_len, c.loop-at-test.true) in
    less

pub loop-at-preserved : goal.loop-at-preserved
loop-at-preserved g c =
    let left = c.split_at_mut-left.result.1.now in
    let some : 0 < length left = omega (arith, c.loop-at-test.true, c.split_at_mut-left.ensures.back_len) in
    runs-more (g.O.OrderAtPlaces.cmp c.args.order.now) place_cmp (g.O.OrderAtPlaces.total c.args.order.now) place_total
    c.args.places.now c.loop-at.places c.split_at_mut-left.result.0.now left c.put_run_in_order-at.new.places c.loop-at.at c.put_run_in_order-at.result
    c.loop-at.invariant c.split_at_mut-left.ensures.front c.split_at_mut-left.ensures.back some
    c.put_run_in_order-at.ensures.count c.put_run_in_order-at.ensures.within c.put_run_in_order-at.ensures.run c.put_run_in_order-at.ensures.sorted c.put_run_in_order-at.ensures.others

pub returns-clause-permutation : goal.returns-clause-permutation
returns-clause-permutation g c = c.loop-at.invariant.moved

pub returns-clause-both : goal.returns-clause-both
returns-clause-both g c =
    runs-end (g.O.OrderAtPlaces.cmp c.args.order.now) place_cmp (g.O.OrderAtPlaces.total c.args.order.now) place_total c.args.places.now c.loop-at.places c.loop-at.at
    c.loop-at.invariant (omega arith)
