use Rattle.std.proofs.Common.{ℕ, arith}
use Rattle.std.proofs.lemmas.List.{length-take}
use Rattle.watched.proofs.Pieces.{taken_more}
use Rattle.watched.proofs.reading.read_all.Goals as goal

pub returns-then-count-room-clause-too_long : goal.returns-then-count-room-clause-too_long
returns-then-count-room-clause-too_long g c =
    let read = c.in_ok-count.ensures in
    let all = taken_more _ _ _ c.loop-bytes.bytes.items _ _ c.loop-bytes.invariant.taken read.bytes.0 read.count.1 in
    λ _. (all.0, omega (arith, all.1), all.2)

pub returns-then-count-room-clause-taken : goal.returns-then-count-room-clause-taken
returns-then-count-room-clause-taken g c =
    let read = c.in_ok-count.ensures in
    let all = taken_more _ _ _ c.loop-bytes.bytes.items _ _ c.loop-bytes.invariant.taken read.bytes.0 read.count.1 in
    (all.0, omega (arith, all.1, read.count.0, length-take {A = ℕ}), all.2)

pub returns-in_err-extend_from_slice-clause-taken :
    goal.returns-in_err-extend_from_slice-clause-taken
returns-in_err-extend_from_slice-clause-taken g c =
    let read = c.in_ok-count.ensures in
    let all = taken_more _ _ _ c.loop-bytes.bytes.items _ _ c.loop-bytes.invariant.taken read.bytes.0 read.count.1 in
    (all.0, omega (arith, all.1, read.count.0, length-take {A = ℕ}), all.2)
