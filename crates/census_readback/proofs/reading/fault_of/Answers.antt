use Rattle.std.proofs.Common.{refl, sym, subst, arith, ◌∙◌}
use Rattle.census_readback.specs.Reports.{IsFault}
use Rattle.census_readback.specs.Steps.{reading_of}
use Rattle.census_readback.specs.Told.{told_of}
use Rattle.census_readback.proofs.Walks.{all-read, line-fault, no-line, no-open, no-stray, none-left, open-fault, some-left, stray, stray-fault, walked-more, walked-start}
use Rattle.census_readback.proofs.reading.fault_of.Goals as goal
use Rattle.census_readback.proofs.reading.fault_of.Goals.{else-progress-via-then-progress+else-is_empty, else-progress-via-else-progress}

pub loop-first-init : goal.loop-first-init
loop-first-init c = walked-start c.args.text.now (told_of c.nothing-told.result) (reading_of c.start-progress.result) c.nothing-told.ensures c.start-progress.ensures

pub returns-then-not-branch-clause-sound : goal.returns-then-not-branch-clause-sound
returns-then-not-branch-clause-sound c =
    let told = told_of c.loop-first.told in
    let s = reading_of c.loop-first.progress in
    let n = c.loop-first.number in
    let row = c.in-Some.first.row in
    let ends = c.first_fault.ensures.ends in
    let no = c.in_ok-take.ensures.no (rw c.if-not-branch.true refl) in
    subst (IsFault c.args.text.now) (sym c.first_fault.ensures.value)
    (stray-fault c.args.text.now told s n c.loop-first.rest.now c.loop-first.invariant row c.in-Some.first.rest.now c.in-Some.ensures.sound.0 c.in-Some.ensures.sound.1 c.in-Some.ensures.all ends.0 ends.1
    (stray told s n row ends.1.rows no))

pub returns-then-not-branch-clause-all : goal.returns-then-not-branch-clause-all
returns-then-not-branch-clause-all c = λ rows reads.
    let told = told_of c.loop-first.told in
    let s = reading_of c.loop-first.progress in
    let n = c.loop-first.number in
    let row = c.in-Some.first.row in
    let ends = c.first_fault.ensures.ends in
    let no = c.in_ok-take.ensures.no (rw c.if-not-branch.true refl) in
    absurd (no-stray c.args.text.now told s n c.loop-first.rest.now c.loop-first.invariant row c.in-Some.first.rest.now c.in-Some.ensures.sound.0 c.in-Some.ensures.sound.1 c.in-Some.ensures.all ends.0 ends.1 rows reads
    (stray told s n row ends.1.rows no))

next : goal.loop-first-preserved
next c =
    let took = c.in_ok-take.ensures in
    let yes = c.if-not-branch.false in
    walked-more c.args.text.now (told_of c.loop-first.told) (reading_of c.loop-first.progress) c.loop-first.number c.loop-first.rest.now c.loop-first.invariant c.in-Some.first.row
    c.in-Some.first.rest.now c.in-Some.ensures.sound.0 c.in-Some.ensures.sound.1 c.in-Some.ensures.all (told_of c.take.new.told) (reading_of c.take.new.progress) (took.told (rw yes refl)) (took.goes (rw yes refl))

pub overflow_add-number : goal.overflow_add-number
overflow_add-number c =
    let after = (next c).within in
    omega (arith, after)

pub loop-first-preserved : goal.loop-first-preserved
loop-first-preserved c = next c

pub returns-then-is_empty-clause-sound : goal.returns-then-is_empty-clause-sound
returns-then-is_empty-clause-sound c =
    all-read c.args.text.now (told_of c.loop-first.told) (reading_of c.loop-first.progress) c.loop-first.number c.loop-first.rest.now c.loop-first.invariant c.in_default.ensures.all
    c.if-progress.true (none-left c.loop-first.rest.now (sym c.is_empty.ensures ∙ c.if-is_empty.true))

pub returns-clause-sound : goal.returns-clause-sound
returns-clause-sound c =
    let told = told_of c.loop-first.told in
    let s = reading_of c.loop-first.progress in
    let n = c.loop-first.number in
    let rest = c.loop-first.rest.now in
    elim c.else-progress.branch [
      | else-progress-via-then-progress+else-is_empty w ↦ line-fault c.args.text.now told s n rest c.loop-first.invariant c.in_default.ensures.all w.if-progress.true (some-left rest (sym w.is_empty.ensures ∙ w.if-is_empty.false))
      | else-progress-via-else-progress w ↦ open-fault c.args.text.now told s n rest c.loop-first.invariant c.in_default.ensures.all w.if-progress.false
    ]

pub returns-clause-all : goal.returns-clause-all
returns-clause-all c = λ rows reads.
    let told = told_of c.loop-first.told in
    let s = reading_of c.loop-first.progress in
    let n = c.loop-first.number in
    let rest = c.loop-first.rest.now in
    absurd (elim c.else-progress.branch as (λ _. ⊥) [
      | else-progress-via-then-progress+else-is_empty w ↦ no-line c.args.text.now told s n rest c.loop-first.invariant c.in_default.ensures.all (some-left rest (sym w.is_empty.ensures ∙ w.if-is_empty.false)) rows reads
      | else-progress-via-else-progress w ↦ no-open c.args.text.now told s n rest c.loop-first.invariant c.in_default.ensures.all w.if-progress.false rows reads
    ])
