use Rattle.std.proofs.Common.{rules, ◌≢◌, ℕ, ◌<◌, ◌≤◌, List, [], length, sym, subst, ◌∙◌, true≢false}
use Rattle.life_growth.specs.Engine.{IsEngine}
use Rattle.life_growth.specs.Things.{NeverMeetAgain, listed}
use Rattle.life_growth.specs.Unsplit.{IsUnsplit}
use Rattle.life_growing.specs.Settled.Settling.{Settling}
use Rattle.life_tracks.specs.Tracks.{way_of}
use Rattle.life_growing.specs.Emissions.{AreLefts, left_at, things_left}
use Rattle.life_growing.proofs.Deciding.{fit_way, is_engine, never_again, some_parts, whole_in_film}
use Rattle.life_growing.proofs.finding.engine_along.Goals as goal
use Rattle.life_growing.proofs.finding.engine_along.Goals.{else-length-bound-via-then-length-bound+in_ok-are_whole+else-not-branch, else-length-bound-via-else-length-bound}

-- one of the lefts has parts, stated for their list
abbrev HasParts : List Settling → ℕ → Type 0
HasParts lefts count = (n : ℕ) × (n < count) × ((left_at lefts n).parts ≢ [])

pub returns-then-not-emit-clause-none : goal.returns-then-not-emit-clause-none
returns-then-not-emit-clause-none g c engine =
    let are = rw c.in-Some.is at c.in_ok-lefts.ensures.some in
    let some = some_parts c.args.rule.now c.args.bound (way_of c.args.track) c.in-Some.lefts.items are c.args.track.start engine in
    true≢false (sym (c.emit.ensures.1
    (subst (λ lefts. HasParts lefts (length lefts)) (sym c.as_slice.ensures.value)
    (subst (HasParts c.in-Some.lefts.items) (sym are.count) some))) ∙ c.if-not-emit.true)

pub leave_for_ever-requires-clause-fit : goal.leave_for_ever-requires-clause-fit
leave_for_ever-requires-clause-fit g c =
    fit_way c.args.rule.now c.args.length c.args.track.start (way_of c.args.track) c.requires.back (search rules)

pub returns-then-not-branch-2-clause-none : goal.returns-then-not-branch-2-clause-none
returns-then-not-branch-2-clause-none g c engine =
    let are = rw c.in-Some.is at c.in_ok-lefts.ensures.some in
    true≢false (sym (c.in_ok-leave_for_ever.ensures.1
    (subst (λ lefts. NeverMeetAgain (way_of c.args.track) (listed (things_left lefts))) (sym c.as_slice-2.ensures.value)
    (never_again c.args.rule.now c.args.bound (way_of c.args.track) c.in-Some.lefts.items are c.args.track.start engine)))
    ∙ c.if-not-branch-2.true)

pub of-requires-clause-fit : goal.of-requires-clause-fit
of-requires-clause-fit g c =
    fit_way c.args.rule.now c.args.length c.args.track.start (way_of c.args.track) c.requires.back (search rules)

pub returns-clause-some : goal.returns-clause-some
returns-clause-some g c =
    let are = rw c.in-Some.is at c.in_ok-lefts.ensures.some in
    let short : (way_of c.args.track).period ≤ c.args.bound = search rules in
    let whole : (n : ℕ) → n ≤ (way_of c.args.track).period →
    IsUnsplit c.args.rule.now c.args.bound ((way_of c.args.track).core n) =
    elim c.else-length-bound.branch [
      | else-length-bound-via-then-length-bound+in_ok-are_whole+else-not-branch w ↦
          w.in_ok-are_whole.ensures.0 w.if-not-branch.false
      | else-length-bound-via-else-length-bound w ↦
          λ n h. whole_in_film c.args.rule.now c.args.length c.args.bound n ((way_of c.args.track).core n) (search rules)
          (c.requires.back.whole n h)
    ] in
    let parts = c.emit.ensures.0 c.if-not-emit.false in
    let some = subst (HasParts c.in-Some.lefts.items) are.count
    (subst (λ lefts. HasParts lefts (length lefts)) c.as_slice.ensures.value parts) in
    let never = subst (λ lefts. NeverMeetAgain (way_of c.args.track) (listed (things_left lefts))) c.as_slice-2.ensures.value
    (c.in_ok-leave_for_ever.ensures.0 c.if-not-branch-2.false) in
    let engine = is_engine c.args.rule.now c.args.bound (way_of c.args.track) c.in-Some.lefts.items are c.args.length
    c.args.track.start c.requires.back short whole some never in
    record {
      engine = subst (λ path. IsEngine c.args.rule.now c.args.bound c.args.track.start (way_of path))
          (sym c.of.ensures.path) engine;
      lefts = subst (λ path. AreLefts c.args.rule.now c.args.bound (way_of path) c.of.result.lefts) (sym c.of.ensures.path)
          (subst (AreLefts c.args.rule.now c.args.bound (way_of c.args.track)) (sym c.of.ensures.lefts) are);
    }
