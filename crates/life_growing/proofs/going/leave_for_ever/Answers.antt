use Rattle.std.proofs.Common.{◌∙◌, true≢false, refl, sym, arith}
use Rattle.life_tracks.specs.Tracks.{way_of}
use Rattle.life_growing.proofs.GoingAway.{each_goes_away, never_meet_again, one_more_goes}
use Rattle.life_growing.proofs.going.leave_for_ever.Goals as goal

pub returns-then-not-branch : goal.returns-then-not-branch
returns-then-not-branch c = (
  λ t. absurd (true≢false (sym t)),
  λ never.
      let inside = c.loop-n-test.true in
      let count = c.requires.count in
      sym c.if-not-branch.true
      ∙ c.in_ok-goes_away.ensures.1
      (each_goes_away (way_of c.args.track.now) c.args.lefts.now never c.loop-n.n (omega arith)),
)

pub loop-n-preserved : goal.loop-n-preserved
loop-n-preserved c =
    one_more_goes (way_of c.args.track.now) c.args.lefts.now c.loop-n.n c.loop-n.invariant
    (c.in_ok-goes_away.ensures.0 c.if-not-branch.false)

pub returns : goal.returns
returns c = (
  λ t.
      let past = c.loop-n-test.false in
      let count = c.requires.count in
      never_meet_again (way_of c.args.track.now) c.args.lefts.now (λ n h. c.loop-n.invariant n (omega arith)),
  λ never. refl,
)
