use Rattle.std.proofs.Common.{◌+◌, refl, sym, subst, ◌∙◌, arith}
use Rattle.std.proofs.lemmas.Bool.{false≢true}
use Rattle.life_ash.proofs.Finding.{of_some}
use Rattle.life_tracks.specs.Frames.Frames.{IsFilm}
use Rattle.life_growth.specs.Unsplit.{IsUnsplit}
use Rattle.life_tracks.specs.Tracks.{way_of}
use Rattle.life_growing.proofs.FindingCores.{AreWholeSoFar, IsSeen, one_filmed, one_told}
use Rattle.life_growing.proofs.whole.are_whole.Goals.{else-not-is_told, in-None, in-Some, then-not-is_told+in_ok-film+in-Some-2}
use Rattle.life_growing.proofs.whole.are_whole.Goals as goal

pub loop-n-init : goal.loop-n-init
loop-n-init g c = record { filmed = tt; whole = λ k h. absurd (omega arith) }

pub overflow_sub-n : goal.overflow_sub-n
overflow_sub-n g c =
    let core = (way_of c.args.track.now).core in
    let before = (of_some (IsSeen c.args.rule.now c.args.bound core c.loop-n.n) c.in-Some.is c.loop-n.invariant.filmed).0 in
    omega arith

pub has_class-is_told-requires : goal.has_class-is_told-requires
has_class-is_told-requires g c =
    let core = (way_of c.args.track.now).core in
    let s = c.in-Some.seen in (
      c.args.rule.now,
      core s.from,
      c.args.bound,
      (of_some (IsSeen c.args.rule.now c.args.bound core c.loop-n.n) c.in-Some.is c.loop-n.invariant.filmed).1,
    )

pub loop-n-preserved : goal.loop-n-preserved
loop-n-preserved g c =
    let R = c.args.rule.now in
    let b = c.args.bound in
    let core = (way_of c.args.track.now).core in
    let n = c.loop-n.n in
    let here = c.core_before-core.ensures in
    elim c.if-not-is_told.branch [
      | then-not-is_told+in_ok-film+in-Some-2 w ↦
          let film = of_some (IsFilm R c.core_before-core.result.now b) w.in-Some-2.is w.in_ok-film.ensures.some in
          let whole = of_some (λ _. IsUnsplit R b c.core_before-core.result.now) w.in-Some-2.is w.in_ok-film.ensures.whole in
          one_filmed R b core n c.loop-n.seen c.if-not-is_told.seen _ c.loop-n.invariant w.seen-is refl
          (subst (λ G. IsFilm R G b w.in-Some-2.film) here film) (subst (IsUnsplit R b) here whole)
      | else-not-is_told w ↦
          subst (AreWholeSoFar R b core (n + 1)) (sym w.seen-is) (elim c.match-seen.branch [
            | in-Some w' ↦
                one_told R b core n c.loop-n.seen w'.in-Some.seen w'.has_class-is_told.result _ c.loop-n.invariant
                w'.in-Some.is here w'.has_class-is_told.ensures (sym w'.is_told-is ∙ w.if-not-is_told.false)
            | in-None w' ↦ absurd (false≢true (sym w'.is_told-is ∙ w.if-not-is_told.false))
          ])
    ]

pub returns : goal.returns
returns g c =
    let end = c.loop-n-test.false in
    let long = c.period-n-end.ensures in
    (λ t n h. c.loop-n.invariant.whole n (omega arith), λ all. refl)
