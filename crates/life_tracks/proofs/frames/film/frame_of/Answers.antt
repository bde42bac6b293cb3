use Rattle.std.proofs.Common.{◌≡◌, ◌-◌, ◌<◌, length, sym, ap, subst, ◌∙◌, arith}
use Rattle.life_model.specs.Evolution.{next}
use Rattle.life_growth.specs.Unsplit.{AreClasses}
use Rattle.life_tracks.specs.declared.frames.frame.Frame.{Frame}
use Rattle.life_tracks.specs.Frames.Frames.{AreParents}
use Rattle.life_tracks.proofs.FramesLemmas.Backwards.{classes_later, first_frame, next_frame}
use Rattle.life_tracks.proofs.frames.film.frame_of.Goals as goal

pub returns-then-count-eq0 : goal.returns-then-count-eq0
returns-then-count-eq0 c R G T are within is =
    first_frame R G T c.args.frames.now c.args.list.now c.in_ok-last.last is c.if-count-eq0.true (c.in_ok-last.ensures R)

pub frame_before-requires : goal.frame_before-requires
frame_before-requires c =
    let R = c.requires.0 in
    let fs = c.args.frames.now in
    let some : 0 < length fs = omega (arith, c.if-count-eq0.false) in (
      R,
      length fs - 1,
      subst (AreClasses R (length fs - 1) (next R c.args.list.now))
          (sym (c.as_slice.ensures.value ∙ ap (λ (f : Frame). f.classes.items) (sym c.index-frames-count.is)))
          (classes_later R c.requires.1 c.requires.2 fs c.args.list.now c.index-frames-count.result c.requires.3 c.requires.4 c.requires.5
          some c.index-frames-count.is),
    )

pub returns : goal.returns
returns c R G T are within is =
    let fs = c.args.frames.now in
    let H = c.args.list.now in
    let f = c.index-frames-count.result in
    let frame = c.in_ok-frame.frame in
    let some : 0 < length fs = omega (arith, c.if-count-eq0.false) in
    let same : c.as_slice.result.now ≡ f.classes.items =
    c.as_slice.ensures.value ∙ ap (λ (g : Frame). g.classes.items) (sym c.index-frames-count.is) in
    let later = subst (AreClasses R (length fs - 1) (next R H)) (sym same)
    (classes_later R G T fs H f are within is some c.index-frames-count.is) in
    next_frame R G T fs H f frame is some c.index-frames-count.is (c.in_ok-frame.ensures.classes R (length fs - 1) later)
    (subst (λ Qs. AreParents R frame.classes.items Qs frame.parents.items) same
    (c.in_ok-frame.ensures.parents R (length fs - 1) later))
