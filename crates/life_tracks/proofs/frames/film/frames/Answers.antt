use Rattle.std.proofs.Common.{◌≡◌, ◌-◌, ◌≤◌, length, sym, ap, subst, ◌∙◌, arith}
use Rattle.std.proofs.lemmas.List.{length_push}
use Rattle.life_model.specs.Evolution.{generation}
use Rattle.life_tracks.specs.Frames.Frames.{AreFrames, IsNextFrame}
use Rattle.life_tracks.proofs.FramesLemmas.Backwards.{last_left, one_frame_more, one_left_less}
use Rattle.life_tracks.proofs.frames.film.frames.Goals as goal

pub frame_of-requires : goal.frame_of-requires
frame_of-requires c =
    let R = c.requires.0 in
    let G = c.requires.1 in
    let T = c.requires.2 in
    let gens = c.requires.3 in
    let all = c.loop-list.all.items in
    let less = c.pop.new.self.items in
    let fs = c.loop-list.frames.items in
    let at = c.loop-list.invariant in
    let count = at.count in
    let whole = gens.count in
    let long = ap length c.in-Some.ensures.items ∙ length_push less c.in-Some.list in
    let place : length less ≡ T - length fs = omega arith in (
      R,
      G,
      T,
      subst (λ gs. AreFrames R G T (length gs) gs) (sym c.as_slice.ensures.value) (at.made R G T gens),
      subst (λ gs. length gs ≤ T) (sym c.as_slice.ensures.value) (omega arith),
      subst (λ gs. c.in-Some.list ≡ generation R G (T - length gs)) (sym c.as_slice.ensures.value)
          (last_left R G all less c.in-Some.list c.in-Some.ensures.items (at.left R G T gens) ∙ ap (generation R G) place),
    )

pub loop-list-preserved : goal.loop-list-preserved
loop-list-preserved c =
    let all = c.loop-list.all.items in
    let less = c.pop.new.self.items in
    let fs = c.loop-list.frames.items in
    let gs = c.push.new.self.items in
    let at = c.loop-list.invariant in
    let count = at.count in
    let frame = c.in_ok-frame.frame in
    let long = ap length c.in-Some.ensures.items ∙ length_push less c.in-Some.list in
    let longer = ap length c.in_ok-push.ensures.items ∙ length_push fs frame in
    record {
      left = λ R G T gens. one_left_less R G all less c.in-Some.list c.in-Some.ensures.items (at.left R G T gens);
      made = λ R G T gens.
          let whole = gens.count in
          let place : length less ≡ T - length fs = omega arith in
          one_frame_more R G T fs gs frame c.in_ok-push.ensures.items (at.made R G T gens)
          (subst (λ hs. AreFrames R G T (length hs) hs → length hs ≤ T → c.in-Some.list ≡ generation R G (T - length hs) →
          IsNextFrame R G T hs frame) c.as_slice.ensures.value (c.in_ok-frame.ensures R G T) (at.made R G T gens) (omega arith)
          (last_left R G all less c.in-Some.list c.in-Some.ensures.items (at.left R G T gens) ∙ ap (generation R G) place));
      count = omega arith;
    }

pub returns : goal.returns
returns c R G T gens =
    let at = c.loop-list.invariant in
    let count = at.count in
    let whole = gens.count in
    let none = c.in_default.ensures.cases.0 in
    subst (λ n. AreFrames R G T n c.loop-list.frames.items) (omega arith) (at.made R G T gens)
