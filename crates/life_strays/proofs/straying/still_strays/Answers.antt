use Rattle.std.proofs.Common.{ℕ, ◌+◌, ◌*◌, ◌/◌, ◌<◌, ◌≤◌, refl, subst, ◌∙◌, arith}
use Rattle.std.specs.Vec.Iter.{into_iter_items}
use Rattle.life_model.specs.Evolution.{generation}
use Rattle.life_plane.specs.Offsets.{HasNoneWithin}
use Rattle.life_strays.specs.Strays.{AreHeirs, IsStray}
use Rattle.life_strays.proofs.Following.{still_stray}
use Rattle.life_strays.proofs.Yielded.{met_in_order, next_in_order, one_more}
use Rattle.life_strays.proofs.straying.still_strays.Goals as goal
use Rattle.life_strays.proofs.straying.still_strays.Goals.{then-not-is_late-via-then-not-is_late, then-not-is_late-via-else-not-is_late+then-not-may_have_moved}

late_then : (b k : ℕ) → k ≤ b / 2 → b < 2 * k → ⊥
late_then b k early late = omega arith

pub loop-stray-preserved-in-loop-stray : goal.loop-stray-preserved-in-loop-stray
loop-stray-preserved-in-loop-stray g c =
    let b = c.args.bound in
    let k = c.args.number in
    let H = g.P.Plane.members c.args.plane.now in
    let stray = c.in-Some.stray in
    let at = c.loop-stray.invariant in
    let steps = c.in-Some.ensures.steps.0 in
    let rest = into_iter_items c.next.new.self in
    let none : b < 2 * k → HasNoneWithin k stray.set H =
    elim c.then-not-is_late.branch [
      | then-not-is_late-via-then-not-is_late w ↦ λ late.
          let early = w.if-not-is_late.true in absurd (late_then b k early late)
      | then-not-is_late-via-else-not-is_late+then-not-may_have_moved w ↦ λ _. w.if-not-may_have_moved.ensures refl
    ] in
    record {
      order = next_in_order _ c.loop-stray.yielded _ rest stray at.order steps;
      kept = λ R n G is members all. one_more (IsStray R b (n + 1) G) c.loop-stray.left.items c.push.new.self.items _
          c.in_ok-push.ensures.items (at.kept R n G is members all)
          (still_stray R b n G stray
          (met_in_order (IsStray R b n G) c.args.strays.items c.loop-stray.yielded _ rest stray all
          (at.order ∙ c.into_iter-stray-iterator.ensures.into_iter_gives.0) steps)
          c.in_ok-heirs.heirs
          (subst (λ F. AreHeirs F stray.heirs c.in_ok-heirs.heirs) members c.in_ok-heirs.ensures)
          (subst (λ m. b < 2 * m → HasNoneWithin m stray.set (generation R G (n + 1))) is
          (subst (λ F. b < 2 * k → HasNoneWithin k stray.set F) members none)));
    }
