use Rattle.std.proofs.Common.{◌≡◌, ◌+◌, inl, inr, sym, ap, ◌∙◌, true≢false, arith}
use Rattle.std.proofs.lemmas.Bool.{cases_lt}
use Rattle.life_model.specs.Evolution.{generation, next}
use Rattle.life_model.specs.Symmetry.{translate_of}
use Rattle.life_model.proofs.Recurrences.{generation-next, generation-zero}
use Rattle.life_ash.proofs.again.comes_again.Goals as goal

pub loop-taken-init : goal.loop-taken-init
loop-taken-init g c =
    let one = c.in_ok-later.ensures.age in
    let other = c.in_ok-first.ensures.age in
    record {
      members = c.in_ok-later.ensures.cells ∙ c.in_ok-first.ensures.cells ∙ sym (generation-zero _ _);
      aged = omega arith;
      new = λ n d h r. let later = r.later in absurd (omega arith);
    }

pub loop-taken-preserved : goal.loop-taken-preserved
loop-taken-preserved g c =
    let R = c.args.rule.now in
    let G = c.args.cells.now in
    let n = c.loop-taken._taken in
    let here : g.P.Plane.members c.step.new.self ≡ generation R G (n + 1) =
    c.in_ok-step.ensures.cells ∙ ap (next R) c.loop-taken.invariant.members ∙ sym (generation-next R G n) in
    let made = c.in_ok-step.ensures.age in
    let aged = c.loop-taken.invariant.aged in
    record {
      members = here;
      aged = omega arith;
      new = λ m d h r. elim (cases_lt m (n + 1)) [
        | inl early ↦ c.loop-taken.invariant.new m d (omega arith) r
        | inr late ↦
            let last : m ≡ n + 1 = omega arith in
            true≢false (sym (c.in_ok-are_moved.ensures d
            (here ∙ ap (generation R G) (sym last) ∙ r.again
            ∙ ap (λ S. translate_of S d) (sym c.in_ok-first.ensures.cells)))
            ∙ c.if-branch.false)
      ];
    }

pub returns : goal.returns
returns g c r =
    let within = r.within in
    let ended = c.loop-taken-test.false in
    absurd (c.loop-taken.invariant.new r.steps r.by (omega arith) r.recurs)
