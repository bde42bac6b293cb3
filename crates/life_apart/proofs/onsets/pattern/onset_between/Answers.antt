use Rattle.std.proofs.Common.{◌≡◌, ◌+◌, inl, inr, sym, ap, subst, true≢false, ◌∙◌, arith}
use Rattle.std.proofs.lemmas.Bool.{cases_lt}
use Rattle.life_model.specs.Evolution.{generation, next}
use Rattle.life_model.proofs.Recurrences.{generation-next}
use Rattle.life_objects.specs.Onset.{HasAsh}
use Rattle.life_apart.proofs.OnsetsLemmas.Onsets.{onset_found}
use Rattle.life_apart.proofs.onsets.pattern.onset_between.Goals as goal

pub loop-now-init : goal.loop-now-init
loop-now-init g c = record {
  aged = c.requires.start;
  later = omega arith;
  members = λ G is. is;
  none = λ b G is ash none n early has. none n early has;
}

pub is_ash_already-requires-clause-since : goal.is_ash_already-requires-clause-since
is_ash_already-requires-clause-since g c = (c.args.rule.now, c.requires.rule, c.requires.since)

pub returns-then-branch-clause-onset : goal.returns-then-branch-clause-onset
returns-then-branch-clause-onset g c b G is ash end none =
    let R = c.args.rule.now in
    onset_found R b c.loop-now.now G
    ((c.in_ok-is_ash_already.ensures R b G c.requires.rule c.requires.since (c.loop-now.invariant.members G is) ash).0 c.if-branch.true)
    (c.loop-now.invariant.none b G is ash none)

pub loop-now-preserved : goal.loop-now-preserved
loop-now-preserved g c =
    let R = c.args.rule.now in
    let later = c.loop-now.invariant.later in
    record {
      aged = c.in_ok-step.ensures.age ∙ ap (λ k. k + 1) c.loop-now.invariant.aged;
      later = omega arith;
      members = λ G is. c.in_ok-step.ensures.cells ∙ ap (next R) (c.loop-now.invariant.members G is) ∙ sym (generation-next R G c.loop-now.now);
      none = λ b G is ash none n early has.
          elim (cases_lt n c.loop-now.now) [
            | inl before ↦ c.loop-now.invariant.none b G is ash none n before has
            | inr after ↦
                let last : n ≡ c.loop-now.now = omega arith in
                true≢false (sym ((c.in_ok-is_ash_already.ensures R b G c.requires.rule c.requires.since
                (c.loop-now.invariant.members G is) ash).1
                (subst (λ k. HasAsh R b (generation R G k)) last has)) ∙ c.if-branch.false)
          ];
    }

pub returns-clause-onset : goal.returns-clause-onset
returns-clause-onset g c b G is ash end none =
    let R = c.args.rule.now in
    let ended = c.loop-now-test.false in
    onset_found R b c.args.end G end
    (λ n early. c.loop-now.invariant.none b G is ash none n (omega arith))
