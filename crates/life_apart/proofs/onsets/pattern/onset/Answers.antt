use Rattle.std.proofs.Common.{◌≡◌, ◌≤◌, ◌+◌, ◌-◌, sym, ap, true≢false, ◌∙◌, arith}
use Rattle.std.proofs.lemmas.Result.{IfOk-weaker}
use Rattle.life_model.specs.Evolution.{generation, next}
use Rattle.life_model.proofs.Recurrences.{generation-next}
use Rattle.life_objects.specs.Union.{generations}
use Rattle.life_objects.proofs.Ashes.{IsAsh-until}
use Rattle.life_apart.specs.Onsets.Pasts.{sets_of}
use Rattle.life_apart.proofs.OnsetsLemmas.Onsets.{parts_of_ash}
use Rattle.life_apart.proofs.onsets.pattern.onset.Goals as goal
use Rattle.life_apart.proofs.onsets.pattern.onset.Goals.{then-now-eq0+in_ok-is_ash_already+else-branch+in_ok-before-2, else-now-eq0}

pub all_apart_since-since-requires : goal.all_apart_since-since-requires
all_apart_since-since-requires g c = (
  c.args.rule.now,
  parts_of_ash c.args.rule.now c.requires.ash.0 c.args.age c.args.cells.now c.args.parts.now c.requires.rule c.requires.courses
      c.requires.ash.1,
)

pub plane_before_onset-requires-clause-since : goal.plane_before_onset-requires-clause-since
plane_before_onset-requires-clause-since g c =
    let R = c.args.rule.now in
    let are = parts_of_ash R c.requires.ash.0 c.args.age c.args.cells.now c.args.parts.now c.requires.rule c.requires.courses
    c.requires.ash.1 in
    (R, c.requires.rule, c.all_apart_since-since.ensures.since R are)

pub loop-now-init : goal.loop-now-init
loop-now-init g c =
    let R = c.args.rule.now in
    let G = c.args.cells.now in
    let aged = sym c.age-start.ensures.age in
    let members = c.in_ok-plane.ensures.start R c.requires.trail ∙ ap (generation R G) aged in
    record {
      members = members;
      aged = aged;
      copied = c.in_ok-before.ensures.cells ∙ members;
      copied_at = c.in_ok-before.ensures.age ∙ aged;
      earlier = omega arith;
      none = λ b ash n early has.
          let are = parts_of_ash R b c.args.age G c.args.parts.now c.requires.rule c.requires.courses ash in
          c.in_ok-plane.ensures.none R b c.requires.rule (c.all_apart_since-since.ensures.since R are) c.requires.trail ash n
          (let same = aged in omega (arith, same, early)) has;
    }

pub is_ash_already-requires-clause-since : goal.is_ash_already-requires-clause-since
is_ash_already-requires-clause-since g c =
    let are = parts_of_ash c.args.rule.now c.requires.ash.0 c.args.age c.args.cells.now c.args.parts.now c.requires.rule
    c.requires.courses c.requires.ash.1 in
    (c.args.rule.now, c.requires.rule, c.all_apart_since-since.ensures.since c.args.rule.now are)

pub onset_between-requires-clause-since : goal.onset_between-requires-clause-since
onset_between-requires-clause-since g c =
    c.all_apart_since-since.ensures.since c.args.rule.now
    (parts_of_ash c.args.rule.now c.requires.ash.0 c.args.age c.args.cells.now c.args.parts.now c.requires.rule c.requires.courses c.requires.ash.1)

pub onset_between-requires-2-clause-since : goal.onset_between-requires-2-clause-since
onset_between-requires-2-clause-since g c =
    c.all_apart_since-since.ensures.since c.args.rule.now
    (parts_of_ash c.args.rule.now c.requires.ash.0 c.args.age c.args.cells.now c.args.parts.now c.requires.rule c.requires.courses c.requires.ash.1)

pub returns-then-branch-clause-onset : goal.returns-then-branch-clause-onset
returns-then-branch-clause-onset g c =
    IfOk-weaker c.onset_between.result _ _
    (λ onset tells b ash.
    let R = c.args.rule.now in
    let G = c.args.cells.now in
    let are = parts_of_ash R b c.args.age G c.args.parts.now c.requires.rule c.requires.courses ash in
    let here = (c.in_ok-is_ash_already.ensures R b G c.requires.rule (c.all_apart_since-since.ensures.since R are)
    c.loop-now.invariant.members ash).0 c.if-branch.true in
    tells b G c.loop-now.invariant.copied ash here (c.loop-now.invariant.none b ash))
    c.onset_between.ensures.onset

pub loop-now-preserved : goal.loop-now-preserved
loop-now-preserved g c =
    let R = c.args.rule.now in
    let G = c.args.cells.now in
    let before = c.loop-now.invariant.earlier in
    let members = c.in_ok-step.ensures.cells ∙ ap (next R) c.loop-now.invariant.members ∙ sym (generation-next R G c.loop-now.now) in
    let aged = c.in_ok-step.ensures.age ∙ ap (λ k. k + 1) c.loop-now.invariant.aged in
    elim c.if-now-eq0.branch [
      | then-now-eq0+in_ok-is_ash_already+else-branch+in_ok-before-2 w ↦ record {
        members = members;
        aged = aged;
        copied = ap g.P.Plane.members w.before-is ∙ w.in_ok-before-2.ensures.cells ∙ c.loop-now.invariant.members ∙ ap (generation R G) (sym w.start-is);
        copied_at = ap g.P.Plane.steps_made w.before-is ∙ w.in_ok-before-2.ensures.age ∙ c.loop-now.invariant.aged ∙ sym w.start-is;
        earlier = let same = w.start-is in omega (arith, same);
        none = λ b ash n early has.
            let same = w.start-is in
            let are = parts_of_ash R b c.args.age G c.args.parts.now c.requires.rule c.requires.courses ash in
            let sooner : n ≤ c.loop-now.now = omega (arith, same, early) in
            true≢false (sym ((w.in_ok-is_ash_already.ensures R b G c.requires.rule
            (c.all_apart_since-since.ensures.since R are) c.loop-now.invariant.members ash).1
            (generations R has.0 (c.loop-now.now - n), IsAsh-until R b n c.loop-now.now G has.0 sooner has.1)) ∙ w.if-branch.false);
      }
      | else-now-eq0 w ↦ record {
        members = members;
        aged = aged;
        copied = ap g.P.Plane.members w.before-is ∙ c.loop-now.invariant.copied ∙ ap (generation R G) (sym w.start-is);
        copied_at = ap g.P.Plane.steps_made w.before-is ∙ c.loop-now.invariant.copied_at ∙ sym w.start-is;
        earlier = let same = w.start-is in omega (arith, same, before);
        none = λ b ash n early has. let same = w.start-is in c.loop-now.invariant.none b ash n (omega (arith, same, early)) has;
      }
    ]

pub returns-clause-onset : goal.returns-clause-onset
returns-clause-onset g c =
    IfOk-weaker c.onset_between-2.result _ _
    (λ onset tells b ash. tells b c.args.cells.now c.loop-now.invariant.copied ash (sets_of c.args.parts.now, ash) (c.loop-now.invariant.none b ash))
    c.onset_between-2.ensures.onset
