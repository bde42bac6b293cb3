use Rattle.std.proofs.Common.{◌-◌, ◌≤◌, sym, subst, ◌∙◌, arith}
use Rattle.life_objects.specs.Ash.{IsAsh}
use Rattle.life_answer.specs.Limited.{first_past}
use Rattle.life_ash.specs.Ahead.{IfNothing, IsFound}
use Rattle.life_apart.specs.Sets.{sets_of}
use Rattle.life_answer.proofs.Limits.{past_within}
use Rattle.life_ash.proofs.Limits.{past_later, past_nowhere_later}
use Rattle.life_ash.proofs.ahead.found_if_due.Goals as goal
use Rattle.life_ash.proofs.ahead.found_if_due.Goals.{in-Some-2, in-None}

pub overflow_add-result : goal.overflow_add-result
overflow_add-result g c =
    let last = c.args.last - c.args.age in
    let here = g.P.Plane.members c.args.plane.now in
    let n = c.in-Some-2.n in
    let within : n ≤ last = past_within c.rule-rule.result here last c.args.limit n (sym c.in_ok-n.ensures ∙ c.in-Some-2.is) in
    let far = c.requires.last in
    let older = c.requires.within in
    omega arith

pub returns-clause-found : goal.returns-clause-found
returns-clause-found g c G from end here allowed earlier more =
    let R = c.args.met.now.rule in
    let b = c.args.met.now.bound in
    let age = c.args.age in
    let last = c.args.last in
    let past = (λ i. first_past c.args.limit (sym c.rule-rule.ensures i) (sym here i) (last - age)) ∙ sym c.in_ok-n.ensures in
    elim c.match-branch-4.branch [
      | in-Some-2 w ↦
          subst (IsFound R b G c.args.limit from end last) (sym w.result-is)
          (past_later R G c.args.limit last age w.in-Some-2.n c.requires.within allowed (past ∙ w.in-Some-2.is))
      | in-None w ↦
          let parts = c.in-Some.parts.items in
          subst (IsFound R b G c.args.limit from end last) (sym w.result-is) (
            earlier,
            more,
            past_nowhere_later R G c.args.limit last age c.requires.within allowed (past ∙ w.in-None.is),
            record {
              ash = subst (λ H. IsAsh R b H (sets_of parts)) here (rw c.in-Some.is at c.in_ok-parts.ensures.ash);
              rule = rw c.in-Some.is at c.in_ok-parts.ensures.rule;
              placed = rw c.in-Some.is at c.in_ok-parts.ensures.placed;
              courses = rw c.in-Some.is at c.in_ok-parts.ensures.courses;
            },
          )
    ]

pub returns-clause-some : goal.returns-clause-some
returns-clause-some g c =
    elim c.match-branch-4.branch [
      | in-Some-2 w ↦ subst (λ found. IfNothing found ⊥) (sym w.result-is) tt
      | in-None w ↦ subst (λ found. IfNothing found ⊥) (sym w.result-is) tt
    ]
