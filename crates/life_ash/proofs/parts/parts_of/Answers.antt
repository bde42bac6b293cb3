use Rattle.std.proofs.Common.{◌+◌, ◌++◌, ◌∷◌, [], length, sym, ap, subst, ◌∙◌, true≢false}
use Rattle.std.proofs.lemmas.List.{length-append}
use Rattle.std.proofs.lemmas.List.Elements.{All-push, All-same}
use Rattle.life_model.specs.Generation.{Generation}
use Rattle.life_objects.specs.Ash.{RecursWithin}
use Rattle.life_ash.specs.Met.{Terms}
use Rattle.life_ash.specs.Parts.{IsEnd, IsFit, IsOnlyOne}
use Rattle.life_ash.proofs.Finding.{of_none, of_some}
use Rattle.life_ash.proofs.Following.{only_next}
use Rattle.life_ash.proofs.Turning.{end_recurs}
use Rattle.life_ash.proofs.parts.parts_of.Goals as goal

pub returns-in-None-clause-none : goal.returns-in-None-clause-none
returns-in-None-clause-none g c =
    let Q = c.last-item.result in
    let i = c.loop-last.last-index in
    let none = subst (λ (t : Terms). (P : Generation) → IsEnd t.rule t.bound c.args.ago Q P → ⊥) c.loop-last.invariant.same
    (of_none c.in-None.is c.in_ok-part.ensures.none) in
    (Q, (i, c.loop-last-test.true, sym c.last-item.is), none)

pub returns-then-not-branch-clause-none : goal.returns-then-not-branch-clause-none
returns-then-not-branch-clause-none g c =
    let t = c.args.known.now in
    let Q = c.last-item.result in
    let i = c.loop-last.last-index in (
      Q,
      (i, c.loop-last-test.true, sym c.last-item.is),
      λ P end.
          true≢false (sym (c.in_ok-comes_again.ensures
          (subst (λ n. RecursWithin c.rule-rule.result n Q) (sym c.bound-bound.ensures.value)
          (subst (λ S. RecursWithin S t.bound Q) (sym c.rule-rule.ensures)
          (end_recurs t.rule t.bound c.args.ago Q P end))))
          ∙ c.if-not-branch.true),
    )

pub loop-last-preserved : goal.loop-last-preserved
loop-last-preserved g c =
    let R = c.args.known.now.rule in
    let b = c.args.known.now.bound in
    let os = c.loop-last.parts.items in
    let o = c.in-Some.part in
    let Q = c.last-item.result in
    let met = c.loop-last.known in
    let grown = c.in_ok-push-in-Some.ensures.items in
    let at = c.loop-last.invariant in
    record {
      fit = All-same (IsFit R b) _ (os ++ o ∷ []) grown
          (All-push (IsFit R b) os o at.fit (subst (λ (t : Terms). IsFit t.rule t.bound o) at.same
          (of_some (IsFit met.rule met.bound) c.in-Some.is c.in_ok-part.ensures.fit)));
      same = c.part_of.ensures.same ∙ at.same;
      count = ap length grown ∙ length-append os (o ∷ []) ∙ ap (λ n. n + 1) at.count;
      only = only_next R b c.args.ago c.args.lasts.now os c.push.new.self.items o Q c.loop-last.last-index at.count
          c.loop-last-test.true c.last-item.is grown at.only
          (subst (λ (t : Terms). IsOnlyOne t.rule t.bound c.args.ago Q o) at.same
          (of_some (IsOnlyOne met.rule met.bound c.args.ago Q) c.in-Some.is c.in_ok-part.ensures.set));
    }
