use Rattle.std.proofs.Common.{Decides, ◌≡◌, sym, ◌∙◌}
use Rattle.std.proofs.lemmas.Slice.Eq.{slice_eq-Decides}
use Rattle.std.proofs.lemmas.Bool.Decides.{Decides-eqb}
use Rattle.life_find.proofs.SameObjects.{TellsObject_by_codes}
use Rattle.life_find.proofs.sameness.same_object_on.Goals as goal

pub returns-in-None-clause-unsettled : goal.returns-in-None-clause-unsettled
returns-in-None-clause-unsettled g c = λ h k s t. let none = rw c.in-None.is at c.in_ok-code.ensures.unsettled in none h s

pub returns-in-None-2-clause-unsettled : goal.returns-in-None-2-clause-unsettled
returns-in-None-2-clause-unsettled g c = λ h k s t. let none = rw c.in-None-2.is at c.in_ok-code-2.ensures.unsettled in none k t

pub returns-clause-settled : goal.returns-clause-settled
returns-clause-settled g c =
    let one = rw c.in-Some.is at c.in_ok-code.ensures.settled in
    let other = rw c.in-Some-2.is at c.in_ok-code-2.ensures.settled in
    let same : Decides c.eq.result (c.as_slice.result.now ≡ c.as_slice-2.result.now) = slice_eq-Decides Decides-eqb _ _ c.eq.result c.eq.ensures in
    TellsObject_by_codes c.args.rule.now c.args.first.now c.args.second.now c.args.bound c.in-Some.code c.in-Some-2.code c.eq.result one other
    (λ e. sym c.as_slice.ensures ∙ same.0 e ∙ c.as_slice-2.ensures, λ e. same.1 (c.as_slice.ensures ∙ e ∙ sym c.as_slice-2.ensures))
