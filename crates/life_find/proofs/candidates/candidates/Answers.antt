use Rattle.std.proofs.Common.{◌++◌, ◌∷◌, [], cond, sym, ap, ◌∙◌, append-nil}
use Rattle.life_find.specs.Search.{ends_alike}
use Rattle.life_find.proofs.Possible.{candidates-more}
use Rattle.life_find.proofs.candidates.candidates.Goals as goal
use Rattle.life_find.proofs.candidates.candidates.Goals.{then-ends_alike+in_ok-push, else-ends_alike}

pub loop-period-preserved : goal.loop-period-preserved
loop-period-preserved c =
    let before = c.loop-period.periods.items in
    let p = c.loop-period.period in
    candidates-more (ends_alike c.args.fingerprints.now) before c.if-ends_alike.periods.items p c.loop-period.auto.period c.loop-period.invariant
    (elim c.if-ends_alike.branch [
      | then-ends_alike+in_ok-push w ↦
          ap (λ v. v.items) w.periods-is ∙ w.in_ok-push.ensures.items ∙ ap (λ b. before ++ cond b (p ∷ []) []) (sym w.if-ends_alike.true ∙ c.ends_alike.ensures)
      | else-ends_alike w ↦
          ap (λ v. v.items) w.periods-is ∙ sym (append-nil before) ∙ ap (λ b. before ++ cond b (p ∷ []) []) (sym w.if-ends_alike.false ∙ c.ends_alike.ensures)
    ])
