use Rattle.std.proofs.Common.{◌≡◌, length, sym, ap, subst, ◌∙◌}
use Rattle.std.proofs.lemmas.Result.{IfOk-weaker}
use Rattle.life_classes.specs.Grouped.{kept_classes}
use Rattle.life_classes.specs.Labels.{classes_by}
use Rattle.life_classes.specs.Tracking.{AreApartNow, LeadTo}
use Rattle.life_classes.proofs.Keeping.{apart_kept, lead_kept}
use Rattle.life_classes.proofs.splitting.classes_in.Goals as goal

pub returns-clause-tracked : goal.returns-clause-tracked
returns-clause-tracked c =
    let a = c.args.split.now.first in
    let l = c.args.split.now.last in
    let f = c.args.split.now.forest.items in
    let g = c.as_slice.result.now in
    IfOk-weaker c.collected.result (λ all. all.items ≡ kept_classes a l g (length g))
    (λ all. LeadTo (classes_by a l f) all.items)
    (λ all h.
    subst (LeadTo (classes_by a l f)) (sym (h ∙ ap (λ k. kept_classes a l k (length k)) c.as_slice.ensures.value))
    (lead_kept a l f (length f))) c.collected.ensures

pub returns-clause-apart : goal.returns-clause-apart
returns-clause-apart c =
    let a = c.args.split.now.first in
    let l = c.args.split.now.last in
    let f = c.args.split.now.forest.items in
    let g = c.as_slice.result.now in
    IfOk-weaker c.collected.result (λ all. all.items ≡ kept_classes a l g (length g))
    (λ all. AreApartNow (classes_by a l f) → AreApartNow all.items)
    (λ all h now.
    subst AreApartNow (sym (h ∙ ap (λ k. kept_classes a l k (length k)) c.as_slice.ensures.value)) (apart_kept a l f now))
    c.collected.ensures
