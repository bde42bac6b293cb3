use Rattle.std.proofs.Common.{List, sym, subst}
use Rattle.life_model.specs.Evolution.{generation}
use Rattle.life_model.specs.Generation.{Generation}
use Rattle.life_objects.specs.Ash.{IsAsh}
use Rattle.life_strays.specs.Totals.{AreTotals}
use Rattle.life_strays.proofs.Even.{uneven_is_no_ash}
use Rattle.life_ash.proofs.far.told_later.Goals as goal

pub returns-then-is_uneven-clause-told : goal.returns-then-is_uneven-clause-told
returns-then-is_uneven-clause-told g c =
    let R = c.args.met.now.rule in
    let b = c.args.met.now.bound in
    let past = c.requires.past in
    let H = generation R past.0 b in
    subst (λ K. (parts : List Generation) → IsAsh R b K parts → ⊥) (sym past.1)
    (uneven_is_no_ash R b H c.as_slice.result.now
    (subst (AreTotals R b H) (sym c.as_slice.ensures.value) past.2.counted.before)
    (c.is_uneven.ensures c.if-is_uneven.true))
