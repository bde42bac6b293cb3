use Rattle.std.proofs.Common.{[], ◌∷◌, max, sym, subst}
use Rattle.life_things.specs.Clear.{StaysClearOutside}
use Rattle.life_things.proofs.Beside.{outside_both}
use Rattle.life_things.proofs.ways.span_beside.Goals as goal

pub returns-in-Some-span_along-clause-outside : goal.returns-in-Some-span_along-clause-outside
returns-in-Some-span_along-clause-outside c P Q field =
    let both = outside_both P Q c.args.start c.args.step (c.args.last ∷ []) c.in-Some.columns.from c.in-Some.columns.until
    c.in-Some-span_along.rows.from c.in-Some-span_along.rows.until (c.in-Some.ensures.outside P Q field)
    (c.in-Some-span_along.ensures.outside P Q field) in
    subst (λ n. StaysClearOutside P Q c.args.start c.args.step (c.args.last ∷ []) n c.min.result) (sym c.max.ensures)
    (subst (λ n. StaysClearOutside P Q c.args.start c.args.step (c.args.last ∷ [])
    (max c.in-Some.columns.from c.in-Some-span_along.rows.from) n) (sym c.min.ensures) both)
