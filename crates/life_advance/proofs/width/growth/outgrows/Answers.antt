-- A far generation that is wider or higher than any generation of what settles.
use Rattle.std.proofs.Common.{◌≡◌, ℕ, ◌+◌, ◌*◌, sym, ap, subst, ◌∙◌, arith}
use Rattle.std.proofs.lemmas.Int.{ints}
use Rattle.life_model.specs.Generation.{Generation, from_list}
use Rattle.life_model.specs.Evolution.{generation}
use Rattle.life_model.proofs.Generations.{from_list-cells}
use Rattle.life_model.proofs.Recurrences.{generation-add}
use Rattle.life_advance.specs.Leaps.Planes.{members}
use Rattle.life_advance.specs.Width.Spans.{SpansColumns, SpansRows}
use Rattle.life_advance.proofs.WidthLemmas.Narrow.{columns_stay, rows_stay}
use Rattle.life_advance.proofs.width.growth.outgrows.Goals as goal

pub returns-then-is_wider : goal.returns-then-is_wider
returns-then-is_wider c told g s =
    let G : Generation = c.args.cells.now in
    let n : ℕ = c.spread_of-spread.result.columns in
    let same : from_list c.as_slice.result.now ≡ c.args.cells.now = ap from_list c.as_slice.ensures.cells ∙ from_list-cells c.args.cells.now in
    let span : SpansColumns c.args.cells.now c.spread_of-spread.result.columns = subst (λ H. SpansColumns H c.spread_of-spread.result.columns) same c.spread_of-spread.ensures.columns in
    let far : members c.in-Some.plane ≡ generation c.args.rule.now c.args.cells.now (c.args.age + c.in-Some.ensures.0) =
    c.in-Some.ensures.1 ∙ ap (λ H. generation c.args.rule.now H c.in-Some.ensures.0) c.requires.later ∙ generation-add c.args.rule.now c.args.cells.now c.args.age c.in-Some.ensures.0 in
    c.is_wider.ensures c.if-is_wider.true (n + 2 * c.args.bound) (omega (arith, ints))
    (subst (λ H. SpansColumns H (n + 2 * c.args.bound)) (sym far)
    (columns_stay c.args.rule.now G c.args.bound g n (c.args.age + c.in-Some.ensures.0) s span))

pub returns : goal.returns
returns c higher g s =
    let G : Generation = c.args.cells.now in
    let n : ℕ = c.spread_of-spread.result.rows in
    let same : from_list c.as_slice.result.now ≡ c.args.cells.now = ap from_list c.as_slice.ensures.cells ∙ from_list-cells c.args.cells.now in
    let span : SpansRows c.args.cells.now c.spread_of-spread.result.rows = subst (λ H. SpansRows H c.spread_of-spread.result.rows) same c.spread_of-spread.ensures.rows in
    let far : members c.in-Some.plane ≡ generation c.args.rule.now c.args.cells.now (c.args.age + c.in-Some.ensures.0) =
    c.in-Some.ensures.1 ∙ ap (λ H. generation c.args.rule.now H c.in-Some.ensures.0) c.requires.later ∙ generation-add c.args.rule.now c.args.cells.now c.args.age c.in-Some.ensures.0 in
    c.is_higher.ensures higher (n + 2 * c.args.bound) (omega (arith, ints))
    (subst (λ H. SpansRows H (n + 2 * c.args.bound)) (sym far)
    (rows_stay c.args.rule.now G c.args.bound g n (c.args.age + c.in-Some.ensures.0) s span))
