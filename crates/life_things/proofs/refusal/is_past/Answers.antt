use mir.Syntax.{w128}
use mir.Val.{of_z, to_z}
use lib.Signed.{le_z}
use Rattle.std.proofs.Common.{◌≡◌, ℕ, false, ◌+◌, ◌*◌, ◌^◌, ℤ, ◌<ℤ◌, sym, subst, arith}
use Rattle.std.proofs.lemmas.Int.{ints}
use Rattle.life_growth.specs.Relations.Relations.{product}
use Rattle.life_things.specs.Clear.{IsClearOver}
use Rattle.life_things.specs.Lattice.Gauges.{NoneFalls}
use Rattle.life_things.specs.Lattice.Short.{IsWithin, cross_limit, four_start}
use Rattle.life_things.specs.Steps.{list_of}
use Rattle.life_things.proofs.Leading.{clear_past, on_true_more}
use Rattle.life_things.proofs.LatticeLemmas.Within.{within_product_of}
use Rattle.life_things.proofs.refusal.is_past.Goals as goal

abbrev most : ℕ
most = cross_limit * four_start + (cross_limit * four_start + cross_limit * four_start)

greater : (p h x : ℤ) → IsWithin most p → IsWithin (2 ^ 63) h → p ≡ x →
    le_z (to_z w128 (of_z w128 p)) (to_z w128 (of_z w128 h)) ≡ false → h <ℤ x
greater p h x few small e test = omega (arith, ints)

past : (c : goal.After-none_falls) → c.most_product.result <ℤ product c.args.gauge c.args.start
past c =
    greater c.product.result c.most_product.result (product c.args.gauge c.args.start)
    (subst (IsWithin most) (sym c.product.ensures)
    (within_product_of cross_limit four_start c.args.gauge c.args.start c.requires.gauge c.requires.start))
    c.most_product.ensures.within c.product.ensures c.if-product-most_product.false

pub returns : goal.returns
returns c =
    on_true_more c.none_falls.result (NoneFalls c.args.gauge (list_of c.args.steps))
    (IsClearOver c.args.field c.args.start (list_of c.args.steps))
    (λ none. clear_past c.args.field c.args.gauge c.args.start (list_of c.args.steps) c.most_product.result none
    c.most_product.ensures.most (past c)) c.none_falls.ensures
