use mir.Syntax.{w128}
use mir.Val.{of_z, to_z}
use Rattle.std.proofs.Common.{◌≡◌, ◌*◌, ◌≤◌, ◌^◌, ℤ, pos, ◌+ℤ◌, ◌≤ℤ◌, ap, sym, subst, ◌∙◌, arith}
use Rattle.std.proofs.Math.IntN.{◌*ℤ◌}
use Rattle.life_growth.specs.Meeting.Sums.{Step, times}
use Rattle.life_growth.specs.Relations.Relations.{product}
use Rattle.life_growth.proofs.RelationsLemmas.Products.{product-then, product-times}
use Rattle.life_things.specs.Lattice.Short.{AreShort, IsWithin}
use Rattle.life_things.proofs.LatticeLemmas.Within.{read_back, within_product_of, within_wider}
use Rattle.life_things.proofs.field.span_by.Goals as goal

product_small : (u v : Step) → AreShort u v → IsWithin (2 ^ 124) (product u v)
product_small u v short =
    let few : short.first * short.second ≤ 2 ^ 122 = short.fits in
    within_wider _ (2 ^ 124) (product u v) (omega arith) (within_product_of short.first short.second u v short.one short.other)

-- a number that the machine has for a product
read : (u v : Step) (r : ℤ) → AreShort u v → r ≡ product u v → to_z w128 (of_z w128 r) ≡ product u v
read u v r short e =
    ap (λ z. to_z w128 (of_z w128 z)) e ∙ read_back (2 ^ 124) (product u v) (omega arith) (product_small u v short)

read_small : (u v : Step) (r : ℤ) → AreShort u v → r ≡ product u v → IsWithin (2 ^ 124) (to_z w128 (of_z w128 r))
read_small u v r short e = subst (IsWithin (2 ^ 124)) (sym (read u v r short e)) (product_small u v short)

end_small : (r : ℤ) → IsWithin (2 ^ 63) r → IsWithin (2 ^ 124) (to_z w128 (of_z w128 r))
end_small r h =
    subst (IsWithin (2 ^ 124)) (sym (read_back (2 ^ 63) r (omega arith) h)) (within_wider (2 ^ 63) (2 ^ 124) r (omega arith) h)

pub span_to-requires-clause-gain_fits : goal.span_to-requires-clause-gain_fits
span_to-requires-clause-gain_fits c =
    read_small c.args.gauge c.args.step c.product-gain.result c.requires.step c.product-gain.ensures

pub span_to-requires-clause-start : goal.span_to-requires-clause-start
span_to-requires-clause-start c =
    read_small c.args.gauge c.args.start c.product.result c.requires.start c.product.ensures

pub span_to-requires-clause-low : goal.span_to-requires-clause-low
span_to-requires-clause-low c = end_small c.least_product-low.result c.least_product-low.ensures.within

pub span_to-requires-clause-high : goal.span_to-requires-clause-high
span_to-requires-clause-high c = end_small c.most_product-high.result c.most_product-high.ensures.within

pub returns-clause-some : goal.returns-clause-some
returns-clause-some c n d inside same =
    let start = read c.args.gauge c.args.start c.product.result c.requires.start c.product.ensures in
    let gain = read c.args.gauge c.args.step c.product-gain.result c.requires.step c.product-gain.ensures in
    let low = read_back (2 ^ 63) c.least_product-low.result (omega arith) c.least_product-low.ensures.within in
    let high = read_back (2 ^ 63) c.most_product-high.result (omega arith) c.most_product-high.ensures.within in
    let there : product c.args.gauge (pos 0, d) ≡
    (to_z w128 (of_z w128 c.product.result) +ℤ (pos n *ℤ to_z w128 (of_z w128 c.product-gain.result))) =
    same ∙ product-then c.args.gauge c.args.start (times n c.args.step)
    ∙ ap (λ z. product c.args.gauge c.args.start +ℤ z) (product-times c.args.gauge c.args.step n)
    ∙ (λ i. sym start i +ℤ (pos n *ℤ sym gain i)) in
    c.span_to.ensures.within n
    (subst (λ z. to_z w128 (of_z w128 c.least_product-low.result) ≤ℤ z) there
    (subst (λ z. z ≤ℤ product c.args.gauge (pos 0, d)) (sym low) (c.least_product-low.ensures.least d inside)))
    (subst (λ z. z ≤ℤ to_z w128 (of_z w128 c.most_product-high.result)) there
    (subst (λ z. product c.args.gauge (pos 0, d) ≤ℤ z) (sym high) (c.most_product-high.ensures.most d inside)))

pub returns-clause-few : goal.returns-clause-few
returns-clause-few c m h =
    c.span_to.ensures.few m (2 ^ 63)
    (subst (IsWithin m) (sym (read c.args.gauge c.args.start c.product.result c.requires.start c.product.ensures)) h)
    (subst (IsWithin (2 ^ 63)) (sym (read_back (2 ^ 63) c.least_product-low.result (omega arith) c.least_product-low.ensures.within))
    c.least_product-low.ensures.within)
    (subst (IsWithin (2 ^ 63)) (sym (read_back (2 ^ 63) c.most_product-high.result (omega arith) c.most_product-high.ensures.within))
    c.most_product-high.ensures.within)
