use Rattle.std.proofs.Common.{sym, ap, subst, ◌∙◌, arith}
use Rattle.life_growth.specs.Relations.Relations.{product}
use Rattle.life_things.specs.Lattice.Numbers.{number_limit}
use Rattle.life_things.specs.Lattice.Short.{IsWithin, cross_limit, way_limit}
use Rattle.life_things.proofs.LatticeLemmas.Within.{read_back, within_product_of, within_wider}
use Rattle.life_things.proofs.lattice.crossing.spanned.Goals as goal

pub product-requires : goal.product-requires
product-requires c = record {
  first = cross_limit;
  second = way_limit;
  one = c.cross.ensures.short;
  other = c.requires.first;
  fits = omega arith;
}

few : (c : goal.After-product) → IsWithin number_limit c.product.result
few c =
    subst (IsWithin number_limit) (sym c.product.ensures)
    (within_wider _ number_limit (product c.cross.result c.args.first) (omega arith)
    (within_product_of cross_limit way_limit c.cross.result c.args.first c.cross.ensures.short c.requires.first))

pub returns-clause-value : goal.returns-clause-value
returns-clause-value c =
    read_back number_limit c.product.result (omega arith) (few c) ∙ c.product.ensures
    ∙ ap (λ g. product g c.args.first) c.cross.ensures.value

pub returns-clause-few : goal.returns-clause-few
returns-clause-few c =
    subst (IsWithin number_limit) (sym (read_back number_limit c.product.result (omega arith) (few c))) (few c)
