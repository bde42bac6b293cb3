use Rattle.std.proofs.Common.{◌≡◌, sym, ap, subst, ◌∙◌}
use Rattle.life_model.specs.Generation.{from_list}
use Rattle.life_model.proofs.Cells.{pair}
use Rattle.life_model.proofs.Generations.{from_list-cells}
use Rattle.life_census.specs.Counted.{CountsAs}
use Rattle.life_census.proofs.known_set.KnownSet.of.Goals as goal

pub invariant_of-result : goal.invariant_of-result
invariant_of-result c =
    let o = c.args.orbit.now in
    let set : c.from_ordered.result ≡ o.set =
    c.from_ordered.ensures
    ∙ ap from_list (c.in_ok-to_vec.ensures.items_if_clones_equal (λ x y e. pair e.0 e.1) ∙ c.as_slice.ensures.cells)
    ∙ from_list-cells c.set.result.now ∙ c.set.ensures in
    record {
      right =
          subst (λ R. CountsAs c.args.near R c.from_ordered.result c.args.codes.items) (sym c.rule.ensures)
          (subst (λ G. CountsAs c.args.near o.rule G c.args.codes.items) (sym set) c.requires);
    }
