use Rattle.std.proofs.Common.{◌≡◌, ◌++◌, ap, ◌∙◌, rules}
use Rattle.std.proofs.lemmas.List.Elements.{All-append, All-same}
use Rattle.life_model.specs.Generation.{from_list}
use Rattle.life_cells.specs.Limits.{IsPlace}
use Rattle.life_objects.specs.Union.{union}
use Rattle.life_classes.proofs.unions.union.Goals as goal
use Rattle.life_classes.proofs.unions.union.Goals.{After-put_in_order}

-- the items are those of both lists
both_lists : (c : After-put_in_order) →
    c.extend_from_slice.new.self.items ≡ c.as_slice.result.now ++ c.as_slice-2.result.now
both_lists c =
    c.in_ok-extend_from_slice.ensures.items ∙ ap (λ xs. xs ++ c.as_slice-2.result.now) (search rules)

pub from_ordered-requires-clause-placed : goal.from_ordered-requires-clause-placed
from_ordered-requires-clause-placed c =
    c.put_in_order.ensures.placed
    (All-same IsPlace _ _ (both_lists c)
    (All-append IsPlace c.as_slice.result.now c.as_slice-2.result.now c.as_slice.ensures.placed
    c.as_slice-2.ensures.placed))

pub returns : goal.returns
unfolding union
returns c =
    c.from_ordered.ensures ∙ c.put_in_order.ensures.same
    ∙ ap from_list (both_lists (goal.at.returns c).After-put_in_order)
    ∙ (λ i. from_list (c.as_slice.ensures.cells i ++ c.as_slice-2.ensures.cells i))
