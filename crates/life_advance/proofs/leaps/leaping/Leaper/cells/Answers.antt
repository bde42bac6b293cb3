-- The cells of the square that has all, in order.
use Rattle.std.proofs.Common.{◌||◌, ◌∙◌}
use Rattle.std.specs.List.{list_any}
use Rattle.life_model.specs.Cell.{same_cell}
use Rattle.life_advance.specs.Leaps.Stores.{view}
use Rattle.life_advance.specs.Leaps.Sites.{corner}
use Rattle.life_advance.specs.Leaps.Cells.{cells_of}
use Rattle.life_advance.proofs.LeapsLemmas.Begun.{listed_all, listed_places}
use Rattle.life_advance.proofs.leaps.leaping.Leaper.cells.Goals as goal

pub from_ordered-requires-clause-placed : goal.from_ordered-requires-clause-placed
from_ordered-requires-clause-placed c =
    c.put_in_order.ensures.placed
    (listed_places c.args.self.now c.requires c.push_cells.new.cells.items
    (listed_all c.args.self.now c.root-site.result.level (corner c.root-site.result) c.push_cells.new.cells.items c.root-site.ensures.level c.root-site.ensures.corner
    (λ q. c.in_ok-push_cells.ensures q
    ∙ (λ i. list_any (same_cell q) (c.new-cells.ensures.items i) || list_any (same_cell q) (cells_of (view c.args.self.now.store) c.root-site.result.level c.args.self.now.root (corner c.root-site.result))))))

pub returns : goal.returns
returns c =
    c.from_ordered.ensures ∙ c.put_in_order.ensures.same
    ∙ listed_all c.args.self.now c.root-site.result.level (corner c.root-site.result) c.push_cells.new.cells.items c.root-site.ensures.level c.root-site.ensures.corner
    (λ q. c.in_ok-push_cells.ensures q
    ∙ (λ i. list_any (same_cell q) (c.new-cells.ensures.items i) || list_any (same_cell q) (cells_of (view c.args.self.now.store) c.root-site.result.level c.args.self.now.root (corner c.root-site.result))))
