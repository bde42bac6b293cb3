use Rattle.life_cells.specs.declared.orient.Orient.TheVariants.{Same}
use Rattle.life_codes.proofs.Leasts.{orients, turned-more}
use Rattle.life_codes.proofs.least_text.add_shape.Goals as goal

pub loop-orient-preserved : goal.loop-orient-preserved
loop-orient-preserved c =
    turned-more c.args.shape.now _ orients Same c.loop-orient.orient-index _ _ c.in_ok-turned.field-0 c.in_ok-text.text.items
    c.loop-orient-test.true c.loop-orient.invariant c.in_ok-turned.ensures c.in_ok-text.ensures c.offer.ensures
