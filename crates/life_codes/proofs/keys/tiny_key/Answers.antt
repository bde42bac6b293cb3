use Rattle.std.proofs.Common.{refl, ap, ◌∙◌}
use Rattle.life_model.specs.Symmetry.{Same}
use Rattle.life_cells.specs.TextOrder.{least_text}
use Rattle.life_codes.proofs.LengthsLemmas.Bodies.{cells_inside, framed_cells}
use Rattle.life_codes.proofs.Keyed.{keys_below, texts_of_keys}
use Rattle.life_codes.proofs.keys.tiny_key.Goals as goal

pub keys_of-keys-requires-clause-inside : goal.keys_of-keys-requires-clause-inside
keys_of-keys-requires-clause-inside c =
    let cs = c.args.cells.now in
    cells_inside cs Same c.args.frame (framed_cells cs Same c.args.frame c.args.frame c.requires.some c.requires.frame refl)

pub least_key-requires-clause-below : goal.least_key-requires-clause-below
least_key-requires-clause-below c =
    let r = c.requires in
    keys_below c.args.cells.now c.args.frame r.some r.frame r.bounded r.tiny c.keys_of-keys.result _ _ c.width-wide.ensures c.height-high.ensures c.keys_of-keys.ensures

pub returns-then-are_plain-clause-text : goal.returns-then-are_plain-clause-text
returns-then-are_plain-clause-text c =
    let r = c.requires in
    ap least_text (texts_of_keys c.args.cells.now c.args.frame r.some r.frame r.bounded r.tiny c.keys_of-keys.result _ _ c.width-wide.ensures c.height-high.ensures c.keys_of-keys.ensures (c.are_plain.ensures c.if-are_plain.true))
    ∙ c.least_key.ensures.text
