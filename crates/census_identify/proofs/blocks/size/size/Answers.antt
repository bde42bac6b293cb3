use Rattle.std.proofs.Common.{ℕ, ap, ap₂, ◌∙◌, arith}
use Rattle.life_model.specs.Box.{height, width}
use Rattle.life_cells.proofs.Boxes.{height_at_age, width_at_age}
use Rattle.census_identify.proofs.BlocksLemmas.Sizes.{height_of_normal, width_of_normal}
use Rattle.census_identify.proofs.blocks.size.size.Goals as goal

pub of-requires-clause-wide : goal.of-requires-clause-wide
of-requires-clause-wide c =
    let wide = width_at_age c.args.list.now 0 c.requires in
    omega arith

pub of-requires-clause-high : goal.of-requires-clause-high
of-requires-clause-high c =
    let high = height_at_age c.args.list.now 0 c.requires in
    omega arith

pub returns : goal.returns
returns c =
    ap₂ (λ (w h : ℕ). (w, h)) (c.width.ensures ∙ ap width c.in_ok-shape.ensures.shape ∙ width_of_normal c.args.list.now)
    (c.height.ensures ∙ ap height c.in_ok-shape.ensures.shape ∙ height_of_normal c.args.list.now)
