use Rattle.std.proofs.Common.{◌≡◌, map, take}
use Rattle.life_model.specs.Box.{extent}
use Rattle.life_text.specs.Writer.{places_from}
use Rattle.life_text.proofs.write.size.Given as goal

-- the bounding box of the cells so far
abbrev pub invariant-loop-cell : goal.invariant-loop-cell
invariant-loop-cell l = record {
  wide : l.width ≡ extent (map (λ p. p.0) (places_from l.corner (take l.cell-index l.cells)));
  high : l.height ≡ extent (map (λ p. p.1) (places_from l.corner (take l.cell-index l.cells)));
}
