use Rattle.std.proofs.Common.{◌≡◌, flat_map, take}
use Rattle.life_model.specs.Generation.{cells}
use Rattle.life_apart.specs.Onsets.Pasts.{pasts}
use Rattle.life_apart.proofs.onsets.together.cells_ago.Given as goal

abbrev pub invariant-loop-part : goal.invariant-loop-part
invariant-loop-part l = l.all.items ≡ flat_map cells (pasts l.ago (take l.part-index l.parts))
