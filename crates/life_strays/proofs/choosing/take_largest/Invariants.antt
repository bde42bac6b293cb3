use Rattle.std.specs.List.{All}
use Rattle.life_model.specs.Generation.{Generation}
use Rattle.life_model.specs.Rule.{Rule}
use Rattle.life_strays.specs.Strays.{IsIslandNow}
use Rattle.life_strays.proofs.choosing.take_largest.Given as goal

abbrev pub invariant-loop : goal.invariant-loop
invariant-loop l = record {
  left : (R : Rule) (G : Generation) → All (IsIslandNow R G) l.fn.islands.items → All (IsIslandNow R G) l.islands.items;
  some : (R : Rule) (G : Generation) → All (IsIslandNow R G) l.fn.islands.items →
      All (IsIslandNow R G) l.fn.some.items → All (IsIslandNow R G) l.some.items;
}
