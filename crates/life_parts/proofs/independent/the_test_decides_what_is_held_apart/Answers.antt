use Rattle.life_parts.proofs.IndependentLemmas.Passing.{test_by_held}
use Rattle.life_parts.proofs.IndependentLemmas.Telling.{held_by_test}
use Rattle.life_parts.proofs.independent.the_test_decides_what_is_held_apart.Goals as goal

pub returns : goal.returns
returns c R G Hs together once = (
  held_by_test R G Hs (record { together = together; once = once }),
  test_by_held R G Hs (record { together = together; once = once }),
)
