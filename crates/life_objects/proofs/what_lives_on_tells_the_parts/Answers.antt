use Rattle.life_objects.proofs.Cores.{core_of, part_around}
use Rattle.life_objects.proofs.what_lives_on_tells_the_parts.Goals as goal

pub returns : goal.returns
returns c = record {
  of_parts = λ R b G P parts Ls ash whole stay pairs one. core_of R b G parts Ls ash whole stay pairs P one;
  of_sets = λ R b G L parts Ls ash whole stay pairs one lives.
      part_around R b G parts Ls ash whole stay pairs L one lives;
}
