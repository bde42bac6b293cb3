use Rattle.life_growth.proofs.Velocities.{emitted_moves_otherwise, guns_emit_spaceships}
use Rattle.life_growth.proofs.nothing_emitted_moves_with_the_engine.Goals as goal

pub returns : goal.returns
returns c = record {
  velocity = λ R b d n q E P way e parts engine h fallen one again.
      emitted_moves_otherwise R b d n E way engine h parts fallen P one q e again;
  gun = λ R b d n q E P way e parts engine h fallen one again.
      guns_emit_spaceships R b d n E way engine h parts fallen P one q e again;
}
