use Rattle.life_growth.proofs.Settling.{settles_empty, settles_next, settles_together}
use Rattle.life_growth.proofs.what_falls_apart_does_so_together.Goals as goal

pub returns : goal.returns
returns c = record { together = settles_together; next = settles_next; nothing = settles_empty }
