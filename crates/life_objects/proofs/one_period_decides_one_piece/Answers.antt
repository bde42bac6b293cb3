use Rattle.life_objects.proofs.Moving.{one_piece_by_period}
use Rattle.life_objects.proofs.one_period_decides_one_piece.Goals as goal

pub returns : goal.returns
returns c R b n P d r whole = one_piece_by_period R P n d r b whole
