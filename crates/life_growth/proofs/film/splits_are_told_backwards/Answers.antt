use Rattle.life_growth.proofs.FilmLemmas.Splits.{split_before, split_next}
use Rattle.life_growth.proofs.film.splits_are_told_backwards.Goals as goal

pub returns : goal.returns
returns c R b G A B = (split_next R b G A B, split_before R b G A B)
