use Rattle.life_growth.proofs.FilmLemmas.Joined.{are_classes}
use Rattle.life_growth.proofs.film.classes_are_told_backwards.Goals as goal

pub returns : goal.returns
returns c R b G pieces Qs Ps near later joined = are_classes R b G pieces Qs Ps near later joined
