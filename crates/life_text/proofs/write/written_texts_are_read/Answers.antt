use Rattle.life_text.proofs.RoundLemmas.{round_trip}
use Rattle.life_text.proofs.write.written_texts_are_read.Goals as goal

pub returns : goal.returns
returns c = round_trip
