use Rattle.life_growth.proofs.FatesLemmas.Tracks.{no_track, track_emits, track_goes}
use Rattle.life_growth.proofs.fates.tracks_are_right.Goals as goal

pub returns : goal.returns
returns c = record {
  engine = track_goes;
  emits = track_emits;
  none = λ R b E way none engine. no_track R b E none (way, engine);
}
