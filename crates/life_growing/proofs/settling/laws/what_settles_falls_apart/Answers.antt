use Rattle.life_growing.proofs.SettlingLemmas.Parting.{parts_are_alike, parts_by_then}
use Rattle.life_objects.specs.Union.{generations}
use Rattle.std.proofs.Common.{◌-◌, length}
use Rattle.life_apart.specs.Sets.{sets_of}
use Rattle.life_growing.proofs.settling.laws.what_settles_falls_apart.Goals as goal

pub returns : goal.returns
returns c = record {
  parts = λ R b P s settles. parts_by_then R b P s settles;
  apart = λ R b P s settles. (generations R (sets_of s.parts) (b - length s.early), parts_by_then R b P s settles);
  kinds = λ R b d P s others settles fallen. parts_are_alike R b P s settles d others fallen;
}
