use Rattle.std.proofs.Common.{◌*◌}
use Rattle.life_objects.specs.Drift.{multiple_of}
use Rattle.life_objects.proofs.Phases.{phase_is_one}
use Rattle.life_parts.proofs.PartsLemmas.Ashes.{told_alike}
use Rattle.life_parts.proofs.PartsLemmas.Lists.{part_recurs}
use Rattle.life_parts.proofs.phases_of_parts_are_of_one_kind.Goals as goal

pub returns : goal.returns
returns c = record {
  phase = λ R P Q Qs p n d r are one.
      let again = part_recurs R P Qs are p d r Q one in
      (record { steps = again.0 * p; by = multiple_of again.0 d; recurs = again.3 }, phase_is_one R Q n);
  ash = told_alike;
}
