-- The code found of a set determines which object it is.
use Rattle.std.proofs.Common.{◌≡◌, ◌↔◌, ℕ, ap, ◌∙◌}
use Rattle.life_answer.specs.Apgcode.{code_of}
use Rattle.life_answer.specs.Census.{part_code}
use Rattle.life_answer.proofs.AlikeCounts.{same_object}
use Rattle.life_answer.proofs.PartCodes as found
use Rattle.life_answer.proofs.PartCodes.{SettlesAtOnce, from_start, one_code}
use Rattle.life_model.specs.Generation.{Generation}
use Rattle.life_model.specs.Recurrence.{AreOneObject}
use Rattle.life_model.specs.Rule.{Rule}
use Rattle.life_model.proofs.Recurrences.{generation-zero}
use Rattle.life_objects.specs.Ash.{RecursWithin}

module _ (R : Rule) (b : ℕ) where
  pub at_once : (P : Generation) → RecursWithin R b P → SettlesAtOnce R b P
  at_once P again = from_start R P again.steps again.by again.recurs b again.within

  pub part_code-is : (P : Generation) (s : SettlesAtOnce R b P) → part_code R b P ≡ code_of R P s.period s.displacement
  part_code-is P s = found.part_code-is R b P s ∙ ap (λ G. code_of R G s.period s.displacement) (generation-zero R P)

  -- sets have one code exactly if they are one object
  pub part_codes_tell : (P Q : Generation) → RecursWithin R b P → RecursWithin R b Q →
      (part_code R b P ≡ part_code R b Q) ↔ AreOneObject R P Q
  part_codes_tell P Q again too = (
    same_object R b P Q again too,
    one_code R b P Q again.steps too.steps again.by too.by again.recurs too.recurs,
  )
