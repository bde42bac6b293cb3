use Rattle.std.proofs.Common.{length, ap, arith, rules}
use Rattle.census_bundle.specs.Growing.{last_entries}
use Rattle.census_bundle.proofs.Growth.{lawful-entered}
use Rattle.census_bundle.proofs.bundle.Bundle.add.Goals as goal

pub invariant_of-self-2 : goal.invariant_of-self-2
invariant_of-self-2 c =
    lawful-entered _ _ _ c.args.name.now c.args.text.now c.args.is_lost c.in_ok-entry.ensures c.in_ok-push_to_last.ensures.added (omega (arith, c.last_len.ensures, ap (λ b. length (last_entries b)) c.deref.ensures.value)) (search rules) c.self.invariant
