use Rattle.std.proofs.Common.{arith, rules}
use Rattle.census_bundle.proofs.Growth.{lawful-pushed}
use Rattle.census_bundle.proofs.bundle.Bundle.add_folder.Goals as goal

pub invariant_of-self-2 : goal.invariant_of-self-2
invariant_of-self-2 c = rw c.in_ok-push.ensures.items (lawful-pushed _ _ c.args.name.now c.in_ok-folder.ensures (omega arith) (search rules) c.self.invariant)
