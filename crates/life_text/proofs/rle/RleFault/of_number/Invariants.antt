use Rattle.std.proofs.Common.{◌≡◌, ◌==◌, drop}
use Rattle.std.specs.List.{find}
use Rattle.life_text.specs.declared.rle.RleFault.{RleFault}
use Rattle.life_text.specs.Faults.{fault_number}
use Rattle.life_text.proofs.rle.RleFault.of_number.Given as goal

abbrev pub invariant-loop-fault : goal.invariant-loop-fault
invariant-loop-fault l =
    find (λ (fault : RleFault). fault_number fault == l.number) (drop l.fault-index l.fault-items) ≡ find (λ (fault : RleFault). fault_number fault == l.number) l.fault-items
