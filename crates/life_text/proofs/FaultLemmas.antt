-- The numbers of faults.
use Rattle.std.proofs.Common.{◌≤◌, arith}
use Rattle.life_cells.specs.declared.rule.RuleFault.{RuleFault}
use Rattle.life_cells.specs.declared.rule.RuleFault.TheVariants.{NotLifeLike, HasB0}
use Rattle.life_text.specs.declared.rle.RleFault.{RleFault}
use Rattle.life_text.specs.declared.rle.RleFault.TheVariants.{NoHeader, BadHeader, Rule, ManyStates, BadChar, BadRun, TooFar, TooMany, NoEnd, Memory}
use Rattle.life_text.specs.Faults.{fault_number}

-- a fault of a header's rule has one of the numbers in reports
pub header_rule-numbered : (fault : RuleFault) → (1 ≤ fault_number (Rule fault)) × (fault_number (Rule fault) ≤ 10)
header_rule-numbered NotLifeLike = (omega arith, omega arith)
header_rule-numbered HasB0 = (omega arith, omega arith)

-- no fault has a greater number
pub fault_number-most : (fault : RleFault) → fault_number fault ≤ 11
fault_number-most NoHeader = omega arith
fault_number-most BadHeader = omega arith
fault_number-most (Rule fault) = let few = header_rule-numbered fault in omega arith
fault_number-most (ManyStates at) = omega arith
fault_number-most (BadChar at) = omega arith
fault_number-most (BadRun at) = omega arith
fault_number-most (TooFar at) = omega arith
fault_number-most (TooMany at) = omega arith
fault_number-most NoEnd = omega arith
fault_number-most Memory = omega arith
