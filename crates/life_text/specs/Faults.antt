-- The numbers of faults, and the bytes that they name.
use Rattle.std.specs.Prelude.{ℕ, List, [], ◌∷◌, Option, Some, None, ◌==◌}
use Rattle.std.specs.List.{find}
use Rattle.life_cells.specs.declared.rule.RuleFault.{RuleFault}
use Rattle.life_cells.specs.declared.rule.RuleFault.TheVariants.{NotLifeLike, HasB0}
use Rattle.life_text.specs.declared.rle.RleFault.{RleFault}
use Rattle.life_text.specs.declared.rle.RleFault.TheVariants.{NoHeader, BadHeader, Rule, ManyStates, BadChar, BadRun, TooFar, TooMany, NoEnd, Memory}

-- the number of a fault of a rule text by itself
abbrev pub rule_number : RuleFault → ℕ
rule_number NotLifeLike = 1
rule_number HasB0 = 2

-- the number of a fault of an RLE text, in reports and in the program's lines
abbrev pub fault_number : RleFault → ℕ
fault_number NoHeader = 1
fault_number BadHeader = 2
fault_number (Rule NotLifeLike) = 3
fault_number (Rule HasB0) = 4
fault_number (ManyStates at) = 5
fault_number (BadChar at) = 6
fault_number (BadRun at) = 7
fault_number (TooFar at) = 8
fault_number (TooMany at) = 9
fault_number NoEnd = 10
fault_number Memory = 11

-- the byte that a fault names
abbrev pub fault_place : RleFault → Option ℕ
fault_place NoHeader = None
fault_place BadHeader = None
fault_place (Rule fault) = None
fault_place (ManyStates at) = Some at
fault_place (BadChar at) = Some at
fault_place (BadRun at) = Some at
fault_place (TooFar at) = Some at
fault_place (TooMany at) = Some at
fault_place NoEnd = None
fault_place Memory = None

-- the fault without its byte
abbrev pub without_place : RleFault → RleFault
without_place NoHeader = NoHeader
without_place BadHeader = BadHeader
without_place (Rule fault) = Rule fault
without_place (ManyStates at) = ManyStates 0
without_place (BadChar at) = BadChar 0
without_place (BadRun at) = BadRun 0
without_place (TooFar at) = TooFar 0
without_place (TooMany at) = TooMany 0
without_place NoEnd = NoEnd
without_place Memory = Memory

-- each fault that a text can have, without its byte
abbrev pub text_faults : List RleFault
text_faults = NoHeader ∷ BadHeader ∷ Rule NotLifeLike ∷ Rule HasB0 ∷ ManyStates 0 ∷ BadChar 0 ∷ BadRun 0 ∷ TooFar 0 ∷ TooMany 0 ∷ NoEnd ∷ []

-- the fault that has a number, without its byte
abbrev pub fault_of_number : ℕ → Option RleFault
fault_of_number number = find (λ fault. fault_number fault == number) text_faults
