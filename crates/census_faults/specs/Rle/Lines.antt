-- The lines that report a fault.
use Rattle.std.specs.Prelude.{◌≡◌, ℕ, true, List, ◌++◌, codes}
use Rattle.std.specs.List.{list_all}
use Rattle.life_text.specs.declared.rle.RleFault.{RleFault}
use Rattle.life_text.specs.declared.rle.RleFault.TheVariants.{Memory}
use Rattle.life_text.specs.Faults.{fault_number, fault_place}
use Rattle.census_bundle.specs.Names.{is_name_byte}
use Rattle.census_faults.specs.Numbers.{numbered}

-- the number of a fault and its byte, counted from 0, where it names one
abbrev pub fault_name : RleFault → List ℕ
fault_name Memory = codes "out of memory"
fault_name fault = numbered (codes "rle") (fault_number fault) (fault_place fault)

-- this line is words without control characters (0 to 31, 127), and ` (NUMBER)`
pub record IsFaultLine (fault : RleFault) (line : List ℕ) : Type 0 where
  pub words : List ℕ
  pub shown : list_all is_name_byte words ≡ true
  pub is : line ≡ words ++ codes " (" ++ fault_name fault ++ codes ")"
