-- The first of several faults that a part of a text may have.
use Rattle.std.specs.Prelude.{Bool, true, false, Option, Some}

-- this fault if the test holds, and otherwise that of the others
abbrev pub fault_if : {F : Type 0} → Bool → F → Option F → Option F
fault_if true fault others = Some fault
fault_if false fault others = others
