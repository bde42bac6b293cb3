-- The line and the exit status of each error.
use Rattle.std.specs.Prelude.{ℕ, List, codes}
use Rattle.census_identify.specs.declared.error.IdentifyError.{IdentifyError}
use Rattle.census_identify.specs.declared.error.IdentifyError.TheVariants.{Memory, Write}

abbrev pub error_line : IdentifyError → List ℕ
error_line Memory = codes "census: out of memory\n"
error_line Write = codes "census: write failed\n"

abbrev pub error_status : IdentifyError → ℕ
error_status Memory = 3
error_status Write = 4
