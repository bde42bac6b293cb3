-- The line on standard error for each error, and the exit status.
use Rattle.std.specs.Prelude.{ℕ, List, [], ◌∷◌, ◌++◌, Some, None, codes, decimal}
use Rattle.life_text.specs.Faults.{rule_number}
use Rattle.life_cells.specs.declared.reader.CodeFault.{CodeFault}
use Rattle.life_cells.specs.declared.reader.CodeFault.TheVariants as code
use Rattle.census_bundle.specs.declared.fault.BundleFault.{BundleFault}
use Rattle.census_bundle.specs.declared.fault.BundleFault.TheVariants as bundle
use Rattle.census_bundle.specs.declared.bundle.AddFault.{AddFault}
use Rattle.census_bundle.specs.declared.bundle.AddFault.TheVariants as add
use Rattle.census_faults.specs.Numbers.{numbered}
use Rattle.census_faults.specs.Rle.Lines.{fault_name}
use Rattle.census_errors.specs.declared.advance_error.AdvanceError.{AdvanceError}
use Rattle.census_errors.specs.declared.advance_error.AdvanceError.TheVariants as advance
use Rattle.census_errors.specs.declared.draw_error.DrawError.{DrawError}
use Rattle.census_errors.specs.declared.draw_error.DrawError.TheVariants as draw
use Rattle.census_errors.specs.declared.run_error.RunError.{RunError}
use Rattle.census_errors.specs.declared.run_error.RunError.TheVariants as run
use Rattle.census_errors.specs.declared.error.CommandError.{CommandError}
use Rattle.census_errors.specs.declared.error.CommandError.TheVariants.{Run, Advance, Draw, Arguments, Memory, Write}

abbrev pub code_message : CodeFault → List ℕ
code_message code.Empty = numbered (codes "code") 1 None
code_message (code.BadChar at) = numbered (codes "code") 2 (Some at)
code_message (code.CutRun at) = numbered (codes "code") 3 (Some at)
code_message (code.TooFar at) = numbered (codes "code") 4 (Some at)
code_message code.Memory = codes "out of memory"

abbrev pub bundle_message : BundleFault → List ℕ
bundle_message (bundle.StrayText line) = codes "bundle fault 1 at line " ++ decimal line
bundle_message (bundle.FileBeforeFolder line) = codes "bundle fault 2 at line " ++ decimal line
bundle_message (bundle.BadAtLine line) = codes "bundle fault 3 at line " ++ decimal line
bundle_message (bundle.BadName line) = codes "bundle fault 4 at line " ++ decimal line
bundle_message (bundle.TooMany line) = codes "bundle fault 5 at line " ++ decimal line
bundle_message bundle.Memory = codes "out of memory"

abbrev pub folder_message : AddFault → List ℕ
folder_message add.BadName = numbered (codes "folder") 1 None
folder_message add.NoFolder = numbered (codes "folder") 2 None
folder_message add.TooMany = numbered (codes "folder") 3 None
folder_message add.Memory = codes "out of memory"

-- # Of errors

-- the words for an error, and the exit status: 1 where the input is refused, 2 for an argument that is not text, 3 where memory is
-- refused, and 4 where a stream, a folder or a file has failed
abbrev pub Told : Type 0
Told = List ℕ × ℕ

abbrev pub too_long : Told
too_long = (codes "input too long", 1)

abbrev pub no_memory : Told
no_memory = (codes "out of memory", 3)

abbrev pub unread : Told
unread = (codes "read failed", 4)

abbrev pub unwritten : Told
unwritten = (codes "write failed", 4)

abbrev pub run_told : RunError → Told
run_told (run.Bundle fault) = (bundle_message fault, 1)
run_told (run.Folder fault) = (folder_message fault, 1)
run_told run.TooLong = too_long
run_told (run.Memory ticket) = no_memory
run_told run.Read = unread
run_told run.Write = unwritten

abbrev pub advance_told : AdvanceError → Told
advance_told (advance.Text fault told spot) = (fault_name fault, 1)
advance_told (advance.TooManyCells most at) = (codes "more than " ++ decimal most ++ codes " cells at generation " ++ decimal at, 1)
advance_told advance.TooLong = too_long
advance_told advance.Memory = no_memory
advance_told (advance.Read why) = unread
advance_told advance.Write = unwritten

abbrev pub draw_told : DrawError → Told
draw_told (draw.Rule fault) = (numbered (codes "rule") (rule_number fault) None, 1)
draw_told (draw.Code fault) = (code_message fault, 1)
draw_told draw.Memory = no_memory
draw_told draw.Write = unwritten

abbrev pub error_told : CommandError → Told
error_told (Run error) = run_told error
error_told (Advance error) = advance_told error
error_told (Draw error) = draw_told error
error_told Arguments = (codes "bad command line", 2)
error_told Memory = no_memory
error_told Write = unwritten

-- the line on standard error: `census: `, those words, and a line feed
abbrev pub error_line : CommandError → List ℕ
error_line error = codes "census: " ++ (error_told error).0 ++ 10 ∷ []

abbrev pub status_of : CommandError → ℕ
status_of error = (error_told error).1

-- of a census
abbrev pub run_status : RunError → ℕ
run_status error = status_of (Run error)
