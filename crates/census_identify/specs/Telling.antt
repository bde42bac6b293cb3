-- Reports on contents: blocks, lines and statuses.
use Rattle.std.specs.Prelude.{◌≡◌, ℕ, Bool, true, false, if◌then◌else◌, List, [], ◌∷◌, ◌++◌, codes, max, Option, Some, None, Result, Ok, Err}
use Rattle.std.specs.List.{All}
use Rattle.life_text.specs.declared.rle.RleFault.{RleFault}
use Rattle.census_faults.specs.Rle.Lines.{IsFaultLine}
use Rattle.census_identify.specs.Blocks.Blocks.{block_of}
use Rattle.census_identify.specs.declared.blocks.inquiry.Inquiry.{Inquiry}
use Rattle.census_facts.specs.Names.{Entry}
use Rattle.census_facts.specs.Forms.{separator}
use Rattle.census_facts.specs.declared.form.Form.{Form}
use Rattle.census_folders.specs.Hearing.{is_input}
use Rattle.census_folders.specs.declared.heard.Heard.{Heard}
use Rattle.census_folders.specs.declared.heard.Heard.TheVariants.{Text, TooLong, Unread}
use Rattle.census_identify.specs.Hearing.{Hearing}
use Rattle.census_identify.specs.declared.told.Told.{Told}
use Rattle.census_identify.specs.declared.told.Told.TheVariants.{Block, Line}

-- # One

-- `census: WORD:`, the message, and LF
abbrev pub message_line : List ℕ → List ℕ → List ℕ
message_line word message = codes "census: " ++ word ++ codes ":" ++ message ++ codes "\n"

-- the file that an argument names; none where it means standard input
abbrev pub file_of : List ℕ → Option (List ℕ)
file_of word = if is_input word then None else Some word

-- the report on a text, by its block or its fault: the block, or a line that ends with the name of the fault, with status 1
abbrev pub IsToldOfText : List ℕ → Result (List ℕ) RleFault → Told → Type 0
IsToldOfText word (Ok block) told = told ≡ Block block
IsToldOfText word (Err fault) told = (line : List ℕ) × IsFaultLine fault line × (told ≡ Line (message_line word line) 1)

-- the message about a text that can't be read: the system's, or `read failed` where the system gives none
abbrev pub unread_message : Option (List ℕ) → List ℕ
unread_message None = codes " read failed"
unread_message (Some reason) = codes " " ++ reason

-- this is the report on an argument, by the content that was read
abbrev pub IsTold : Inquiry → List Entry → List ℕ → Heard → Told → Type 0
IsTold inquiry names word (Text text) told = IsToldOfText word (block_of inquiry names (file_of word) text) told
IsTold inquiry names word TooLong told = told ≡ Line (message_line word (codes " input too long")) 1
IsTold inquiry names word (Unread reason) told = told ≡ Line (message_line word (unread_message reason)) 4

-- # All

-- each is reported by the content that was read
abbrev pub AreTold : Inquiry → List Entry → List Hearing → Type 0
AreTold inquiry names hearings = All (λ h. IsTold inquiry names h.word h.heard h.told) hearings

abbrev pub blocks_in : List Told → List (List ℕ)
blocks_in [] = []
blocks_in (Block block ∷ told) = block ∷ blocks_in told
blocks_in (Line line status ∷ told) = blocks_in told

-- texts, with these bytes between each and the next
abbrev pub parted : List ℕ → List (List ℕ) → List ℕ
parted between [] = []
parted between (text ∷ []) = text
parted between (text ∷ next ∷ texts) = text ++ between ++ parted between (next ∷ texts)

-- the output: the blocks, separated as their form requires
abbrev pub blocks_text : Form → List Told → List ℕ
blocks_text form told = parted (separator form) (blocks_in told)

-- the text on standard error: the lines
abbrev pub lines_text : List Told → List ℕ
lines_text [] = []
lines_text (Block block ∷ told) = lines_text told
lines_text (Line line status ∷ told) = line ++ lines_text told

-- the greatest status of a line, or 0 where there are only blocks
abbrev pub status_of : List Told → ℕ
status_of [] = 0
status_of (Block block ∷ told) = status_of told
status_of (Line line status ∷ told) = max status (status_of told)

-- # One more

-- a block, with a separator before it where there are others
abbrev pub block_after : Form → Bool → List ℕ → List ℕ
block_after form true block = separator form ++ block
block_after form false block = block

-- the output for one more report, after others
abbrev pub output_of : Form → Bool → Told → List ℕ
output_of form has_block (Block block) = block_after form has_block block
output_of form has_block (Line line status) = []

-- the text on standard error for one more report
abbrev pub line_told : Told → List ℕ
line_told (Block block) = []
line_told (Line line status) = line
