-- Why the words of a command line are not a request.
use Rattle.std.specs.Prelude.{◌≡◌, ◌≢◌, ◌⊎◌, ◌&&◌, ◌||◌, ℕ, Bool, List, [], ◌∷◌, Some, None, IsSomeAnd, false, true, ◌++◌, codes, string_bytes}
use Rattle.std.specs.Prelude.{option_and_then, option_map}
use Rattle.std.specs.Str.{bytes_eq}
use Rattle.clap.specs.Faults.{fault_of}
use Rattle.clap.specs.Kinds.{IsAmong}
use Rattle.clap.specs.Simple.{subcommand_of}
use Rattle.clap.specs.Walk.{Row, first_of}
use Rattle.clap.specs.declared.error.kind.ErrorKind.{ErrorKind}
use Rattle.clap.specs.declared.error.kind.ErrorKind.TheVariants.{DisplayHelp, DisplayVersion, OutOfMemory}
use Rattle.census_facts.specs.declared.version.TheConstants.{VERSION}
use Rattle.census_cli.specs.Asking.{IsMatched, format_asked, is_address, order_of, subject_asked, starts_asked}
use Rattle.census_cli.specs.CommandLine.{census_app}
use Rattle.census_cli.specs.declared.fault.WordsFault.{WordsFault}
use Rattle.census_cli.specs.declared.fault.WordsFault.TheVariants.{Help, Refused, Memory}

-- the text of the version: the program's, and the logic of the kit that proves it
abbrev pub version_text : List ℕ
version_text = VERSION.now ++ codes "\nrattle logic dac8208d650f15bf\n"

-- how an error of clap is reported, by its kind: for the version exactly its text is written
abbrev pub TellsKind : ErrorKind → WordsFault → Type 0
TellsKind kind (Help text) = (kind ≡ DisplayHelp) ⊎ ((kind ≡ DisplayVersion) × (string_bytes text ≡ version_text))
TellsKind kind (Refused text) = (kind ≢ DisplayHelp) × (kind ≢ DisplayVersion) × (kind ≢ OutOfMemory)
TellsKind kind Memory = Unit {0}

-- clap fails on the words with an error of this kind, and has no matches for them
abbrev pub FailsWith : ErrorKind → List (List ℕ) → Type 0
FailsWith kind words = IsAmong kind (fault_of census_app words)

-- the words are `help report` or `help bundle`, of which clap knows nothing
abbrev pub is_topic : List (List ℕ) → Bool
is_topic (first ∷ topic ∷ []) = bytes_eq first (codes "help") && (bytes_eq topic (codes "report") || bytes_eq topic (codes "bundle"))
is_topic _ = false

-- it answers them with help or with the version, which are such errors, or they name a topic
abbrev pub AsksHelp : List (List ℕ) → Type 0
AsksHelp words = FailsWith DisplayHelp words ⊎ (FailsWith DisplayVersion words ⊎ (is_topic words ≡ true))

-- the words are answered with this text: for help some text of clap's or of a topic, and for the version exactly its own
abbrev pub AsksText : List (List ℕ) → List ℕ → Type 0
AsksText words text =
    FailsWith DisplayHelp words ⊎ ((FailsWith DisplayVersion words × (text ≡ version_text)) ⊎ (is_topic words ≡ true))

-- A command and its matches, which clap accepts, are those of a table in two formats or of no subject, or of a page
-- in an order that does not exist or with a base that is not an address, or of `same` with flags that do not fit each other.
abbrev pub IsStrange : List ℕ → List Row → Type 0
IsStrange name rows =
    ((name ≡ codes "table") × ((format_asked rows ≡ None) ⊎ (subject_asked rows ≡ None)))
    ⊎ (((name ≡ codes "page") × ((option_and_then order_of (first_of (codes "sort") rows) ≡ None)
    ⊎ (option_map is_address (first_of (codes "base") rows) ≡ Some false)))
    ⊎ ((name ≡ codes "same") × (starts_asked rows ≡ None)))

-- clap refuses the words, and not because memory ran out, or it accepts such a command
abbrev pub AreRefusedWords : List (List ℕ) → Type 0
AreRefusedWords words =
    ((kind : ErrorKind) × FailsWith kind words × (kind ≢ DisplayHelp) × (kind ≢ DisplayVersion) × (kind ≢ OutOfMemory))
    ⊎ (IsMatched words × IsSomeAnd (subcommand_of census_app words) (λ c. IsStrange c.0 c.1))

-- why the words are not a request
abbrev pub RefusesWords : List (List ℕ) → WordsFault → Type 0
RefusesWords words (Help text) = AsksText words (string_bytes text)
RefusesWords words (Refused text) = AreRefusedWords words
RefusesWords words Memory = Unit {0}
