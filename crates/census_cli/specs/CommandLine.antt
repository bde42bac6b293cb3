-- The command line of `census`, as clap reads it.
use Prim.Native.String.{String}
use Rattle.std.specs.Prelude.{ℕ, List, [], ◌∷◌, Some, true, false, codes, fold, unwrap_or}
use Rattle.std.specs.List.{find}
use Rattle.std.specs.Str.{bytes_eq}
use Rattle.clap.specs.Lexer.{usize_max}
use Rattle.clap.specs.Walk.{Rule}
use Rattle.clap.specs.Simple.{App, Shape, new_rule, new_shape, with_rule}
use Rattle.clap.specs.declared.builder.action.ArgAction.TheVariants.{SetTrue}
use Rattle.clap.specs.declared.builder.value_parser.ValueParser.TheVariants.{Unsigned}

-- `ID`, an argument by its place
abbrev pub word : String → Rule
word id = record (new_rule (codes id)) { value_names = 1 }

-- `ID..`, any number of them
abbrev pub several : String → Rule
several id = record (word id) { range = Some (record { start_inclusive = 1; end_inclusive = usize_max }) }

-- `--ID`
abbrev pub flag : String → Rule
flag id = record (new_rule (codes id)) { long = Some (codes id); action = Some SetTrue }

-- `--ID VALUE`
abbrev pub option : String → Rule
option id = record (word id) { long = Some (codes id) }

-- `--ID N`, from 1 to `most`
abbrev pub number : String → ℕ → Rule
number id most = record (option id) { parser = Some (Unsigned 1 most) }

-- the first argument of `objects` and of `identify`, `-b N` or `--bound N`
abbrev pub search_rule : Rule
search_rule = record (number "bound" 100000) { short = Some 98; defaults = codes "10000" ∷ [] }

-- their arguments of what an object is, before these
abbrev pub with_objects : List Rule → List Rule
with_objects later =
    record (number "cells" 4294967295) { defaults = codes "200000" ∷ [] }
    ∷ flag "near" ∷ record (number "horizon" 10000) { defaults = codes "1000" ∷ [] } ∷ later

-- `-w N` or `--workers N`, of `run` and of `objects`
abbrev pub workers_rule : Rule
workers_rule = record (number "workers" 16) { short = Some 119; defaults = codes "4" ∷ [] }

-- their last arguments: `--input N`, `-r` or `--recursive`, `-k` or `--keep-going` and more
abbrev pub census_rules : List Rule
census_rules =
    number "input" 9223372036854775807 ∷ record (flag "recursive") { short = Some 114 }
    ∷ record (flag "keep-going") { short = Some 107 } ∷ flag "explain" ∷ flag "no-progress" ∷ several "folder" ∷ []

-- the last arguments of the commands that read reports
abbrev pub reading_rules : List Rule
reading_rules = flag "cut" ∷ number "input" 9223372036854775807 ∷ flag "explain" ∷ several "report" ∷ []

-- a command of this name with these arguments, in order
abbrev pub command : String → List Rule → Shape
command name rules = record (new_shape (codes name)) { rules = rules }

-- the commands of `census`
abbrev pub commands : List Shape
commands =
    command "run" (record (number "bound" 1000000) { short = Some 98; defaults = codes "1000" ∷ [] }
    ∷ workers_rule ∷ number "cells" 4294967295 ∷ census_rules)
    ∷ command "objects" (search_rule ∷ workers_rule ∷ with_objects census_rules)
    ∷ command "identify" (search_rule
    ∷ with_objects (flag "json" ∷ option "names" ∷ flag "explain" ∷ several "file" ∷ []))
    ∷ command "advance" (record (word "generations") { required = true; parser = Some (Unsigned 0 4194304) }
    ∷ number "cells" 4294967295 ∷ flag "explain" ∷ word "file" ∷ [])
    ∷ command "draw" (record (word "code") { required = true }
    ∷ record (option "rule") { defaults = codes "B3/S23" ∷ [] } ∷ flag "explain" ∷ [])
    ∷ command "merge" reading_rules
    ∷ command "table" (flag "csv" ∷ flag "json" ∷ flag "safe" ∷ flag "parts" ∷ flag "codes" ∷ flag "engines"
    ∷ option "sort" ∷ flag "unnamed" ∷ option "names" ∷ reading_rules)
    ∷ command "page" (option "title" ∷ option "note" ∷ record (option "sort") { defaults = codes "report" ∷ [] }
    ∷ number "top" 4294967295 ∷ option "base" ∷ flag "links" ∷ flag "no-patterns" ∷ option "names"
    ∷ reading_rules)
    ∷ command "same" (flag "json" ∷ flag "starts" ∷ record (flag "recursive") { short = Some 114 } ∷ reading_rules)
    ∷ command "verify" (record (word "claims") { required = true } ∷ reading_rules)
    ∷ []

-- `census`: it needs one of its commands, its words come without its own name, and it has a version
abbrev pub census_app : App
census_app = record {
  top = record (new_shape (codes "census")) {
    is_leaf = false;
    no_binary_name = true;
    has_version = true;
    subcommand_required = true;
  };
  subs = commands;
}

-- # How it is built

-- one of its commands, by its name
abbrev pub command_named : String → Shape
command_named name = unwrap_or (find (λ s. bytes_eq s.name (codes name)) commands) (new_shape [])

-- a command with the last arguments of those that read reports after its own
abbrev pub with_reading : App → App
with_reading app = fold with_rule app reading_rules

-- `census` without its commands
abbrev pub bare_app : App
bare_app = record { top = record census_app.top { is_leaf = true }; subs = [] }
