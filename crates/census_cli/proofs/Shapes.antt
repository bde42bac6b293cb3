-- What a command is built to, one argument after another.
use Rattle.std.proofs.Common.{◌≡◌, ◌∙◌, ◌||◌, Bool, false, ap₂}
use Rattle.clap.specs.Simple.{App}
use Rattle.clap.specs.Walk.{Rule}
use Rattle.clap.specs.Words.{AddsArg, app_of, rule_of, with_rule}
use Rattle.clap.specs.declared.builder.arg.Arg.{Arg}
use Rattle.clap.specs.declared.builder.command.Command.{Command}
use Rattle.clap.specs.declared.builder.command.Command.TheViews.{out-Command}

-- the command is built so far to this, with no global argument
abbrev pub IsBuilt : Command → App → Type 0
IsBuilt command app = (app_of command ≡ app) × ((out-Command command).has_globals ≡ false)

-- an argument that is not global adds its rule
pub adds_rule : (old new : Command) (a : Arg) (app : App) (r : Rule) → AddsArg old a new → (rule_of a ≡ r) × (a.global ≡ false) → IsBuilt old app
    → IsBuilt new (with_rule app r)
adds_rule old new a app r adds is so_far = (
  adds.shape is.1 ∙ ap₂ with_rule so_far.0 is.0,
  adds.globals ∙ ap₂ (λ (x y : Bool). x || y) so_far.1 is.1,
)
