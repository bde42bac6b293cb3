-- How an error of clap is reported.
use Rattle.std.proofs.Common.{◌≡◌, ◌⊎◌, ℕ, List, inl, inr, subst}
use Rattle.clap.specs.Faults.{fault_of}
use Rattle.clap.specs.Kinds.{HasKind, IsAmong}
use Rattle.clap.specs.Simple.{App, subcommand_of}
use Rattle.clap.specs.Values.{kind_of}
use Rattle.clap.specs.declared.error.Error.{Error}
use Rattle.clap.specs.declared.error.kind.ErrorKind.{ErrorKind}
use Rattle.clap.specs.declared.error.kind.ErrorKind.TheVariants.{OutOfMemory}
use Rattle.census_cli.specs.Asking.{IsMatched}
use Rattle.census_cli.specs.CommandLine.{census_app}
use Rattle.census_cli.specs.Holding.{RefusesCommand}
use Rattle.census_cli.specs.Refusing.{RefusesWords, TellsKind}
use Rattle.census_cli.specs.declared.fault.WordsFault.{WordsFault}
use Rattle.census_cli.specs.declared.fault.WordsFault.TheVariants.{Help, Refused, Memory}

told : (words : List (List ℕ)) (kind : ErrorKind) (fault : WordsFault) → TellsKind kind fault
    → (kind ≡ OutOfMemory) ⊎ IsAmong kind (fault_of census_app words) → RefusesWords words fault
told words kind (Help text) (inl help) (inl memory) = cc
told words kind (Help text) (inr (version, same)) (inl memory) = cc
told words kind (Help text) (inl help) (inr among) = inl (subst (λ (k : ErrorKind). IsAmong k (fault_of census_app words)) help among)
told words kind (Help text) (inr (version, same)) (inr among) = inr (inl (subst (λ (k : ErrorKind). IsAmong k (fault_of census_app words)) version among, same))
told words kind (Refused text) tells (inl memory) = absurd (tells.2 memory)
told words kind (Refused text) tells (inr among) = inl (kind, among, tells.0, tells.1, tells.2)
told words kind Memory tells h = tt

pub refuses : (app : App) (words : List (List ℕ)) (error : Error) (fault : WordsFault) → app ≡ census_app → TellsKind (kind_of error) fault
    → HasKind (fault_of app words) error → RefusesWords words fault
refuses app words error fault same tells h =
    told words (kind_of error) fault tells (subst (λ (a : App). HasKind (fault_of a words) error) same h)

-- words that clap accepts are refused as the command that they name is
pub refuses_matched : (words : List (List ℕ)) (fault : WordsFault) → IsMatched words → RefusesCommand (subcommand_of census_app words) fault → RefusesWords words fault
refuses_matched words (Help text) matched h = absurd h
refuses_matched words (Refused text) matched h = inr (matched, h)
refuses_matched words Memory matched h = tt
