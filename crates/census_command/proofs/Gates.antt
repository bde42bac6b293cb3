-- What the gate was told, by what was asked for and by the outcome.
use Rattle.std.proofs.Common.{◌≡◌, ◌⊎◌, ℕ, Bool, List, Result, Ok, Err, inl, inr, sym, subst, ◌∙◌, arith, string_bytes, IfErr, MatchResult}
use Rattle.watched.specs.Streams.{Reader, Sink, Streams}
use Rattle.census_cli.specs.Asking.{AsksFor}
use Rattle.census_cli.specs.Refusing.{AsksHelp, AsksText, RefusesWords}
use Rattle.census_cli.specs.declared.fault.WordsFault.{WordsFault}
use Rattle.census_cli.specs.declared.fault.WordsFault.TheVariants as words_fault
use Rattle.census_cli.specs.declared.request.Asked.{Asked as Wanted}
use Rattle.census_cli.specs.declared.request.Census.{Census as CensusAsked}
use Rattle.census_cli.specs.declared.request.Request.{Request}
use Rattle.census_cli.specs.declared.request.Request.TheVariants.{Census}
use Rattle.census_command.specs.Gates.{Heard, HearsEnd, HearsKept, HearsOutcome, HearsRequest, HearsRun}
use Rattle.census_command.specs.Outcomes.{Answers, Concludes}
use Rattle.census_command.specs.Requests.{Fails}
use Rattle.census_command.proofs.Statuses.{never_done}
use Rattle.census_errors.specs.Messages.{run_status}
use Rattle.census_errors.specs.Sources.{Folders, source_of}
use Rattle.census_errors.specs.declared.run_error.RunError.{RunError}
use Rattle.census_errors.specs.declared.run_error.RunError.TheVariants as run
use Rattle.census_errors.specs.declared.stopped.Stopped.{Stopped}
use Rattle.census_folders.specs.Sources.{Asked}
use Rattle.census_folders.specs.Tellings.{Tellings}

-- no error of a census has the status of success
failed : (error : RunError) → run_status error ≡ 0 → ⊥
failed (run.Bundle fault) none = omega arith
failed (run.Folder fault) none = omega arith
failed run.TooLong none = omega arith
failed (run.Memory ticket) none = omega arith
failed run.Read none = omega arith
failed run.Write none = omega arith

-- # What is asked for

module _ (shelf : Tellings) (before after : Reader) (old new : Heard) where
  -- a census that continues past what can't be read
  pub hears_kept : (census : CensusAsked) (quiet : Bool) (asked : Asked) (status : ℕ) → source_of census.collections ≡ Folders asked → HearsKept shelf asked quiet status old new
      → HearsEnd shelf (Census census) quiet status before after old new
  hears_kept census quiet asked status is (inl heard) = inl (subst (λ s. HearsRun shelf s quiet before after old new) (sym is) heard)
  hears_kept census quiet asked status is (inr (error, why, status_is, same)) = inr ((λ done. absurd (failed error (sym status_is ∙ done))), same)

  -- what ends at the first thing that goes wrong
  pub hears_concluded : {A : Type 0} (request : Request) (quiet explain : Bool) (ended : Result A Stopped) (status : ℕ) (all left : Streams) (errors told : Sink)
      → IfErr ended (λ stopped. Fails stopped.error shelf request all left)
      → MatchResult ended (λ lines. HearsRequest shelf request quiet before after old new) (λ stopped. (new ≡ old) ⊎ HearsRequest shelf request quiet before after old new)
      → Concludes ended explain status errors told
      → HearsEnd shelf request quiet status before after old new
  hears_concluded request quiet explain (Ok lines) status all left errors told fails heard concludes = inl heard
  hears_concluded request quiet explain (Err stopped) status all left errors told fails (inl same) concludes =
      inr ((λ done. absurd (never_done shelf all left stopped.error request fails (sym concludes.0 ∙ done))), same)
  hears_concluded request quiet explain (Err stopped) status all left errors told fails (inr heard) concludes = inl heard

-- words that are answered with a text ask for help
asks_help : (words : List (List ℕ)) (text : List ℕ) → AsksText words text → AsksHelp words
asks_help words text (inl help) = inl help
asks_help words text (inr (inl (version, same))) = inr (inl version)
asks_help words text (inr (inr topic)) = inr (inr topic)

-- # What was told

module _ (shelf : Tellings) (words : List (List ℕ)) (before after : Reader) (old new : Heard) where
  -- what was asked for came to its end
  pub hears_asked : (asked : Wanted) (status : ℕ) → AsksFor words asked → HearsEnd shelf asked.request asked.quiet status before after old new → HearsOutcome shelf words status before after old new
  hears_asked asked status is (inl heard) = inl (asked, is, heard)
  hears_asked asked status is (inr (none, same)) = inr ((λ done. inl (asked.request, is.0, none done)), same)

  -- nothing that can be done was asked for
  pub hears_answered : (status : ℕ) (fault : WordsFault) (all left : Streams) → RefusesWords words fault → Answers fault status all left → new ≡ old → HearsOutcome shelf words status before after old new
  hears_answered status (words_fault.Help text) all left help answer same = inr (λ h. inr (asks_help words (string_bytes text) help), same)
  hears_answered status (words_fault.Refused text) all left refused answer same = inr (λ h. absurd (omega (arith, answer.0)), same)
  hears_answered status words_fault.Memory all left refused answer same = inr (λ h. absurd (omega (arith, answer.0)), same)
