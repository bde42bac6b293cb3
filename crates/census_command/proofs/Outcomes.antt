-- The streams after a command, and how what is asked for ends.
use Rattle.std.proofs.Common.{◌≡◌, ◌≢◌, ◌⊎◌, ℕ, Bool, Result, Ok, Err, false, inl, inr, ⊎_elim, sym, ap, ◌∙◌, subst, true, true≢false, IfErr, OnOk}
use Rattle.watched.specs.Streams.{Reader, Sink, Streams}
use Rattle.census_cli.specs.declared.request.Census.{Census as CensusAsked}
use Rattle.census_cli.specs.declared.request.Request.{Request}
use Rattle.census_cli.specs.declared.request.Request.TheVariants.{Census}
use Rattle.census_command.specs.Keeps.{Keeps}
use Rattle.census_command.specs.Outcomes.{Concludes, EndsAtFirst, EndsCensus, EndsOnLoss}
use Rattle.census_command.specs.Requests.{Does, Fails}
use Rattle.census_command.specs.Streams.{HasFailed, HasSoundStreams, IsUntouched, TellsBeside, untold}
use Rattle.census_errors.specs.Explained.{TellsOf}
use Rattle.census_errors.specs.Sources.{Source, Input, Folders, StopsAtFirstLoss}
use Rattle.census_errors.specs.declared.stopped.Stopped.{Stopped}
use Rattle.census_folders.specs.Sources.{Asked}
use Rattle.census_folders.specs.Tellings.{Tellings}
use Rattle.census_folders.specs.declared.loss.OnLoss.{OnLoss}
use Rattle.census_folders.specs.declared.loss.OnLoss.TheVariants.{Keep}

-- # Streams

pub neither : {A : Type 0} (s : Streams) → HasSoundStreams s → HasFailed s → A
neither s sound failed =
    absurd (⊎_elim (λ (t : s.input.failed ≡ true). true≢false (sym t ∙ sound.read)) (λ (t : s.output.failed ≡ true). true≢false (sym t ∙ sound.write)) failed)

-- the streams have not failed, where they had not before anything was reported
pub sound_told : (before after : Streams) → HasSoundStreams (untold before after) → HasSoundStreams after
sound_told before after sound = record { read = sound.read; write = sound.write }

-- where neither standard input nor standard output has changed, nothing was read or written
pub untouched : (before after : Streams) → after.input ≡ before.input → after.output ≡ before.output → HasSoundStreams before → IsUntouched before after
untouched before after input output sound = record {
  unread = ap (λ (r : Reader). r.unread) input;
  written = ap (λ (w : Sink). w.written) output;
  sound = record { read = ap (λ (r : Reader). r.failed) input ∙ sound.read; write = ap (λ (w : Sink). w.failed) output ∙ sound.write };
}

-- nothing but standard error has changed since
pub untold_is : (before reached : Streams) (told : Sink) → reached.errors ≡ before.errors
    → reached ≡ untold before (record { input = reached.input; output = reached.output; errors = told })
untold_is before reached told quiet = λ i. record { input = reached.input; output = reached.output; errors = quiet i }

-- # What ends at the first thing that goes wrong

module _ (shelf : Tellings) (request : Request) (explain : Bool) (before reached : Streams) (errors : Sink) (quiet : reached.errors ≡ before.errors) where
  pub concluded : {A : Type 0} (ended : Result A Stopped) (status : ℕ)
      → OnOk ended (Does shelf request before reached) → OnOk ended (HasSoundStreams reached)
      → IfErr ended (λ stopped. Fails stopped.error shelf request before reached)
      → Concludes ended explain status reached.errors errors
      → EndsAtFirst shelf request explain status before (record { input = reached.input; output = reached.output; errors = errors })
  concluded (Ok lines) status done sound fails concludes = inl (record {
    status_is = concludes.0;
    done = subst (λ (s : Streams). Does shelf request before s) (untold_is before reached errors quiet) done;
    sound = record { read = sound.read; write = sound.write };
    told = subst (λ (s : Sink). TellsBeside explain s errors) quiet concludes.1;
  })
  concluded (Err stopped) status done sound fails concludes = inr (record {
    error = stopped.error;
    status_is = concludes.0;
    fails = subst (λ (s : Streams). Fails stopped.error shelf request before s) (untold_is before reached errors quiet) fails;
    told = subst (λ (s : Sink). TellsOf stopped.error explain s errors) quiet concludes.1;
  })

-- # A census

module _ (shelf : Tellings) (census : CensusAsked) (explain : Bool) (status : ℕ) (before after : Streams) where
  -- a census that continues past what can't be read
  pub goes_on : (source : Source) (asked : Asked) → source ≡ Folders asked → asked.on_loss ≡ Keep
      → Keeps shelf asked census.question explain status before after
      → EndsCensus shelf census source explain status before after
  goes_on source asked is keeps h = rw is (subst (λ (o : OnLoss). EndsOnLoss o shelf census asked explain status before after) (sym keeps) h)

  -- a census that does not
  pub ends_at_first : (source : Source) → StopsAtFirstLoss source → EndsAtFirst shelf (Census census) explain status before after
      → EndsCensus shelf census source explain status before after
  ends_at_first Input stops h = h
  ends_at_first (Folders asked) stops h = subst (λ (o : OnLoss). EndsOnLoss o shelf census asked explain status before after) (sym stops) h
