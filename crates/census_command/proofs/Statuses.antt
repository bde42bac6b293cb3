-- What each exit status says of what ends at the first thing that goes wrong.
use Rattle.std.proofs.Common.{◌≡◌, ◌⊎◌, ℕ, Bool, List, ◌++◌, Option, None, Some, option_map, true, false, inl, inr, ⊎_elim, refl, sym, ◌∙◌, arith, true≢false, string_bytes, ◌||◌}
use Rattle.watched.specs.Streams.{PutsBytes, Streams}
use Rattle.watched.specs.Watching.{AppendsFront}
use Rattle.census_folders.specs.Sources.{Asked}
use Rattle.census_cli.specs.Asking.{Asks, AsksFor, AsksToExplain}
use Rattle.census_cli.specs.Refusing.{AreRefusedWords, AsksHelp, AsksText, RefusesWords}
use Rattle.census_cli.specs.declared.fault.WordsFault.{WordsFault}
use Rattle.census_cli.specs.declared.fault.WordsFault.TheVariants as words_fault
use Rattle.census_cli.specs.declared.request.Asked.{Asked as Wanted}
use Rattle.census_cli.specs.declared.request.Request.{Request}
use Rattle.census_cli.specs.declared.request.Request.TheVariants.{Census, Identify, Advance, Draw, Merge, Table, Page, Same, Starts, Verify}
use Rattle.life_answer.specs.declared.question.Question.{Question}
use Rattle.census_command.specs.Advances.{AdvanceFails, AdvancesBy}
use Rattle.census_errors.specs.Explained.{TellsOf}
use Rattle.census_errors.specs.Messages.{advance_told, error_line, run_status, status_of}
use Rattle.census_command.specs.Outcomes.{Answers, EndsAtFirst, Shows, ShowsInPart}
use Rattle.census_command.specs.Statuses.{AreExplained, EndsPlainly, HelpsInPart, Statuses, StatusesSay}
use Rattle.census_errors.specs.Files.{file_of}
use Rattle.census_command.specs.Statuses.{MissesFile, RefusesGiven}
use Rattle.census_command.specs.Statuses.{MissesSource, RefusesCollections, RefusesInput, ReportsInPart}
use Rattle.census_command.specs.Statuses.{StopsAtFolder, TellsError, TellsRefusal}
use Rattle.census_command.proofs.Outcomes.{neither, sound_told}
use Rattle.census_command.specs.Requests.{Does, DoesInPart, Fails}
use Rattle.census_command.specs.Runs.{FailsInFolders, FoldersFail, ReportsFoldersInPart, RunFails, RunsInPart}
use Rattle.census_folders.specs.Tellings.{Tellings}
use Rattle.census_errors.specs.Sources.{Source, Input, Folders, source_of}
use Rattle.census_command.specs.Streams.{HasFailed, HasSoundStreams, IsUntouched, TellsBeside, WritesNothing, untold}
use Rattle.census_errors.specs.declared.advance_error.AdvanceError.{AdvanceError}
use Rattle.census_errors.specs.declared.advance_error.AdvanceError.TheVariants as advance
use Rattle.census_errors.specs.declared.draw_error.DrawError.TheVariants as draw
use Rattle.census_errors.specs.declared.run_error.RunError.{RunError}
use Rattle.census_errors.specs.declared.run_error.RunError.TheVariants as run
use Rattle.census_errors.specs.declared.error.CommandError.{CommandError}
use Rattle.census_errors.specs.declared.error.CommandError.TheVariants as command

-- ---- why it stops

-- What an error's status says, where `Refused` says what is refused, `Report` that a prefix of a report was written,
-- `Part` that a prefix of what was asked for was, and `Missed` that a folder was missed.
abbrev Says : Streams → Streams → ℕ → Type 0 → Type 0 → Type 0 → Type 0 → Type 0
Says before after status Refused Report Part Missed =
    ((status ≡ 1) × Refused × WritesNothing before after)
    ⊎ (((status ≡ 3) × ((after.output.written ≡ before.output.written) ⊎ Report) × HasSoundStreams after)
    ⊎ ((status ≡ 4) × (HasFailed after ⊎ Missed) × ((after.output.written ≡ before.output.written) ⊎ Part) × (after.input.failed ≡ true → after.output.written ≡ before.output.written)))

module _ (shelf : Tellings) (before after : Streams) where
  unread_flag : {A : Type 0} → after.input.failed ≡ false → after.input.failed ≡ true → A
  unread_flag down up = absurd (true≢false (sym up ∙ down))

  advance_says : (e : AdvanceError) (file : Option (List ℕ)) (n : ℕ) (limit : Option ℕ) → AdvanceFails e shelf file n limit before after
      → Says before after ((advance_told e).1) (RefusesGiven shelf file n limit before after) ⊥ (AdvancesBy AppendsFront shelf file n limit before after) (MissesFile shelf file)
  advance_says (advance.Text fault told spot) file n limit h = inl (refl, inl (advance.Text fault told spot, h.0, h.1, h.2), h.3)
  advance_says (advance.TooManyCells most at) file n limit h = inl (refl, inl (advance.TooManyCells most at, h.0, h.1, h.2), h.3)
  advance_says advance.TooLong None n limit h = inl (refl, inr h.0, h.1)
  advance_says advance.TooLong (Some path) n limit h = inl (refl, inr h.0, record { written = h.1.written; sound = h.1.sound })
  advance_says advance.Memory file n limit h = inr (inl (refl, inl h.1.written, h.1.sound))
  advance_says (advance.Read why) None n limit h = inr (inr (refl, inl (inl h.read), inl h.written, λ up. h.written))
  advance_says (advance.Read why) (Some path) n limit h = inr (inr (refl, inr (why, h.0), inl h.1.written, λ up. h.1.written))
  advance_says advance.Write file n limit h = inr (inr (refl, inl (inr h.1.write), inr h.0, unread_flag h.1.read))

  folders_say : (e : RunError) (asked : Asked) (question : Question) → FoldersFail e shelf asked question before after
      → Says before after (run_status e) ((error : RunError) × FailsInFolders shelf asked error × (run_status error ≡ 1)) (ReportsFoldersInPart shelf asked question before after)
      (ReportsFoldersInPart shelf asked question before after) (FailsInFolders shelf asked run.Read)
  folders_say (run.Bundle fault) asked question h = inl (refl, (run.Bundle fault, h.0, refl), record { written = h.1.written; sound = h.1.sound })
  folders_say (run.Folder fault) asked question h = inl (refl, (run.Folder fault, h.0, refl), record { written = h.1.written; sound = h.1.sound })
  folders_say run.TooLong asked question h = inl (refl, (run.TooLong, h.0, refl), record { written = h.1.written; sound = h.1.sound })
  folders_say (run.Memory ticket) asked question (inl h) = inr (inl (refl, inl h.1.written, h.1.sound))
  folders_say (run.Memory ticket) asked question (inr h) = inr (inl (refl, inr h.0, h.1))
  folders_say run.Read asked question h = inr (inr (refl, inr h.0, inl h.1.written, λ up. h.1.written))
  folders_say run.Write asked question h = inr (inr (refl, inl (inr h.1.write), inr h.0, unread_flag h.1.read))

  run_says : (e : RunError) (source : Source) (question : Question) → RunFails e shelf source question before after
      → Says before after (run_status e) (RefusesCollections shelf source before after) (RunsInPart shelf source question before after)
      (RunsInPart shelf source question before after) (MissesSource shelf source)
  run_says (run.Bundle fault) Input question h = inl (refl, inl (fault, h.0), h.1)
  run_says (run.Folder fault) Input question h = absurd h
  run_says run.TooLong Input question h = inl (refl, inr h.0, h.1)
  run_says (run.Memory ticket) Input question h = inr (inl (refl, h.0, h.1))
  run_says run.Read Input question h = inr (inr (refl, inl (inl h.read), inl h.written, λ up. h.written))
  run_says run.Write Input question h = inr (inr (refl, inl (inr h.1.write), inr h.0, unread_flag h.1.read))
  run_says e (Folders asked) question h = folders_say e asked question h

module _ (shelf : Tellings) (before after : Streams) where
  says : (error : CommandError) (request : Request) → Fails error shelf request before after
      → Says before after (status_of error) (RefusesInput shelf request before after) (ReportsInPart shelf request before after) (DoesInPart shelf request before after)
      (StopsAtFolder shelf request)
  says (command.Run e) (Census census) h = run_says shelf before after e (source_of census.collections) census.question h
  says (command.Advance e) (Advance n limit file) h = advance_says shelf before after e (file_of (option_map (λ s. s.now) file)) n limit h
  says (command.Draw (draw.Rule fault)) (Draw code rule) h = inl (refl, inl (fault, h.0), record { written = h.1.written; sound = h.1.sound })
  says (command.Draw (draw.Code fault)) (Draw code rule) h = inl (refl, inr (fault, h.0.1), record { written = h.1.written; sound = h.1.sound })
  says (command.Draw draw.Memory) (Draw code rule) h = inr (inl (refl, inl h.1.written, h.1.sound))
  says (command.Draw draw.Write) (Draw code rule) h = inr (inr (refl, inl (inr h.1.write), inr h.0, unread_flag shelf before after h.1.read))
  says (command.Run e) (Advance n limit file) h = absurd h
  says (command.Run e) (Identify bound cells near horizon json names files) h = absurd h
  says (command.Run e) (Draw code rule) h = absurd h
  says (command.Advance e) (Identify bound cells near horizon json names files) h = absurd h
  says (command.Advance e) (Census census) h = absurd h
  says (command.Advance e) (Draw code rule) h = absurd h
  says (command.Draw e) (Census census) h = absurd h
  says (command.Draw e) (Advance n limit file) h = absurd h
  says (command.Draw e) (Identify bound cells near horizon json names files) h = absurd h
  says command.Arguments (Census census) h = absurd h
  says command.Arguments (Advance n limit file) h = absurd h
  says command.Arguments (Identify bound cells near horizon json names files) h = absurd h
  says command.Arguments (Draw code rule) h = absurd h
  says command.Memory (Census census) h = absurd h
  says command.Memory (Advance n limit file) h = absurd h
  says command.Memory (Identify bound cells near horizon json names files) h = absurd h
  says command.Memory (Draw code rule) h = absurd h
  says command.Write (Census census) h = absurd h
  says command.Write (Advance n limit file) h = absurd h
  says command.Write (Identify bound cells near horizon json names files) h = absurd h
  says command.Write (Draw code rule) h = absurd h
  says (command.Run e) (Merge reports) h = absurd h
  says (command.Run e) (Table subject format names reports) h = absurd h
  says (command.Run e) (Page page names reports) h = absurd h
  says (command.Run e) (Same json reports) h = absurd h
  says (command.Run e) (Starts json from) h = absurd h
  says (command.Run e) (Verify claims reports) h = absurd h
  says (command.Advance e) (Merge reports) h = absurd h
  says (command.Advance e) (Table subject format names reports) h = absurd h
  says (command.Advance e) (Page page names reports) h = absurd h
  says (command.Advance e) (Same json reports) h = absurd h
  says (command.Advance e) (Starts json from) h = absurd h
  says (command.Advance e) (Verify claims reports) h = absurd h
  says (command.Draw e) (Merge reports) h = absurd h
  says (command.Draw e) (Table subject format names reports) h = absurd h
  says (command.Draw e) (Page page names reports) h = absurd h
  says (command.Draw e) (Same json reports) h = absurd h
  says (command.Draw e) (Starts json from) h = absurd h
  says (command.Draw e) (Verify claims reports) h = absurd h
  says command.Arguments (Merge reports) h = absurd h
  says command.Arguments (Table subject format names reports) h = absurd h
  says command.Arguments (Page page names reports) h = absurd h
  says command.Arguments (Same json reports) h = absurd h
  says command.Arguments (Starts json from) h = absurd h
  says command.Arguments (Verify claims reports) h = absurd h
  says command.Memory (Merge reports) h = absurd h
  says command.Memory (Table subject format names reports) h = absurd h
  says command.Memory (Page page names reports) h = absurd h
  says command.Memory (Same json reports) h = absurd h
  says command.Memory (Starts json from) h = absurd h
  says command.Memory (Verify claims reports) h = absurd h
  says command.Write (Merge reports) h = absurd h
  says command.Write (Table subject format names reports) h = absurd h
  says command.Write (Page page names reports) h = absurd h
  says command.Write (Same json reports) h = absurd h
  says command.Write (Starts json from) h = absurd h
  says command.Write (Verify claims reports) h = absurd h

  -- what fails is not done
  pub never_done : (error : CommandError) (request : Request) → Fails error shelf request before after → status_of error ≡ 0 → ⊥
  never_done error request fails done = case (says error request fails)
    where
      case : Says before after (status_of error) (RefusesInput shelf request before after) (ReportsInPart shelf request before after)
          (DoesInPart shelf request before after) (StopsAtFolder shelf request) → ⊥
      case (inl (is, refused, nothing)) = omega arith
      case (inr (inl (is, part, sound))) = omega arith
      case (inr (inr (is, why, part, kept))) = omega arith

-- faults are explained where the words ask for that, or at a terminal
pub are_explained : (words : List (List ℕ)) (at_terminal asked explain : Bool) → AsksToExplain words asked
    → explain ≡ asked || at_terminal → AreExplained words at_terminal explain
are_explained words at_terminal asked explain h e = record { asked = asked; is_asked = h; is = e }

module _ (shelf : Tellings) (words : List (List ℕ)) (at_terminal : Bool) (before after : Streams) where
  -- what was asked for was done
  pub ends_done : (request : Request) (explain : Bool) → Asks words request → AreExplained words at_terminal explain
      → Does shelf request before (untold before after) → HasSoundStreams after → TellsBeside explain before.errors after.errors → Statuses shelf words at_terminal 0 before after
  ends_done request explain asked explained done sound told = record {
    known = omega arith;
    done = λ h. inl (record { request = request; explain = explain; asked = asked; explained = explained; done = done; told = told });
    quiet = λ h unwanted. unasked explain explained told unwanted;
    faulty = λ h. absurd (omega arith);
    refused = λ h. absurd (omega arith);
    unmatched = λ h. absurd (h asked.0);
    memory = λ h. absurd (omega arith);
    failed = λ h. absurd (omega arith);
    cut = λ h. absurd (omega arith);
    unwritten = λ h. neither after sound (inl h);
    noticed = neither after sound;
    told = λ h. absurd (omega arith);
  }
    where
      unasked : (explain : Bool) → AreExplained words at_terminal explain → TellsBeside explain before.errors after.errors → (AreExplained words at_terminal true → ⊥) → after.errors ≡ before.errors
      unasked true asked told unwanted = absurd (unwanted asked)
      unasked false asked told unwanted = told

  module _ (request : Request) (explain : Bool) (asked : Asks words request) (explained : AreExplained words at_terminal explain) (error : CommandError)
      (fails : Fails error shelf request before (untold before after))
      (told : TellsOf error explain before.errors after.errors) where
    tells : TellsError shelf words at_terminal (status_of error) before after
    tells = record {
      error = error;
      status_is = refl;
      fails = inl (record { request = request; explain = explain; asked = asked; explained = explained; fails = fails; told = told });
    }

    -- what was asked for failed, and the error was reported
    pub ends_failed : Statuses shelf words at_terminal (status_of error) before after
    ends_failed = case (says shelf before (untold before after) error request fails)
      where
        case : Says before (untold before after) (status_of error) (RefusesInput shelf request before (untold before after)) (ReportsInPart shelf request before (untold before after))
            (DoesInPart shelf request before (untold before after)) (StopsAtFolder shelf request) → Statuses shelf words at_terminal (status_of error) before after
        case (inl (is, refused, nothing)) = record {
          known = omega arith;
          done = λ h. absurd (omega arith);
          quiet = λ h unwanted. absurd (omega arith);
          faulty = λ h. (record { request = request; asked = asked; refused = refused }, record { written = nothing.written; sound = sound_told before after nothing.sound });
          refused = λ h. absurd (omega arith);
          unmatched = λ h. absurd (h asked.0);
          memory = λ h. absurd (omega arith);
          failed = λ h. absurd (omega arith);
          cut = λ h. absurd (omega arith);
          unwritten = λ h. nothing.written;
          noticed = neither after (sound_told before after nothing.sound);
          told = λ h. inl tells;
        }
        case (inr (inl (is, part, sound))) = record {
          known = omega arith;
          done = λ h. absurd (omega arith);
          quiet = λ h unwanted. absurd (omega arith);
          faulty = λ h. absurd (omega arith);
          refused = λ h. absurd (omega arith);
          unmatched = λ h. absurd (h asked.0);
          memory = λ h. (⊎_elim (λ same. inl same) (λ report. inr (record { request = request; asked = asked; part = report })) part, sound_told before after sound);
          failed = λ h. absurd (omega arith);
          cut = λ h. absurd (omega arith);
          unwritten = λ h. neither after (sound_told before after sound) (inl h);
          noticed = neither after (sound_told before after sound);
          told = λ h. inl tells;
        }
        case (inr (inr (is, why, part, kept))) = record {
          known = omega arith;
          done = λ h. absurd (omega arith);
          quiet = λ h unwanted. absurd (omega arith);
          faulty = λ h. absurd (omega arith);
          refused = λ h. absurd (omega arith);
          unmatched = λ h. absurd (h asked.0);
          memory = λ h. absurd (omega arith);
          failed = λ h. ⊎_elim (λ failed. inl failed) (λ missed. inr (record { request = request; asked = asked; missed = missed })) why;
          cut = λ h. ⊎_elim (λ same. inl same) (λ some. inr (inl (record { request = request; asked = asked; part = some }))) part;
          unwritten = kept;
          noticed = λ h. is;
          told = λ h. inl tells;
        }

  module _ (status : ℕ) where
    -- words that are answered with a text ask for help
    asks_help : (text : List ℕ) → AsksText words text → AsksHelp words
    asks_help text (inl help) = inl help
    asks_help text (inr (inl (version, same))) = inr (inl version)
    asks_help text (inr (inr topic)) = inr (inr topic)

    -- help was written
    ends_helped : (text : List ℕ) → AsksText words text → status ≡ 0 → Shows text before after → Statuses shelf words at_terminal status before after
    ends_helped text help is shows = record {
      known = omega arith;
      done = λ h. inr (record { text = text; asked = help; written = shows.written; unread = shows.unread }, shows.quiet);
      quiet = λ h unwanted. shows.quiet;
      faulty = λ h. absurd (omega arith);
      refused = λ h. absurd (omega arith);
      unmatched = λ h. inr (inr (asks_help text help));
      memory = λ h. absurd (omega arith);
      failed = λ h. absurd (omega arith);
      cut = λ h. absurd (omega arith);
      unwritten = λ h. neither after shows.sound (inl h);
      noticed = neither after shows.sound;
      told = λ h. absurd (omega arith);
    }

    -- a prefix of help was written
    ends_cut : (text : List ℕ) → AsksText words text → status ≡ 4 → ShowsInPart text before after → Statuses shelf words at_terminal status before after
    ends_cut text help is shows =
        let part : HelpsInPart words before after = record { text = text; asked = help; written = shows.written; unread = shows.unread } in
        record {
          known = omega arith;
          done = λ h. absurd (omega arith);
          quiet = λ h unwanted. absurd (omega arith);
          faulty = λ h. absurd (omega arith);
          refused = λ h. absurd (omega arith);
          unmatched = λ h. inr (inr (asks_help text help));
          memory = λ h. absurd (omega arith);
          failed = λ h. inl (inr shows.fails.write);
          cut = λ h. inr (inr part);
          unwritten = unread_flag shelf before after shows.fails.read;
          noticed = λ h. is;
          told = λ h. inl (record { error = command.Write; status_is = is; fails = inr ((part, shows.fails), shows.line) });
        }

    -- the words are refused
    ends_refused : (text : List ℕ) → AreRefusedWords words → status ≡ 2 → IsUntouched before after → PutsBytes text before.errors after.errors → Statuses shelf words at_terminal status before after
    ends_refused text refused is untouched told =
        let tells : TellsRefusal words before after = record { refused = refused; untouched = untouched; text = text; told = told } in
        record {
          known = omega arith;
          done = λ h. absurd (omega arith);
          quiet = λ h unwanted. absurd (omega arith);
          faulty = λ h. absurd (omega arith);
          refused = λ h. tells;
          unmatched = λ h. inl is;
          memory = λ h. absurd (omega arith);
          failed = λ h. absurd (omega arith);
          cut = λ h. absurd (omega arith);
          unwritten = λ h. untouched.written;
          noticed = neither after untouched.sound;
          told = λ h. inr tells;
        }

    -- memory was refused while the words were read
    pub ends_unread : status ≡ 3 → IsUntouched before after → PutsBytes (error_line command.Memory) before.errors after.errors → Statuses shelf words at_terminal status before after
    ends_unread is untouched told = record {
      known = omega arith;
      done = λ h. absurd (omega arith);
      quiet = λ h unwanted. absurd (omega arith);
      faulty = λ h. absurd (omega arith);
      refused = λ h. absurd (omega arith);
      unmatched = λ h. inr (inl is);
      memory = λ h. (inl untouched.written, untouched.sound);
      failed = λ h. absurd (omega arith);
      cut = λ h. absurd (omega arith);
      unwritten = λ h. untouched.written;
      noticed = neither after untouched.sound;
      told = λ h. inl (record { error = command.Memory; status_is = is; fails = inr (untouched, told) });
    }

    -- the words ask for nothing that can be done
    pub ends_answered : (fault : WordsFault) → RefusesWords words fault → Answers fault status before after → Statuses shelf words at_terminal status before after
    ends_answered (words_fault.Help text) help (inl h) = ends_helped (string_bytes text) help h.0 h.1
    ends_answered (words_fault.Help text) help (inr h) = ends_cut (string_bytes text) help h.0 h.1
    ends_answered (words_fault.Refused text) refused h = ends_refused (string_bytes text) refused h.0 h.1 h.2
    ends_answered words_fault.Memory refused h = ends_unread h.0 h.1 h.2

-- ---- the exit status

module _ (shelf : Tellings) (words : List (List ℕ)) (at_terminal : Bool) (before after : Streams) where
  at_first : (asked : Wanted) (status : ℕ) → AsksFor words asked → EndsAtFirst shelf asked.request (asked.explain || at_terminal) status before after
      → Statuses shelf words at_terminal status before after
  at_first asked status is (inl h) =
      let explained = are_explained words at_terminal asked.explain (asked.explain || at_terminal) is.1 refl in
      rw h.status_is (ends_done shelf words at_terminal before after asked.request (asked.explain || at_terminal) is.0 explained h.done h.sound h.told)
  at_first asked status is (inr h) =
      let explained = are_explained words at_terminal asked.explain (asked.explain || at_terminal) is.1 refl in
      rw h.status_is (ends_failed shelf words at_terminal before after asked.request (asked.explain || at_terminal) is.0 explained h.error h.fails h.told)

  says_plainly : (status : ℕ) → EndsPlainly shelf words at_terminal status before after → Statuses shelf words at_terminal status before after
  says_plainly status (inl h) = at_first h.asked status h.is h.ends
  says_plainly status (inr h) = ends_answered shelf words at_terminal before after status h.0 h.1 h.2

pub statuses_say : StatusesSay
statuses_say shelf words at_terminal status before after h = says_plainly shelf words at_terminal before after status h
