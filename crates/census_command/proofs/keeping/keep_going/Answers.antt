use Rattle.std.proofs.Common.{List, ℕ, ◌++◌, inl, inr, refl, ap, subst, sym, ◌∙◌, ◌≡◌}
use Rattle.std.proofs.lemmas.List.{append_assoc}
use Rattle.census_folders.specs.Sources.{Reads}
use Rattle.census_command.specs.Keeps.{StopsKeeping, kept_status, lost_lines, refused_lines}
use Rattle.census_folders.specs.declared.loss.Loss.{Loss}
use Rattle.watched.specs.Streams.{PutsBytes, PutsMoreBytes, Sink, Streams}
use Rattle.census_errors.specs.Messages.{error_line}
use Rattle.census_errors.specs.Explained.{TellsOf}
use Rattle.census_errors.specs.declared.error.CommandError.TheVariants as command
use Rattle.census_errors.proofs.Telling.{at_sound}
use Rattle.watched.proofs.Written.{tells_more}
use Rattle.census_command.proofs.Outcomes.{untouched}
use Rattle.census_command.proofs.Reports.{is_cut}
use Rattle.census_command.proofs.keeping.keep_going.Goals as goal

pub returns-in-Err-clause-kept : goal.returns-in-Err-clause-kept
returns-in-Err-clause-kept g c =
    let shelf = g.S.Shelf.tellings c.args.shelf.now in
    let error = c.in-Err.error in
    let before = c.args.streams.now in
    inr (inr (record {
      error = error;
      why = subst (λ a. StopsKeeping shelf a error) c.folders_of-source.ensures c.in-Err.ensures;
      untouched = untouched before _ (ap (λ (s : Streams). s.input) c.streams.view_is) (ap (λ (s : Streams). s.output) c.streams.view_is) c.requires.sound;
      told = subst (λ (s : Sink). TellsOf (command.Run error) c.args.explain s c.stop_saying.new.errors.stream) (ap (λ (s : Streams). s.errors) c.streams.view_is) c.stop_saying.ensures.lines;
      status_is = c.stop_saying.ensures.status;
    }))

pub returns-in-Ok-report_kept-clause-kept : goal.returns-in-Ok-report_kept-clause-kept
returns-in-Ok-report_kept-clause-kept g c =
    let kept = c.in-Ok.gathered.0 in
    let lost = kept.lost in
    let refused = c.report_kept.new.refused.items in
    let lines : c.as_slice.result.now ≡ lost_lines lost = c.as_slice.ensures.value ∙ c.in-Ok.ensures.1 in
    let sound = ap (λ (s : Streams). s.errors.failed) c.streams.view_is ∙ c.requires.errors in
    let s0 = c.streams.inside.errors.stream in
    let s1 = c.tell.new.self.stream in
    let s2 = c.tell-in-Ok-report_kept.new.self.stream in
    let s3 = c.tell-in-Ok-report_kept-2.new.self.stream in
    let first : PutsBytes (lost_lines lost) s0 s1 =
    at_sound (lost_lines lost) s0 s1 sound (subst (λ (l : List ℕ). PutsMoreBytes l s0 s1) lines c.tell.ensures) in
    let after : PutsMoreBytes (refused_lines kept.bundle refused) s1 s2 =
    subst (λ (l : List ℕ). PutsMoreBytes l s1 s2) (c.as_slice-in-Ok-report_kept.ensures.value ∙ c.in-Ok-report_kept.ensures.refused) c.tell-in-Ok-report_kept.ensures in
    let beside = c.in-Ok-report_kept.after.beside in
    let more : PutsMoreBytes beside s2 s3 =
    subst (λ (l : List ℕ). PutsMoreBytes l s2 s3) c.as_slice-in-Ok-report_kept-2.ensures.value c.tell-in-Ok-report_kept-2.ensures in
    let both = tells_more (lost_lines lost) (refused_lines kept.bundle refused) s0 s1 s2 first after in
    rw (← c.streams.view_is) (inl (record {
      kept = kept;
      read = subst (λ a. Reads (g.S.Shelf.tellings c.args.shelf.now) a kept) c.folders_of-source.ensures c.in-Ok.ensures.0;
      refused = refused;
      of_bundle = c.in-Ok-report_kept.ensures.of_bundle;
      report = c.in-Ok-report_kept.ensures.report;
      unread = refl;
      sound = record { read = ap (λ s. s.input.failed) c.streams.view_is ∙ c.requires.sound.read; write = c.in-Ok-report_kept.ensures.failed };
      lines = beside;
      explained = c.in-Ok-report_kept.ensures.beside;
      told = subst (λ (t : List ℕ). PutsBytes t s0 s3) (append_assoc (lost_lines lost) (refused_lines kept.bundle refused) beside)
          (tells_more (lost_lines lost ++ refused_lines kept.bundle refused) beside s0 s2 s3 both more);
      status_is = c.status_of_kept.ensures ∙ ap (λ (l : List Loss). kept_status l c.as_slice-in-Ok-report_kept-4.result.now) c.as_slice-in-Ok-report_kept-3.ensures
          ∙ ap (kept_status lost) c.as_slice-in-Ok-report_kept-4.ensures.value;
    }))

pub returns-clause-kept : goal.returns-clause-kept
returns-clause-kept g c =
    let kept = c.in-Ok.gathered.0 in
    let lost = kept.lost in
    let error = c.from.result in
    let lines : c.as_slice.result.now ≡ lost_lines lost = c.as_slice.ensures.value ∙ c.in-Ok.ensures.1 in
    let sound = ap (λ (s : Streams). s.errors.failed) c.streams.view_is ∙ c.requires.errors in
    let first : PutsBytes (lost_lines lost) c.streams.inside.errors.stream c.tell.new.self.stream =
    at_sound (lost_lines lost) c.streams.inside.errors.stream c.tell.new.self.stream sound (subst (λ (l : List ℕ). PutsMoreBytes l c.streams.inside.errors.stream c.tell.new.self.stream) lines c.tell.ensures) in
    rw (← c.streams.view_is) (inr (inl (record {
      kept = kept;
      read = subst (λ a. Reads (g.S.Shelf.tellings c.args.shelf.now) a kept) c.folders_of-source.ensures c.in-Ok.ensures.0;
      refused = c.report_kept.new.refused.items;
      part = c.in-Err-report_kept.ensures.report;
      unread = refl;
      error = error;
      cut = rw c.from.ensures (is_cut c.in-Err-report_kept.fault _ (ap (λ s. s.input.failed) c.streams.view_is ∙ c.requires.sound.read) c.in-Err-report_kept.ensures.failed);
      lines = c.tell_cut.ensures.told.0;
      explained = c.tell_cut.ensures.told.1;
      told = subst (λ (t : List ℕ). PutsBytes t c.streams.inside.errors.stream c.tell_cut.new.errors.stream) (sym (append_assoc (lost_lines lost) (error_line (command.Run error)) c.tell_cut.ensures.told.0))
          (tells_more (lost_lines lost) (error_line (command.Run error) ++ c.tell_cut.ensures.told.0) c.streams.inside.errors.stream c.tell.new.self.stream c.tell_cut.new.errors.stream first c.tell_cut.ensures.told.2);
      status_is = c.tell_cut.ensures.status;
    })))

pub returns-in-Err-clause-gate : goal.returns-in-Err-clause-gate
returns-in-Err-clause-gate g c =
    let error = c.in-Err.error in
    inr (error, subst (λ a. StopsKeeping (g.S.Shelf.tellings c.args.shelf.now) a error) c.folders_of-source.ensures c.in-Err.ensures, c.stop_saying.ensures.status, refl)

pub returns-in-Ok-report_kept-clause-gate : goal.returns-in-Ok-report_kept-clause-gate
returns-in-Ok-report_kept-clause-gate g c =
    let kept = c.in-Ok.gathered.0 in
    inl (record { kept = kept; read = subst (λ a. Reads (g.S.Shelf.tellings c.args.shelf.now) a kept) c.folders_of-source.ensures c.in-Ok.ensures.0; heard = c.in-Ok-report_kept.ensures.gate })

pub returns-clause-gate : goal.returns-clause-gate
returns-clause-gate g c =
    let kept = c.in-Ok.gathered.0 in
    inl (record { kept = kept; read = subst (λ a. Reads (g.S.Shelf.tellings c.args.shelf.now) a kept) c.folders_of-source.ensures c.in-Ok.ensures.0; heard = c.in-Err-report_kept.ensures.gate })
