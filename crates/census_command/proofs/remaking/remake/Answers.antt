use Rattle.std.proofs.Common.{List, ℕ, ap, inl, inr, map, option_map, subst, sym, ◌≡◌, ◌⊎◌, []}
use Rattle.watched.specs.Streams.{Sink, Streams}
use Rattle.census_reports.specs.declared.reading.Reading.{Reading}
use Rattle.census_merge.specs.declared.mending.Cut.{Cut}
use Rattle.census_folders.specs.Told.{Told}
use Rattle.census_reports.specs.declared.error.ReportsError.{ReportsError}
use Rattle.census_reports.specs.declared.error.ReportsError.TheVariants.{Claims, Names, Fault, TooMany, Unread, Memory, Write}
use Rattle.census_reports.specs.declared.form.Form.{Form}
use Rattle.census_reports.specs.declared.form.Form.TheVariants.{Merged, Table, Page, Same, Verdict}
use Rattle.census_reports.specs.Outcomes.{ReportsFail, SaysOfReports, WritesReports}
use Rattle.census_errors.specs.Explained.{TellsFault}
use Rattle.census_errors.specs.Files.{file_in}
use Rattle.census_command.specs.Remakes.{KeepsLaw, TellsCuts}
use Rattle.census_command.specs.Streams.{untold}
use Rattle.census_command.proofs.remaking.remake.Goals as goal

-- what an error says does not depend on standard error
fails_untold : (error : ReportsError) (form : Form) (before reached : Streams) (told : Sink) (held : List ℕ → Told) (reading : Reading) (files : List (List ℕ))
    → ReportsFail error form reading held files before reached
    → ReportsFail error form reading held files before (untold before (record { input = reached.input; output = reached.output; errors = told }))
fails_untold (Claims line is_named) form before reached told held reading files h = h
fails_untold (Names line) form before reached told held reading files h = h
fails_untold (Fault number line kind) form before reached told held reading files h = h
fails_untold (TooMany report) form before reached told held reading files h = h
fails_untold (Unread text fault) form before reached told held reading files h = h
fails_untold Memory form before reached told held reading files h = h
fails_untold Write form before reached told held reading files h = h

-- nor does the law of one report
keeps_untold : (form : Form) (before reached : Streams) (told : Sink) (held : List ℕ → Told) (reading : Reading) (files : List (List ℕ))
    → KeepsLaw form reading held files before reached
    → KeepsLaw form reading held files before (untold before (record { input = reached.input; output = reached.output; errors = told }))
keeps_untold Merged before reached told held reading files h = h
keeps_untold (Table subject format names) before reached told held reading files h = h
keeps_untold (Page options given) before reached told held reading files h = h
keeps_untold (Same json) before reached told held reading files h = h
keeps_untold (Verdict claims) before reached told held reading files h = h

pub returns-in-Ok : goal.returns-in-Ok
returns-in-Ok g c =
    let held = (g.S.Shelf.tellings c.args.shelf.now).held [] in
    let before = c.args.streams.now in
    let form = c.args.form in
    let reading = c.reading_of.ensures in
    let files = ap (λ files. map (λ s. s.now) files) c.as_slice-files.ensures.value in
    let view = sym c.streams.view_is in
    let said = c.streams.inside.errors.stream in
    let reached : Streams = record { input = c.streams.inside.input.stream; output = c.streams.inside.output.stream; errors = said } in
    let done = subst (λ (s : Streams). WritesReports form c.reading_of.result c.in-Ok.written held (map (λ s. s.now) c.as_slice-files.result.now) before s) view c.in-Ok.ensures.done in
    let lawful = subst (λ (s : Streams). KeepsLaw form c.reading_of.result held (map (λ s. s.now) c.as_slice-files.result.now) before s) view c.in-Ok.ensures.lawful in
    let says = subst (λ (s : Streams). SaysOfReports form c.reading_of.result held (map (λ s. s.now) c.as_slice-files.result.now) before s before.errors s.errors) view c.in-Ok.ensures.says in
    inl (record {
      written = c.in-Ok.written;
      status_is = c.found_status.ensures;
      done = subst (λ (r : Reading). WritesReports form r c.in-Ok.written held (map (λ s. s.now) c.args.reports.now.words.items) before reached) reading
          (subst (λ (fs : List (List ℕ)). WritesReports form c.reading_of.result c.in-Ok.written held fs before reached) files done);
      lawful = keeps_untold form before reached c.tell_cuts.new.errors.stream held _ _
          (subst (λ (r : Reading). KeepsLaw form r held (map (λ s. s.now) c.args.reports.now.words.items) before reached) reading
          (subst (λ (fs : List (List ℕ)). KeepsLaw form c.reading_of.result held fs before reached) files lawful));
      said = said;
      says = subst (λ (r : Reading). SaysOfReports form r held (map (λ s. s.now) c.args.reports.now.words.items) before reached before.errors said) reading
          (subst (λ (fs : List (List ℕ)). SaysOfReports form c.reading_of.result held fs before reached before.errors said) files says);
      told = subst (λ (cuts : List Cut). TellsCuts cuts said c.tell_cuts.new.errors.stream) c.as_slice.ensures.value c.tell_cuts.ensures;
    })

pub returns-in-Err : goal.returns-in-Err
returns-in-Err g c =
    let held = (g.S.Shelf.tellings c.args.shelf.now).held [] in
    let before = c.args.streams.now in
    let form = c.args.form in
    let error = c.in-Err.error in
    let reading = c.reading_of.ensures in
    let files = ap (λ files. map (λ s. s.now) files) c.as_slice-files.ensures.value in
    let view = sym c.streams.view_is in
    let said = c.streams.inside.errors.stream in
    let reached : Streams = record { input = c.streams.inside.input.stream; output = c.streams.inside.output.stream; errors = said } in
    let fails = subst (λ (s : Streams). ReportsFail error form c.reading_of.result held (map (λ s. s.now) c.as_slice-files.result.now) before s) view c.in-Err.ensures.fails in
    let says = subst (λ (s : Streams). (s.errors ≡ before.errors) ⊎ SaysOfReports form c.reading_of.result held (map (λ s. s.now) c.as_slice-files.result.now) before s before.errors s.errors) view
    c.in-Err.ensures.says in
    inr (record {
      error = error;
      status_is = c.stop_at_file.ensures.status;
      fails = fails_untold error form before reached c.stop_at_file.new.errors.stream held _ _
          (subst (λ (r : Reading). ReportsFail error form r held (map (λ s. s.now) c.args.reports.now.words.items) before reached) reading
          (subst (λ (fs : List (List ℕ)). ReportsFail error form c.reading_of.result held fs before reached) files fails));
      said = said;
      says = subst (λ (r : Reading). (said ≡ before.errors) ⊎ SaysOfReports form r held (map (λ s. s.now) c.args.reports.now.words.items) before reached before.errors said) reading
          (subst (λ (fs : List (List ℕ)). (said ≡ before.errors) ⊎ SaysOfReports form c.reading_of.result held fs before reached before.errors said) files says);
      told = subst (λ (fs : List (List ℕ)). TellsFault (file_in (option_map (λ s. s.now) c.args.beside) fs error) error c.args.explain said c.stop_at_file.new.errors.stream) files
          c.stop_at_file.ensures.told;
    })
