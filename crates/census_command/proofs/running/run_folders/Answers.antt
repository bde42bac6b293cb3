use Rattle.std.proofs.Common.{refl, ap, ◌∙◌, subst, inr}
use Rattle.census_folders.specs.Sources.{Reads, Stops}
use Rattle.census_errors.specs.Sources.{asked_of}
use Rattle.census_command.proofs.Reports.{folders_fail, folders_stop}
use Rattle.census_command.proofs.running.run_folders.Goals as goal

pub returns-in-Err-clause-fails : goal.returns-in-Err-clause-fails
returns-in-Err-clause-fails g c =
    let shelf = g.S.Shelf.tellings c.args.shelf.now in
    folders_stop shelf (asked_of c.args.census.now.collections) c.args.census.now.question c.reading.result.error _ _
    (record { stops = c.requires.stops; fault = c.in-Err.fault; is = c.reading.ensures; why = subst (λ a. Stops shelf a c.in-Err.fault) c.folders_of-source.ensures c.in-Err.ensures })
    (record { unread = refl; written = refl; sound = c.requires.sound })

pub returns-in-Ok-report-clause-done : goal.returns-in-Ok-report-clause-done
returns-in-Ok-report-clause-done g c =
    let shelf = g.S.Shelf.tellings c.args.shelf.now in
    rw (← c.streams.view_is) (record {
      stops = c.requires.stops;
      kept = c.in-Ok.kept;
      read = subst (λ a. Reads shelf a c.in-Ok.kept) c.folders_of-source.ensures c.in-Ok.ensures;
      report = c.in-Ok-report.ensures.report;
      unread = refl;
    })

pub returns-clause-fails : goal.returns-clause-fails
returns-clause-fails g c =
    let shelf = g.S.Shelf.tellings c.args.shelf.now in
    rw (c.running.ensures, ← c.streams.view_is)
    (folders_fail shelf (asked_of c.args.census.now.collections) c.args.census.now.question _ _ c.in-Err-report.fault
    (record {
      stops = c.requires.stops;
      kept = c.in-Ok.kept;
      read = subst (λ a. Reads shelf a c.in-Ok.kept) c.folders_of-source.ensures c.in-Ok.ensures;
      front = c.in-Err-report.ensures.report;
      unread = refl;
    })
    (ap (λ s. s.input.failed) c.streams.view_is ∙ c.requires.sound.read) c.in-Err-report.ensures.failed)

pub returns-in-Ok-report-clause-gate : goal.returns-in-Ok-report-clause-gate
returns-in-Ok-report-clause-gate g c =
    let shelf = g.S.Shelf.tellings c.args.shelf.now in
    record { kept = c.in-Ok.kept; read = subst (λ a. Reads shelf a c.in-Ok.kept) c.folders_of-source.ensures c.in-Ok.ensures; heard = c.in-Ok-report.ensures.gate }

pub returns-clause-gate : goal.returns-clause-gate
returns-clause-gate g c =
    let shelf = g.S.Shelf.tellings c.args.shelf.now in
    inr (record { kept = c.in-Ok.kept; read = subst (λ a. Reads shelf a c.in-Ok.kept) c.folders_of-source.ensures c.in-Ok.ensures; heard = c.in-Err-report.ensures.gate })
