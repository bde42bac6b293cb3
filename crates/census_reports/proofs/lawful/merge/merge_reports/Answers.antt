use Rattle.std.proofs.Common.{[], Err, IfOk, Ok, OnOk, Result, map}
use Rattle.census_reports.specs.declared.reading.Written.{Written}
use Rattle.census_reports.proofs.LawfulLemmas.Read.{merges_lawfully}
use Rattle.census_reports.proofs.Said.{quiet_of}
use Rattle.census_reports.proofs.lawful.merge.merge_reports.Goals as goal

-- what holds whatever is reported of what was written
whatever : {E : Type 0} (r : Result Written E) (P : Written → Type 0) (Q : Type 0) → ((result : Written) → P result → Q) → IfOk r P → OnOk r Q
whatever (Ok result) P Q so is = so result is
whatever (Err error) P Q so is = is

pub returns-clause-lawful : goal.returns-clause-lawful
returns-clause-lawful g c = λ plain.
    whatever c.write_reports.result _ _
    (λ result. merges_lawfully ((g.S.Shelf.tellings c.args.shelf.now).held []) (map (λ s. s.now) c.args.words.now) c.args.streams.now c.write_reports.new.streams c.args.reading result plain)
    c.write_reports.ensures.done

pub returns-clause-quiet : goal.returns-clause-quiet
returns-clause-quiet g c =
    quiet_of c.write_reports.result c.args.reading ((g.S.Shelf.tellings c.args.shelf.now).held []) (map (λ s. s.now) c.args.words.now) c.args.streams.now c.write_reports.new.streams _ _ c.write_reports.ensures.says
