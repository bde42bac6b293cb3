use Rattle.std.proofs.Common.{◌≡◌, ◌++◌, ℕ, List, [], Option, Some, None, ap, sym, ◌∙◌}
use Rattle.std.specs.Prelude.{MatchOption}
use Rattle.census_rows.specs.declared.row.Row.{Row}
use Rattle.census_readback.specs.Reports.{ReadsAsReports}
use Rattle.std.proofs.lemmas.List.{append-nil}
use Rattle.census_rows.specs.Lines.{text_of}
use Rattle.census_readback.proofs.Alike.{stray-same}
use Rattle.census_readback.proofs.Interleaved.{reports-complete, reports-sound}
use Rattle.census_readback.proofs.Reached.{stuck-at-end}
use Rattle.census_readback.specs.Steps.{initial_reading}
use Rattle.census_readback.specs.Told.{nothing_told}
use Rattle.census_readback.proofs.reading.read_report.Goals as goal

read-of : {P : Type 0} (fault : Option ℕ) (Q : ℕ → Type 0) → fault ≡ None → MatchOption fault P Q → P
read-of None Q e h = h
read-of (Some line) Q e h = absurd (cc)

pub returns-in_ok-read_rows-in-None-clause-sound : goal.returns-in_ok-read_rows-in-None-clause-sound
returns-in_ok-read_rows-in-None-clause-sound c =
    let read = c.in_ok-line.ensures.sound in
    let there : (rows : List Row) × ReadsAsReports rows c.args.text.now = read-of c.in_ok-line.field-0 _ c.in-None.is read in
    let is = there.1 in
    let front = c.in_ok-read_rows-in-None.ensures.0 in
    let rows = front.rows in
    let same = front.all there.0 [] is.lines (is.whole ∙ sym (append-nil (text_of there.0))) stuck-at-end in (
      rows,
      record {
        lines = front.lines;
        whole = front.whole ∙ ap (λ (t : List ℕ). text_of rows ++ t) same.1 ∙ append-nil (text_of rows);
        shape = reports-sound rows (stray-same nothing_told initial_reading 1 rows there.0 same.0 ∙ reports-complete there.0 is.shape);
      },
      c.in_ok-read_rows-in-None.ensures.1,
    )

pub returns-in_ok-read_rows-in-None-clause-all : goal.returns-in_ok-read_rows-in-None-clause-all
returns-in_ok-read_rows-in-None-clause-all c = λ told is.
    let front = c.in_ok-read_rows-in-None.ensures.0 in
    (front.rows, (front.all told [] is.lines (is.whole ∙ sym (append-nil (text_of told))) stuck-at-end).0, c.in_ok-read_rows-in-None.ensures.1)
