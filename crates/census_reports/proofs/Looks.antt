-- What is written of texts that are looked at.
use Rattle.std.proofs.Common.{ℕ, Bool, List}
use Rattle.watched.specs.Streams.{Sink}
use Rattle.census_reports.specs.Looking.{WritesRead}
use Rattle.census_reports.specs.Mending.{AreLookedAt}
use Rattle.census_reports.specs.Written.{WritesTexts}
use Rattle.census_reports.specs.declared.form.Form.{Form}
use Rattle.census_reports.specs.declared.reading.Written.{Written}

pub looked-writes : (form : Form) (cut : Bool) (result : Written) (texts looked : List (List ℕ)) (a b : Sink) → AreLookedAt cut texts looked result.cuts.items
    → WritesTexts form result.found looked a b → WritesRead form cut result texts a b
looked-writes form cut result texts looked a b are h = record { looked = looked; looked_at = are; writes = h }
