use Rattle.std.proofs.Common.{◌≡◌, decimal}
use Rattle.census_rows.proofs.Blanks.{decimal-plain}
use Rattle.census_rows.proofs.read.Fields.number.Goals as goal

pub returns-in-Some-clause-all : goal.returns-in-Some-clause-all
returns-in-Some-clause-all c = λ number after whole small ends e.
    let taken = c.field.ensures.all (decimal number) after whole (decimal-plain number small) ends e in
    let told = c.number_of.ensures.all number small taken.1 in
    let same : c.in-Some.number ≡ number = cc (told, c.in-Some.is) in
    (taken.0, same, taken.2)

pub returns-in-None-clause-all : goal.returns-in-None-clause-all
returns-in-None-clause-all c = λ number after whole small ends e.
    let taken = c.field.ensures.all (decimal number) after whole (decimal-plain number small) ends e in
    let told = c.number_of.ensures.all number small taken.1 in
    absurd (cc (told, c.in-None.is))
