use Rattle.std.proofs.Common.{◌≡◌, w64}
use Rattle.std.specs.Fmt.{signed_decimal}
use Rattle.std.proofs.lemmas.Int.{to_z-of_z}
use Rattle.census_rows.proofs.Blanks.{signed-plain}
use Rattle.census_rows.proofs.read.Fields.signed.Goals as goal

pub returns-in-Some-clause-all : goal.returns-in-Some-clause-all
returns-in-Some-clause-all c = λ number after whole small ends e.
    let taken = c.field.ensures.all (signed_decimal number) after whole (signed-plain number small) ends e in
    let told = c.signed_of.ensures.all number small taken.1 in
    let same : c.in-Some.number ≡ number = cc (told, c.in-Some.is) in
    (taken.0, rw same (to_z-of_z w64 number small), taken.2)

pub returns-in-None-clause-all : goal.returns-in-None-clause-all
returns-in-None-clause-all c = λ number after whole small ends e.
    let taken = c.field.ensures.all (signed_decimal number) after whole (signed-plain number small) ends e in
    let told = c.signed_of.ensures.all number small taken.1 in
    absurd (cc (told, c.in-None.is))
