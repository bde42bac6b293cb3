use Rattle.std.proofs.Common.{◌≡◌, ◌<◌, ◌^◌, ℤ, pos, FitsSigned, w64, sym, ◌∙◌, refl, arith}
use Rattle.std.proofs.lemmas.Int.{to_z-of_z}
use lib.IntN.{negsuc}
use lib.Signed.{mag}
use Rattle.std.specs.Fmt.{signed_decimal}
use Rattle.std.proofs.lemmas.Fmt.{IsAscii-signed, parse-signed_decimal}
use Rattle.std.proofs.lemmas.Str.{IsUtf8-from_ascii}
use Rattle.std.proofs.lemmas.Slice.Eq.{slice_eq-Decides}
use Rattle.std.proofs.lemmas.Bool.Decides.{Decides-eqb}
use Rattle.census_rows.proofs.numbers.signed_of.Goals as goal

mag-small : (z : ℤ) → FitsSigned w64 z → mag z < 2 ^ 63
mag-small (pos n) h = omega (arith, h)
mag-small (negsuc n) h = omega (arith, h)

pub returns-in_default-clause-all : goal.returns-in_default-clause-all
returns-in_default-clause-all c = λ n small e.
    absurd (c.in_default.ensures.cases.0 (rw e (IsUtf8-from_ascii (signed_decimal n) (IsAscii-signed n (mag-small n small)))))

pub returns-in_default-parse-clause-all : goal.returns-in_default-parse-clause-all
returns-in_default-parse-clause-all c = λ n small e.
    let gives = parse-signed_decimal w64 n c.in-Ok.text.now c.parse.result small (mag-small n small) (c.in-Ok.ensures.cases.0 ∙ e) c.parse.ensures.value.0 in
    cc

pub returns-then-eq-clause-all : goal.returns-then-eq-clause-all
returns-then-eq-clause-all c = λ n small e.
    let gives = parse-signed_decimal w64 n c.in-Ok.text.now c.parse.result small (mag-small n small) (c.in-Ok.ensures.cases.0 ∙ e) c.parse.ensures.value.0 in
    let same : c.in-Ok-parse.number ≡ n = cc in
    rw (same, to_z-of_z w64 n small) refl

pub returns-else-eq-clause-all : goal.returns-else-eq-clause-all
returns-else-eq-clause-all c = λ n small e.
    let gives = parse-signed_decimal w64 n c.in-Ok.text.now c.parse.result small (mag-small n small) (c.in-Ok.ensures.cases.0 ∙ e) c.parse.ensures.value.0 in
    let same : c.in-Ok-parse.number ≡ n = cc in
    let told = slice_eq-Decides Decides-eqb c.as_bytes.result.now c.args.field.now c.eq.result c.eq.ensures in
    let equal : c.as_bytes.result.now ≡ c.args.field.now = c.as_bytes.ensures.value ∙ c.format.ensures.text ∙ rw (same, to_z-of_z w64 n small) (sym e) in
    let yes = told.1 equal in
    cc
