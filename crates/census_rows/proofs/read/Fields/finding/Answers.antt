use Rattle.std.proofs.Common.{◌≡◌, ◌++◌, ◌∷◌, List, ℕ, [], true, decimal, refl, to_z, of_z, w64}
use Rattle.std.specs.Fmt.{signed_decimal}
use Rattle.std.proofs.lemmas.Int.{to_z-of_z}
use Rattle.census_rows.specs.declared.row.Finding.{Finding}
use Rattle.census_rows.specs.declared.row.Finding.TheVariants as finding
use Rattle.census_rows.specs.Kinds.{said_of, texts_of}
use Rattle.census_rows.specs.Lines.{AreFields, SameSaid, EndsField, fields_text}
use Rattle.census_rows.proofs.FieldTexts.{more-fields, first-field}
use Rattle.census_rows.proofs.read.Fields.finding.Goals as goal

pub returns-then-are_same-clause-sound : goal.returns-then-are_same-clause-sound
returns-then-are_same-clause-sound c = λ whole.
    let g5 = c.word.ensures.sound whole in
    let g4 = c.signed-then-are_same.ensures.sound g5.0 in
    let g3 = c.signed.ensures.sound g4.0 in
    let g2 = c.number-then-are_same.ensures.sound g3.0 in
    let g1 = c.number.ensures.sound g2.0 in
    let r : List ℕ = c.word.new.self.rest.now in
    let f5 = c.word.result.now ∷ [] in
    let f4 = signed_decimal c.signed-then-are_same.result ∷ f5 in
    let f3 = signed_decimal c.signed.result ∷ f4 in
    let f2 = decimal c.number-then-are_same.result ∷ f3 in
    let tail5 = more-fields c.word.result.now [] _ r r g5.2 refl in
    let tail4 = more-fields (signed_decimal c.signed-then-are_same.result) f5 _ _ r g4.2 tail5 in
    let tail3 = more-fields (signed_decimal c.signed.result) f4 _ _ r g3.2 tail4 in
    let tail2 = more-fields (decimal c.number-then-are_same.result) f3 _ _ r g2.2 tail3 in
    let tail1 = more-fields (decimal c.number.result) f2 _ _ r g1.2 tail2 in
    let x = to_z-of_z w64 c.signed.result g3.1 in
    let y = to_z-of_z w64 c.signed-then-are_same.result g4.1 in
    rw (x, y) (g1.0, c.are_same.ensures.yes c.if-are_same.true, (g1.1, (g2.1, (g3.1, (g4.1, (g5.1, tt))))), tail1, λ ends. g5.3)

-- what begins with `ok` is read field by field
read-ok : (c : goal.After-word) (f : Finding) (after : List ℕ) → c.args.self.now.whole ≡ true → AreFields (said_of f).fields → EndsField after
    → c.args.word.now ≡ (said_of f).word → c.args.self.now.rest.now ≡ fields_text (texts_of (said_of f).fields) ++ after
    → (c.word.new.self.whole ≡ true)
    × SameSaid (said_of (finding.Ok c.number.result c.number-then-are_same.result (to_z w64 (of_z w64 c.signed.result)) (to_z w64 (of_z w64 c.signed-then-are_same.result)) c.word.result)) (said_of f)
    × (c.word.new.self.rest.now ≡ after)
read-ok c (finding.Ok onset period dx dy code) after whole is ends told begins =
    let f5 = code.now ∷ [] in
    let f4 = signed_decimal dy ∷ f5 in
    let f3 = signed_decimal dx ∷ f4 in
    let f2 = decimal period ∷ f3 in
    let s1 = c.number.ensures.all onset (fields_text f2 ++ after) whole is.0 refl (first-field (decimal onset) f2 _ after begins) in
    let s2 = c.number-then-are_same.ensures.all period (fields_text f3 ++ after) s1.0 is.1.0 refl (first-field (decimal period) f3 _ after s1.2) in
    let s3 = c.signed.ensures.all dx (fields_text f4 ++ after) s2.0 is.1.1.0 refl (first-field (signed_decimal dx) f4 _ after s2.2) in
    let s4 = c.signed-then-are_same.ensures.all dy (fields_text f5 ++ after) s3.0 is.1.1.1.0 refl (first-field (signed_decimal dy) f5 _ after s3.2) in
    let s5 = c.word.ensures.all code.now after s4.0 is.1.1.1.1.0 ends (first-field code.now [] _ after s4.2) in
    let x : to_z w64 (of_z w64 c.signed.result) ≡ dx = rw s3.1 (to_z-of_z w64 dx is.1.1.0) in
    let y : to_z w64 (of_z w64 c.signed-then-are_same.result) ≡ dy = rw s4.1 (to_z-of_z w64 dy is.1.1.1.0) in
    (s5.0, (refl, refl, refl, (refl, s1.1, (refl, s2.1, (refl, x, (refl, y, (refl, s5.1, tt)))))), s5.2)
read-ok c (finding.Ash onset objects) after whole is ends told begins = absurd (cc (told, c.are_same.ensures.yes c.if-are_same.true))
read-ok c finding.Unresolved after whole is ends told begins = absurd (cc (told, c.are_same.ensures.yes c.if-are_same.true))
read-ok c (finding.Large generation) after whole is ends told begins = absurd (cc (told, c.are_same.ensures.yes c.if-are_same.true))
read-ok c (finding.Grows engines) after whole is ends told begins = absurd (cc (told, c.are_same.ensures.yes c.if-are_same.true))

pub returns-then-are_same-clause-all : goal.returns-then-are_same-clause-all
returns-then-are_same-clause-all c = λ f after whole is ends told begins. read-ok c f after whole is ends told begins
