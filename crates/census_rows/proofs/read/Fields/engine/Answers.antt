use Rattle.std.proofs.Common.{◌++◌, ◌∷◌, ℕ, List, [], ap, codes, decimal, refl, w64}
use Rattle.std.specs.Fmt.{signed_decimal}
use Rattle.std.proofs.lemmas.Int.{to_z-of_z}
use Rattle.census_rows.proofs.FieldTexts.{more-fields}
use Rattle.census_rows.proofs.read.Fields.engine.Goals as goal

pub returns-clause-sound : goal.returns-clause-sound
returns-clause-sound c = λ whole.
    let g7 = c.number-5.ensures.sound whole in
    let g6 = c.signed-2.ensures.sound g7.0 in
    let g5 = c.signed.ensures.sound g6.0 in
    let g4 = c.number-4.ensures.sound g5.0 in
    let g3 = c.number-3.ensures.sound g4.0 in
    let g2 = c.number-2.ensures.sound g3.0 in
    let g1 = c.number.ensures.sound g2.0 in
    let r : List ℕ = c.number-5.new.self.rest.now in
    let f7 = decimal c.number-5.result ∷ [] in
    let f6 = signed_decimal c.signed-2.result ∷ f7 in
    let f5 = signed_decimal c.signed.result ∷ f6 in
    let f4 = decimal c.number-4.result ∷ f5 in
    let f3 = decimal c.number-3.result ∷ f4 in
    let f2 = decimal c.number-2.result ∷ f3 in
    let tail7 = more-fields (decimal c.number-5.result) [] _ r r g7.2 refl in
    let tail6 = more-fields (signed_decimal c.signed-2.result) f7 _ _ r g6.2 tail7 in
    let tail5 = more-fields (signed_decimal c.signed.result) f6 _ _ r g5.2 tail6 in
    let tail4 = more-fields (decimal c.number-4.result) f5 _ _ r g4.2 tail5 in
    let tail3 = more-fields (decimal c.number-3.result) f4 _ _ r g3.2 tail4 in
    let tail2 = more-fields (decimal c.number-2.result) f3 _ _ r g2.2 tail3 in
    let tail1 = more-fields (decimal c.number.result) f2 _ _ r g1.2 tail2 in
    let x = to_z-of_z w64 c.signed.result g5.1 in
    let y = to_z-of_z w64 c.signed-2.result g6.1 in
    rw (x, y) (g1.0, (g1.1, g2.1, g3.1, g4.1, g5.1, g6.1, g7.1), ap (λ w. codes "engine" ++ w) tail1)
