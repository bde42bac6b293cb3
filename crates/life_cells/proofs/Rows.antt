-- Worked rows, by computing the definitions.
use Rattle.std.specs.Prelude.{◌≡◌, [], ◌∷◌, Some, None, codes, refl}
use Rattle.life_cells.specs.declared.reader.CodeFault.TheVariants.{Empty, BadChar, CutRun}
use Rattle.life_cells.specs.CodeReading.{cells_after, marks_of, refusal}
use Rattle.life_cells.specs.TextOrder.{body_of, least_text}
use Rattle.life_cells.specs.Wechsler.{columns_text, strips_text, zeros}

no_byte : refusal [] ≡ Some Empty
unfolding refusal
no_byte = refl

y_at_the_end : refusal (codes "y") ≡ Some (CutRun 0)
unfolding refusal
y_at_the_end = refl

y_before_another : refusal (codes "1yA") ≡ Some (CutRun 1)
unfolding refusal
y_before_another = refl

another_byte : refusal (codes "A") ≡ Some (BadChar 0)
unfolding refusal
another_byte = refl

any_spelling : refusal (codes "001wz0yz") ≡ None
unfolding refusal
any_spelling = refl

run_of_39 : cells_after [] (marks_of (codes "1yz1")) ≡ (0, 0) ∷ (40, 0) ∷ []
run_of_39 = refl

zeros_anywhere : cells_after [] (marks_of (codes "001w")) ≡ (2, 0) ∷ []
zeros_anywhere = refl

next_strip : cells_after [] (marks_of (codes "1z2")) ≡ (0, 0) ∷ (0, 6) ∷ []
next_strip = refl

glider : cells_after [] (marks_of (codes "153")) ≡ (0, 0) ∷ (1, 0) ∷ (1, 2) ∷ (2, 0) ∷ (2, 1) ∷ []
glider = refl

forty_zeros : zeros 40 ≡ codes "yz0"
forty_zeros = refl

seventy_eight_zeros : zeros 78 ≡ codes "yzyz"
seventy_eight_zeros = refl

columns : columns_text 0 (3 ∷ 3 ∷ 0 ∷ 0 ∷ 0 ∷ 0 ∷ 0 ∷ 0 ∷ 3 ∷ 3 ∷ 0 ∷ 0 ∷ []) ≡ codes "33y233"
columns = refl

no_strip : strips_text (λ _. codes "7") 0 ≡ codes "0"
no_strip = refl

three_strips : strips_text (λ _. codes "7") 3 ≡ codes "7z7z7"
three_strips = refl

shortest : least_text (codes "33zzz33" ∷ codes "33y933" ∷ codes "35" ∷ codes "33" ∷ codes "34" ∷ []) ≡ codes "33"
shortest = refl

body : body_of (codes "xq4_15_3") ≡ codes "15_3"
body = refl

no_mark : body_of (codes "153") ≡ codes "153"
no_mark = refl
