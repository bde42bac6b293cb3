-- What reading a whole text gives.
use Rattle.std.proofs.Common.{◌≡◌, ◌≢◌, ℕ, ◌+◌, ◌≤◌, ℤ, pos, neg_ℤ, ◌+ℤ◌, ◌≤ℤ◌, ◌<ℤ◌, List, [], ◌∷◌, length, Some, None, Ok, Err, refl, sym, ap, ◌∙◌, arith}
use Rattle.std.specs.Prelude.{All}
use Rattle.std.proofs.lemmas.List.Elements.{recursion_from_All, All-weaker}
use Rattle.life_model.specs.Box.{width, height}
use Rattle.life_model.specs.Cell.{Cell}
use Rattle.life_model.specs.Generation.{Generation, contains, from_list}
use Rattle.life_model.proofs.Generations.{contains-from_list}
use Rattle.life_cells.specs.Limits.{IsPlace, IsWithin, extent_limit}
use Rattle.std.proofs.lemmas.Int.{ints}
use Rattle.life_cells.specs.declared.reader.CodeFault.{CodeFault}
use Rattle.life_cells.specs.declared.reader.CodeFault.TheVariants.{Empty}
use Rattle.life_cells.specs.CodeReading.{cells_spelled, refusal, first_fault, cells_after, marks_of}
use Rattle.life_cells.specs.Drawing.{cells_drawn, marks_at}
use Rattle.life_cells.proofs.Members.{holds_in}
use Rattle.life_cells.proofs.Boxes.{width_within, height_within}
use Rattle.life_cells.proofs.Drawings.{from_start, given_cells, given_fault}

pub refusal_empty : (text : List ℕ) → length text ≡ 0 → refusal text ≡ Some Empty
unfolding refusal
refusal_empty [] e = refl
refusal_empty (c ∷ text) e = absurd (omega arith)

refusal_first : (text : List ℕ) → length text ≢ 0 → refusal text ≡ first_fault [] (marks_of text)
unfolding refusal
refusal_first [] h = absurd (h refl)
refusal_first (c ∷ text) h = refl

pub told : (text : List ℕ) (fault : CodeFault) → length text ≢ 0 → cells_drawn 0 0 (marks_at text 0) ≡ Err fault → refusal text ≡ Some fault
told text fault h e = refusal_first text h ∙ given_fault _ (cells_after [] (marks_of text)) fault (sym (from_start text) ∙ e)

pub lawful : (text : List ℕ) (items : List Cell) → length text ≢ 0 → cells_drawn 0 0 (marks_at text 0) ≡ Ok items → refusal text ≡ None
lawful text items h e = refusal_first text h ∙ (given_cells _ (cells_after [] (marks_of text)) items (sym (from_start text) ∙ e)).0

pub spelt_is : (text : List ℕ) (items : List Cell) → cells_drawn 0 0 (marks_at text 0) ≡ Ok items → from_list items ≡ cells_spelled text
unfolding cells_spelled
spelt_is text items e = ap from_list (sym (given_cells _ (cells_after [] (marks_of text)) items (sym (from_start text) ∙ e)).1)

-- ---- cells within the limit of places

is_place : (c : Cell) → IsWithin 0 c → IsPlace c
is_place c h = record { left = omega (arith, ints); right = omega (arith, ints); above = omega (arith, ints); below = omega (arith, ints) }

pub all_placed : (cs : List Cell) → All (IsWithin 0) cs → All IsPlace cs
all_placed cs all = All-weaker (IsWithin 0) IsPlace is_place cs all

between : (z : ℤ) → neg_ℤ (pos 0) ≤ℤ z → z ≤ℤ pos (1048575 + 0) → (pos 0 ≤ℤ z) × (z <ℤ (pos 0 +ℤ pos extent_limit))
between z h k = (omega (arith, ints), omega (arith, ints))

pub width_of_list : (cs : List Cell) (G : Generation) → G ≡ from_list cs → All (IsWithin 0) cs → width G ≤ extent_limit
width_of_list cs G e all =
    width_within G (pos 0) extent_limit (λ c h.
    let w = holds_in (IsWithin 0) cs (recursion_from_All (IsWithin 0) cs all) c (sym (contains-from_list cs c) ∙ ap (λ H. contains H c) (sym e) ∙ h) in
    between c.0 w.left w.right)

pub height_of_list : (cs : List Cell) (G : Generation) → G ≡ from_list cs → All (IsWithin 0) cs → height G ≤ extent_limit
height_of_list cs G e all =
    height_within G (pos 0) extent_limit (λ c h.
    let w = holds_in (IsWithin 0) cs (recursion_from_All (IsWithin 0) cs all) c (sym (contains-from_list cs c) ∙ ap (λ H. contains H c) (sym e) ∙ h) in
    between c.1 w.above w.below)
