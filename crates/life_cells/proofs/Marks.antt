-- The marks at a place of a text.
use Rattle.std.proofs.Common.{◌≡◌, ℕ, ◌+◌, ◌<◌, ◌≤◌, Bool, true, false, List, [], ◌∷◌, length, get_or, drop, Option, Some, None, if◌then◌else◌, refl, ap, ◌∙◌, arith}
use Rattle.std.specs.Prelude.{◌==◌}
use Rattle.std.proofs.lemmas.Bool.Decides.{nat_tests}
use Rattle.std.proofs.lemmas.List.{drop_more, drop_all}
use Rattle.life_cells.specs.declared.reader.CodeFault.TheVariants.{BadChar, CutRun}
use Rattle.life_cells.specs.CodeReading.{Column, Zeros, NextStrip, Offence, digit_value, is_base_36_digit, marks, mark_of_byte, mark_of_run}
use Rattle.life_cells.specs.Drawing.{marks_at}

is_y : (c : ℕ) → c ≡ 121 → (c == 121) ≡ true
is_y c e = grind (arith, nat_tests)

pub mark_here : (text : List ℕ) (at : ℕ) → at < length text → (get_or text at 0 == 121) ≡ false → marks_at text at ≡ mark_of_byte at (get_or text at 0) ∷ marks_at text (at + 1)
mark_here text at h e =
    let c = get_or text at 0 in
    ap (marks None at) (drop_more text at 0 h)
    ∙ ap (λ b. if b then marks (Some at) (at + 1) (drop (at + 1) text) else mark_of_byte at c ∷ marks None (at + 1) (drop (at + 1) text)) e

run_behind : (text : List ℕ) (at : ℕ) → at < length text → get_or text at 0 ≡ 121 → marks_at text at ≡ marks (Some at) (at + 1) (drop (at + 1) text)
run_behind text at h e =
    let c = get_or text at 0 in
    ap (marks None at) (drop_more text at 0 h)
    ∙ ap (λ b. if b then marks (Some at) (at + 1) (drop (at + 1) text) else mark_of_byte at c ∷ marks None (at + 1) (drop (at + 1) text)) (is_y c e)

pub run_cut : (text : List ℕ) (at : ℕ) → at < length text → get_or text at 0 ≡ 121 → length text ≤ at + 1 → marks_at text at ≡ Offence (CutRun at) ∷ []
run_cut text at h e k = run_behind text at h e ∙ ap (marks (Some at) (at + 1)) (drop_all (at + 1) text k)

pub run_here : (text : List ℕ) (at : ℕ) → at + 1 < length text → get_or text at 0 ≡ 121 → marks_at text at ≡ mark_of_run at (get_or text (at + 1) 0) ∷ marks_at text (at + 2)
run_here text at h e =
    run_behind text at (omega arith) e ∙ ap (marks (Some at) (at + 1)) (drop_more text (at + 1) 0 h)
    ∙ ap (λ n. mark_of_run at (get_or text (at + 1) 0) ∷ marks None n (drop n text)) (let two : at + 1 + 1 ≡ at + 2 = omega arith in two)

-- ---- bytes that are not digits

no_value : (b : Bool) (v : ℕ) (r : Option ℕ) → r ≡ (if b then Some v else None) → r ≡ None → b ≡ false
no_value true v r e n = cc
no_value false v r e n = refl

pub no_digit : (c : ℕ) (r : Option ℕ) → r ≡ (if is_base_36_digit c then Some (digit_value c) else None) → r ≡ None → is_base_36_digit c ≡ false
no_digit c r e n = no_value (is_base_36_digit c) (digit_value c) r e n

pub run_of_other : (at c : ℕ) → is_base_36_digit c ≡ false → mark_of_run at c ≡ Offence (CutRun at)
run_of_other at c e = ap (λ b. if b then Zeros (4 + digit_value c) else Offence (CutRun at)) e

pub mark_of_other : (at c : ℕ) → is_base_36_digit c ≡ false → mark_of_byte at c ≡ Offence (BadChar at)
mark_of_other at c e = ap (λ b. if b then (if c == 122 then NextStrip else (if c == 119 then Zeros 2 else (if c == 120 then Zeros 3 else Column at (digit_value c)))) else Offence (BadChar at)) e
