use Rattle.std.proofs.Common.{◌≡◌, ap, ◌∙◌, ◌+◌, ◌<◌, ◌∷◌, get_or, length, sym, arith}
use Rattle.std.specs.Prelude.{◌==◌, false}
use Rattle.std.proofs.lemmas.Bool.Decides.{nat_tests}
use Rattle.life_cells.specs.Drawing.{marks_at}
use Rattle.life_cells.specs.CodeReading.{mark_of_run}
use Rattle.life_cells.proofs.Marks.{mark_here, run_here, no_digit, run_of_other, mark_of_other}
use Rattle.life_cells.proofs.reader.next_sign.Goals as goal

pub returns-in_default-digit_value-clause-refused : goal.returns-in_default-digit_value-clause-refused
returns-in_default-digit_value-clause-refused c =
    let text = c.args.text.now in
    let at = c.args.at in
    let look = c.in-Some.ensures.lookup in
    let within : at + 1 < length text = look.3.0 in
    let byte : c.in-Some.byte.now ≡ get_or text (at + 1) 0 = look.3.1 0 in (
      marks_at text (at + 2),
      run_here text at within c.if-text-at-eq121.true
          ∙ ap (λ m. m ∷ marks_at text (at + 2)) (ap (λ b. mark_of_run at b) (sym byte) ∙ run_of_other at c.in-Some.byte.now (no_digit c.in-Some.byte.now _ c.digit_value.ensures c.in_default-digit_value.is)),
    )

pub returns-in_default-digit_value-2-clause-refused : goal.returns-in_default-digit_value-2-clause-refused
returns-in_default-digit_value-2-clause-refused c =
    let text = c.args.text.now in
    let at = c.args.at in
    let other : (get_or text at 0 == 121) ≡ false = grind (arith, nat_tests) in (
      marks_at text (at + 1),
      mark_here text at c.requires other
          ∙ ap (λ m. m ∷ marks_at text (at + 1)) (mark_of_other at (get_or text at 0) (no_digit (get_or text at 0) _ c.digit_value-2.ensures c.in_default-digit_value-2.is)),
    )
