use Rattle.std.proofs.Common.{◌≡◌, ◌+◌, ◌<◌, ◌-◌, ◌≤◌, List, ℕ, false, length, take, drop, length-drop, eqb, ap, sym, ◌∙◌, subst, arith, rules}
use Rattle.std.proofs.lemmas.Bool.{or_parts, eqb-false}
use Rattle.std.proofs.lemmas.List.{take_rest}
use Rattle.census_bundle.specs.Scan.{line_len, IsTextOf, begins_section}
use Rattle.census_bundle.specs.Lines.{is_at_line}
use Rattle.census_bundle.proofs.Splits.{text_step, line_len_some}
use Rattle.census_bundle.proofs.lines.split_text.Goals as goal

pub loop-len-preserved : goal.loop-len-preserved
loop-len-preserved c =
    let whole = c.args.whole.now in
    let rest = drop c.loop-len.len whole in
    let same : take (length whole - c.loop-len.len) rest ≡ rest = take_rest whole c.loop-len.len in
    let closed : begins_section (take (length whole - c.loop-len.len) rest) ≡ false = search rules in
    let tests = or_parts (eqb (length rest) 0) (is_at_line rest) (ap begins_section (sym same) ∙ closed) in
    let some : 0 < length rest = omega (arith, eqb-false (length rest) 0 tests.0) in
    let more = line_len_some rest some in
    let value : c.line_len-len.result ≡ line_len rest = c.line_len-len.ensures.value ∙ ap line_len same in
    let within : c.line_len-len.result ≤ length rest = subst (λ (xs : List ℕ). c.line_len-len.result ≤ length xs) same c.line_len-len.ensures.within in
    record {
      within = omega (arith, within, length-drop c.loop-len.len whole);
      few = omega (arith, value, more);
      reads = subst (λ k. IsTextOf whole (record { text = take (c.loop-len.len + k) whole; lines = c.loop-len.lines + 1; rest = drop (c.loop-len.len + k) whole })) (sym value) (text_step whole c.loop-len.len c.loop-len.lines some tests.1 c.loop-len.invariant.reads);
    }
