use Rattle.std.proofs.Common.{◌≡◌, ◌++◌, length, take, sym, ap, subst, ◌∙◌, arith}
use Rattle.std.specs.Ordering.{nat_cmp}
use Rattle.std.specs.Cmp.Lexicographic.{slice_cmp}
use Rattle.life_codes.specs.Least.{with_text}
use Rattle.life_codes.proofs.Firsts.{begun_stays}
use Rattle.life_codes.proofs.choice.Choice.is_begun_before.Goals as goal
use Rattle.life_cells.proofs.Sorted.{less_from}

pub returns : goal.returns
returns c = λ yes rest long.
    let start = c.args.start.now in
    let text = c.self.inside.text.items in
    let same : length text ≡ length (start ++ rest) = omega (arith, c.len.ensures, c.if-len-bytes.false, long, c.self.inside.text.ok.0) in
    subst (λ v. with_text v (start ++ rest) ≡ v) c.self.view_is (begun_stays c.self.inside.some text start rest c.if-not-self.false same (ap (λ t. slice_cmp nat_cmp (take (length start) t) start) (sym c.deref.ensures.value) ∙ sym c.cmp.ensures ∙ less_from c.cmp.result (sym c.is_lt.ensures ∙ yes)))
