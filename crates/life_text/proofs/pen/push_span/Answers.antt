use Rattle.std.proofs.Common.{◌≡◌, ◌∷◌, [], ◌++◌, ◌+◌, map, pos, ℤ, sym, ap, ◌∙◌, arith, append_assoc, List}
use Rattle.std.specs.List.{range_with_len}
use Rattle.life_text.proofs.SpanLemmas.{cells_more, placed_span}
use Rattle.life_text.proofs.pen.push_span.Goals as goal

pub loop-step-preserved : goal.loop-step-preserved
loop-step-preserved c =
    let x = c.args.x in
    let y = c.args.y in
    let step = c.loop-step.step in
    let old : List (ℤ × ℤ) = c.args.cells.now.items in
    let drawn : List (ℤ × ℤ) = map {B = ℤ × ℤ} (λ k. (pos k, pos y)) (range_with_len x step) in
    c.in_ok-push.ensures.items ∙ ap (λ (cs : List (ℤ × ℤ)). cs ++ c.cell.result ∷ []) c.loop-step.invariant ∙ ap (λ (p : ℤ × ℤ). (old ++ drawn) ++ p ∷ []) c.cell.ensures
    ∙ append_assoc old drawn ((pos (x + step), pos y) ∷ []) ∙ ap (λ (cs : List (ℤ × ℤ)). old ++ cs) (sym (cells_more x step y))

pub returns : goal.returns
returns c =
    let all : c.loop-step.step ≡ c.args.found.now.times = omega arith in
    c.loop-step.invariant
    ∙ ap (λ n. c.args.cells.now.items ++ map {B = ℤ × ℤ} (λ k. (pos k, pos c.args.y)) (range_with_len c.args.x n)) all
    ∙ ap (λ (cs : List (ℤ × ℤ)). c.args.cells.now.items ++ cs) (sym (placed_span c.args.y c.args.x c.args.found.now c.requires.once c.requires.live))
