use Rattle.std.proofs.Common.{◌≡◌, ℕ, ◌+◌, ◌*◌, ◌++◌, pos, ◌≤ℤ◌, T, drop, ap, subst, ◌∙◌, sym, arith}
use Rattle.std.specs.Prelude.{All}
use Rattle.std.proofs.lemmas.List.Elements.{All-drop, All-take}
use Rattle.life_model.specs.Generation.{is_rising}
use Rattle.life_cells.specs.Dots.{IsInField, IsLeftOf, weights, values_text}
use Rattle.life_cells.proofs.Columns.{joined, joined_turn, strips_text_is}
use Rattle.life_cells.proofs.Weights.{weights-lt}
use Rattle.life_cells.proofs.StripLists.{rising_drop, weights_behind, behind_strip, strips_small, text_of_part}
use Rattle.life_cells.proofs.writer.text_of.Goals as goal

pub push_strip-requires-clause-small : goal.push_strip-requires-clause-small
push_strip-requires-clause-small c = λ x.
    strips_small c.strips.strip x _ c.strips.rest.now _ c.split_at.ensures.front (weights-lt c.strips.strip c.strips.rest.now c.strips.invariant.rising x)

pub strips-preserved : goal.strips-preserved
strips-preserved c =
    let rest = c.strips.rest.now in
    let n = c.count_within.result in
    let s = c.strips.strip in
    let e = c.split_at.ensures.back in
    let inv = c.strips.invariant in
    record {
      rising = subst (λ cs. T (is_rising cs)) (sym e) (rising_drop n rest inv.rising);
      placed = subst (All IsInField) (sym e) (All-drop IsInField n rest inv.placed);
      below = subst (All (λ d. pos (5 * (s + 1)) ≤ℤ d.1)) (sym e) (behind_strip s (drop n rest) c.count_within.ensures.below);
      values = λ k x h. inv.values k x (omega arith) ∙ sym (weights_behind s k x n rest h c.count_within.ensures.above) ∙ ap (λ cs. weights k cs x) (sym e);
      columns = λ wide all. subst (All (IsLeftOf wide)) (sym e) (All-drop (IsLeftOf wide) n rest (inv.columns wide all));
      text = λ wide all.
          joined_turn (λ k. values_text (weights k c.args.cells.now) wide) s c.strips.text.items _ _ (inv.text wide all)
          (text_of_part s wide n c.args.cells.now rest _ c.split_at.ensures.front c.count_within.ensures.below (λ x. inv.values s x (omega arith)))
          (c.in_ok-push_strip.ensures wide (subst (All (IsLeftOf wide)) (sym c.split_at.ensures.front) (All-take (IsLeftOf wide) n rest (inv.columns wide all)))
          ∙ ap (λ t. t ++ values_text (weights s c.split_at.result.0.now) wide) c.in_ok-begin_strip.ensures);
    }

pub returns : goal.returns
returns c = λ wide all.
    let text = λ (k : ℕ). values_text (weights k c.args.cells.now) wide in
    let last : c.strips.strip ≡ c.args.strips = omega arith in
    c.strips.invariant.text wide all ∙ ap (joined text) last ∙ strips_text_is text c.args.strips (omega arith)
