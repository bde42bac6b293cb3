use Rattle.std.proofs.Common.{◌≡◌, ◌+◌, ◌-◌, ◌<◌, ◌≤◌, ◌++◌, ◌∷◌, [], length, get_or, drop, ap, subst, ◌∙◌, sym, refl, arith, append-nil}
use Rattle.std.specs.Prelude.{All}
use Rattle.std.specs.List.Sorted.{IsNonDecreasingBy}
use Rattle.std.proofs.lemmas.Bool.Decides.{nat_tests}
use Rattle.std.proofs.lemmas.List.Elements.{All-drop, All-weaker}
use Rattle.life_cells.specs.Limits.{extent_limit}
use Rattle.life_cells.specs.Dots.{dots_value}
use Rattle.life_cells.proofs.Columns.{columns_turn, columns_none}
use Rattle.life_cells.proofs.DotLists.{sorted_drop, from_first, none_left, no_dots, value_some, value_drop}
use Rattle.life_cells.proofs.writer.push_columns.Goals as goal

pub columns-preserved : goal.columns-preserved
columns-preserved c =
    let rest = c.columns.rest.now in
    let some : 0 < length rest = grind (arith, nat_tests) in
    let n = c.first_column-value.result.1 in
    let e = c.split_at.ensures.back in
    let inv = c.columns.invariant in
    let p = (get_or rest 0 (0, 0)).0 in
    let first = inv.ahead 0 (0, 0) some in
    let one = c.first_column-value.ensures in
    let live = value_some (0, 0) rest some inv.live in
    record {
      sorted = subst (IsNonDecreasingBy (λ d. d.0)) (sym e) (sorted_drop n rest inv.sorted);
      live = subst (All (λ d. 0 < d.1)) (sym e) (All-drop (λ d. 0 < d.1) n rest inv.live);
      small = λ x. let h = inv.small x in let l = value_drop x n rest in rw e (omega arith);
      placed = subst (All (λ d. d.0 < extent_limit)) (sym e) (All-drop (λ d. d.0 < extent_limit) n rest inv.placed);
      ahead = subst (All (λ d. p + 1 ≤ d.0)) (sym e) (All-weaker (λ d. p < d.0) (λ d. p + 1 ≤ d.0) (λ d h. omega arith) (drop n rest) one.behind);
      values = λ x h. inv.values x (omega arith) ∙ sym (one.others x (omega arith)) ∙ ap (λ ds. dots_value ds x) (sym e);
      columns = λ wide all. subst (All (λ d. d.0 < wide)) (sym e) (All-drop (λ d. d.0 < wide) n rest (inv.columns wide all));
      text = λ wide all.
          columns_turn (dots_value c.args.dots.now) c.columns.written p wide (p - c.columns.written) c.first_column-value.result.0 _ c.columns.text.items _ first
          (inv.columns wide all 0 (0, 0) some) refl
          (λ q a b. inv.values q a ∙ none_left q p rest (from_first (0, 0) rest inv.sorted) b)
          (inv.values p first ∙ sym one.value) (omega arith) (inv.text wide all)
          (c.in_ok-push.ensures.items ∙ (λ i. c.in_ok-push_zeros.ensures i ++ c.digit.ensures i ∷ []));
    }

pub returns : goal.returns
returns c = λ wide all.
    let rest = c.columns.rest.now in
    let none : length rest ≡ 0 = grind (arith, nat_tests) in
    let v = dots_value c.args.dots.now in
    sym (append-nil c.columns.text.items)
    ∙ ap (λ t. c.columns.text.items ++ t) (sym (columns_none v c.columns.written (wide - c.columns.written) 0 (λ q a b. c.columns.invariant.values q a ∙ no_dots q rest (λ k d l. absurd (omega arith)))))
    ∙ sym (c.columns.invariant.text wide all)
