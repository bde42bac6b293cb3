use Rattle.std.proofs.Common.{◌<◌, ◌++◌, ap, subst, ◌∙◌, sym, rules}
use Rattle.std.specs.Prelude.{All}
use Rattle.std.specs.List.Sorted.{IsNonDecreasingBy}
use Rattle.std.proofs.lemmas.List.Sorted.{IsNonDecreasingBy-from_sort_by_key}
use Rattle.life_cells.specs.Limits.{extent_limit}
use Rattle.life_cells.specs.Dots.{dots_value, values_text}
use Rattle.life_cells.proofs.StripLists.{value_of_dots, dots_live, dots_placed, dots_left, dots_text}
use Rattle.life_cells.proofs.writer.push_strip.Goals as goal

pub push_columns-requires-clause-sorted : goal.push_columns-requires-clause-sorted
push_columns-requires-clause-sorted c =
    subst (IsNonDecreasingBy (λ d. d.0)) (sym c.deref.ensures.value) (IsNonDecreasingBy-from_sort_by_key (λ d. d.0) _ c.sort_unstable_by_key.ensures.sorted (λ a r q k. search rules))

pub push_columns-requires-clause-live : goal.push_columns-requires-clause-live
push_columns-requires-clause-live c =
    subst (All (λ d. 0 < d.1)) (sym c.deref.ensures.value) (dots_live c.args.strip _ _ _ c.requires.placed c.in_ok-dots.ensures c.sort_unstable_by_key.ensures.permutation)

pub push_columns-requires-clause-small : goal.push_columns-requires-clause-small
push_columns-requires-clause-small c = λ x.
    subst (λ n. n < 36) (sym (ap (λ ds. dots_value ds x) c.deref.ensures.value ∙ value_of_dots c.args.strip _ _ _ c.requires.placed c.in_ok-dots.ensures c.sort_unstable_by_key.ensures.permutation x)) (c.requires.small x)

pub push_columns-requires-clause-placed : goal.push_columns-requires-clause-placed
push_columns-requires-clause-placed c =
    subst (All (λ d. d.0 < extent_limit)) (sym c.deref.ensures.value) (dots_placed c.args.strip _ _ _ c.requires.placed c.in_ok-dots.ensures c.sort_unstable_by_key.ensures.permutation)

pub returns : goal.returns
returns c = λ wide all.
    let dots = c.in_ok-dots.ensures in
    let moved = c.sort_unstable_by_key.ensures.permutation in
    c.in_ok-push_columns.ensures wide (subst (All (λ d. d.0 < wide)) (sym c.deref.ensures.value) (dots_left c.args.strip _ _ _ c.requires.placed dots moved wide all))
    ∙ ap (λ t. c.args.text.now.items ++ t) (ap (λ ds. values_text (dots_value ds) wide) c.deref.ensures.value ∙ dots_text c.args.strip _ _ _ c.requires.placed dots moved wide)
