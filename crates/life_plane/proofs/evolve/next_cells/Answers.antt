use Rattle.std.proofs.Common.{◌≡◌, ◌+◌, T, filter, sym, ap, subst, ◌∙◌}
use Rattle.std.proofs.lemmas.List.{take_all}
use Rattle.std.proofs.lemmas.List.Elements.{All-filter, All-same}
use Rattle.life_model.specs.Generation.{from_list, is_rising}
use Rattle.life_model.specs.Evolution.{lives}
use Rattle.life_cells.specs.Limits.{IsWithin, age_limit}
use Rattle.life_plane.specs.Field.{has}
use Rattle.life_plane.proofs.Later.{within_candidates, rising-filter, next_by_filter, has_from_set}
use Rattle.life_plane.proofs.evolve.next_cells.Goals as goal
use Rattle.life_plane.proofs.evolve.next_cells.Goals.{After-drop-all-2}

pub lives_next-requires-clause-within : goal.lives_next-requires-clause-within
lives_next-requires-clause-within c =
    let in_all = c.put_in_order.ensures.within (age_limit + 1) (All-same (IsWithin (age_limit + 1)) _ _ c.in_ok-all.ensures (within_candidates age_limit c.args.cells.now c.requires.within)) in
    (All-same (IsWithin (age_limit + 1)) _ _ c.deref-cell-items.ensures.value in_all) c.loop-cell.cell-index _ c.loop-cell-test.true

all_of : (c : After-drop-all-2) → c.loop-cell.next.items ≡ filter (lives c.args.rule.now (has c.args.cells.now)) c.put_in_order.new.items.items
all_of c =
    c.loop-cell.invariant
    ∙ ap (filter (lives c.args.rule.now (has c.args.cells.now))) (take_all _ _ c.loop-cell-test.false ∙ c.deref-cell-items.ensures.value)

pub returns-clause-rising : goal.returns-clause-rising
returns-clause-rising c = subst (λ cs. T (is_rising cs)) (sym (all_of c)) (rising-filter (lives c.args.rule.now (has c.args.cells.now)) c.put_in_order.new.items.items c.put_in_order.ensures.rising)

pub returns-clause-next : goal.returns-clause-next
returns-clause-next c =
    ap from_list (all_of c)
    ∙ next_by_filter c.args.rule.now c.args.cells.now c.put_in_order.new.items.items c.requires.rising
    (λ b. has_from_set _ _ c.put_in_order.ensures.same b ∙ ap (λ cs. has cs b) c.in_ok-all.ensures)

pub returns-clause-within : goal.returns-clause-within
returns-clause-within c a all =
    let in_all = c.put_in_order.ensures.within (a + 1) (All-same (IsWithin (a + 1)) _ _ c.in_ok-all.ensures (within_candidates a c.args.cells.now all)) in
    All-same (IsWithin (a + 1)) _ _ (all_of c) (All-filter (lives c.args.rule.now (has c.args.cells.now)) (IsWithin (a + 1)) _ in_all)
