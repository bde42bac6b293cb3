use Rattle.std.proofs.Common.{sym, ◌∙◌}
use Rattle.std.proofs.lemmas.List.Sorted.{list_any-IsPermutation}
use Rattle.life_slots.specs.Seats.{has_tile}
use Rattle.life_slots.proofs.seats.seats_by_rows.Goals as goal

pub returns-clause-cells : goal.returns-clause-cells
returns-clause-cells c = λ q.
    sym (list_any-IsPermutation (has_tile c.args.tiles.now q) _ _ c.sort_unstable_by_key.ensures.permutation)
    ∙ c.in_ok-seats.ensures.cells q
