use Rattle.std.proofs.Common.{◌≡◌, length, sym, subst, ap, ◌∙◌}
use Rattle.std.specs.List.{range_with_len}
use Rattle.life_model.specs.Generation.{cells}
use Rattle.life_model.proofs.Generations.{size-cells}
use Rattle.life_islands.specs.Split.Rounds.{AreJoinedTied}
use Rattle.life_islands.proofs.SplitLemmas.Walking.{none_joined_yet}
use Rattle.life_islands.proofs.split.rounds.joined_for_good.Goals as goal

pub joined_once-requires : goal.joined_once-requires
joined_once-requires c =
    let o = c.args.orbit.now in
    let numbers : c.in_ok-first.first.items ≡ range_with_len 0 (length (cells o.set)) =
    c.in_ok-first.ensures
    ∙ ap (range_with_len 0) (c.len.ensures ∙ size-cells c.set.result.now ∙ ap (λ G. length (cells G)) c.set.ensures) in
    subst (AreJoinedTied o.rule o.set) (sym numbers) (none_joined_yet o.rule o.set)
