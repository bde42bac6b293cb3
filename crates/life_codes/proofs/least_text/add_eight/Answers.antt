use Rattle.std.proofs.Common.{ap, ◌∙◌}
use Rattle.std.specs.List.{fold}
use Rattle.std.proofs.lemmas.Result.{on_ok_weaker}
use Rattle.life_model.specs.Generation.{from_list}
use Rattle.life_model.specs.Symmetry.{Half, Same, Swap, SwapHalf}
use Rattle.life_codes.specs.Least.{two_bodies, with_text}
use Rattle.life_codes.proofs.Leasts.{all_bodies, swapped_first}
use Rattle.life_codes.proofs.least_text.add_eight.Goals as goal

pub returns-in_ok-add_swapped : goal.returns-in_ok-add_swapped
returns-in_ok-add_swapped c =
    let G = from_list c.args.cells.now in
    on_ok_weaker c.add_upright.result
    (λ new. new ∙ ap (λ l. fold with_text (fold with_text l (two_bodies G Same)) (two_bodies G Half)) c.in_ok-add_swapped.ensures.texts ∙ swapped_first G c.args.least.now)
    c.add_upright.ensures.texts

pub returns-in_ok-add_upright : goal.returns-in_ok-add_upright
returns-in_ok-add_upright c =
    let G = from_list c.args.cells.now in
    on_ok_weaker c.add_swapped-else-swapped-upright.result
    (λ new. new ∙ ap (λ l. fold with_text (fold with_text l (two_bodies G SwapHalf)) (two_bodies G Swap)) c.in_ok-add_upright.ensures.texts ∙ all_bodies G c.args.least.now)
    c.add_swapped-else-swapped-upright.ensures.texts
