use Rattle.std.proofs.Common.{ap, ◌∙◌}
use Rattle.std.specs.List.{fold}
use Rattle.std.proofs.lemmas.Result.{on_ok_weaker}
use Rattle.life_model.specs.Generation.{from_list}
use Rattle.life_model.proofs.Generations.{from_list-cells}
use Rattle.life_answer.specs.Apgcode.{turned_bodies}
use Rattle.life_codes.specs.Least.{with_text}
use Rattle.life_codes.proofs.least_text.LeastText.add_framed.Goals as goal

pub returns-in-Some-clause-ok : goal.returns-in-Some-clause-ok
returns-in-Some-clause-ok c =
    on_ok_weaker c.add_cells.result
    (λ new. new ∙ ap (λ G. fold with_text c.args.self.now (turned_bodies G)) (ap from_list c.as_slice-cells.ensures.cells ∙ from_list-cells c.args.list.now))
    c.add_cells.ensures.ok

pub returns-in_ok-lengths-in-Some-2-clause-ok : goal.returns-in_ok-lengths-in-Some-2-clause-ok
returns-in_ok-lengths-in-Some-2-clause-ok c =
    on_ok_weaker c.add_cells-in-Some-2.result
    (λ new.
    new ∙ ap (λ G. fold with_text c.self.inside.least (turned_bodies G)) (ap from_list c.as_slice-cells.ensures.cells ∙ from_list-cells c.args.list.now)
    ∙ ap (λ l. fold with_text l (turned_bodies c.args.list.now)) c.self.view_is)
    c.add_cells-in-Some-2.ensures.ok
