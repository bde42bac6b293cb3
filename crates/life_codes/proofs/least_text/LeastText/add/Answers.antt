use Rattle.std.proofs.Common.{sym, ap, ◌∙◌}
use Rattle.std.specs.List.{fold}
use Rattle.std.proofs.lemmas.Result.{on_ok_weaker}
use Rattle.life_model.specs.Generation.{from_list}
use Rattle.life_model.proofs.Generations.{from_list-cells}
use Rattle.life_cells.specs.TextOrder.{least_text}
use Rattle.life_answer.specs.Apgcode.{turned_bodies}
use Rattle.life_codes.specs.Least.{with_text}
use Rattle.life_codes.proofs.Ordered.{fold_bodies}
use Rattle.life_codes.proofs.least_text.LeastText.add.Goals as goal

pub returns-in-Some-clause-ok : goal.returns-in-Some-clause-ok
returns-in-Some-clause-ok c =
    let G = c.args.list.now in
    let same = ap from_list c.as_slice-cells.ensures.cells ∙ from_list-cells G in
    on_ok_weaker c.add_key.result
    (λ new.
    new ∙ ap (with_text c.self.inside.least) (sym c.in-Some.ensures.text ∙ ap (λ H. least_text (turned_bodies H)) same)
    ∙ sym (fold_bodies c.self.inside.least G) ∙ ap (λ l. fold with_text l (turned_bodies G)) c.self.view_is)
    c.add_key.ensures.ok
