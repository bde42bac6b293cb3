use Rattle.std.proofs.Common.{ap, ◌∙◌}
use Rattle.std.specs.List.{fold}
use Rattle.life_answer.specs.Apgcode.{turned_bodies}
use Rattle.life_codes.specs.Least.{with_text}
use Rattle.life_codes.proofs.Leasts.{turned_bodies-normal}
use Rattle.life_codes.proofs.least_text.LeastText.add_shapes.Goals as goal

pub returns-clause-ok : goal.returns-clause-ok
returns-clause-ok c =
    let least = c.args.self.now in
    c.swap.ensures.x_after ∙ c.in_ok-add_shape.ensures
    ∙ ap (λ l. fold with_text l (turned_bodies c.in_ok-shape.shape)) (c.in_ok-copy.ensures ∙ c.self.view_is)
    ∙ ap (λ G. fold with_text least (turned_bodies G)) c.in_ok-shape.ensures.shape
    ∙ ap (fold with_text least) (turned_bodies-normal c.args.list.now)
