use Rattle.std.proofs.Common.{◌≡◌, subst, sym}
use Rattle.std.specs.List.{fold}
use Rattle.life_model.specs.Generation.{from_list}
use Rattle.life_answer.specs.Apgcode.{turned_bodies}
use Rattle.life_codes.specs.Least.{with_text}
use Rattle.life_codes.proofs.Ordered.{all_below}
use Rattle.life_codes.proofs.least_text.LeastText.add_cells.Goals as goal

pub returns-then-is_below-2-clause-ok : goal.returns-then-is_below-2-clause-ok
returns-then-is_below-2-clause-ok c =
    let G = from_list c.args.cells.now in
    let r = c.requires in
    let l = c.args.lengths in
    let one = c.is_below.ensures in
    let two = c.is_below-then-is_below.ensures in
    let yes = c.if-is_below.true in
    let also = c.if-is_below-2.true in
    subst (λ m. m ≡ fold with_text m (turned_bodies G)) c.self.view_is
    (sym (all_below G c.self.inside.least l.same l.half l.swap_half l.swap r.same r.half r.swap_half r.swap (one.one yes) (one.one_back yes) (one.other yes) (one.other_back yes) (two.other also) (two.other_back also) (two.one also) (two.one_back also)))
