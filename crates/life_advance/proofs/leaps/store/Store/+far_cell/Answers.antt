-- Live cells of empty squares, which have none, and of leaves.
use Rattle.std.proofs.Common.{◌≡◌, sym, ◌∙◌, arith}
use Rattle.life_advance.specs.Leaps.Stores.{no_leaf, view}
use Rattle.life_advance.specs.Leaps.Sites.{corner}
use Rattle.life_advance.proofs.LeapsLemmas.FarLemmas.{leaf_lives, lives_in_leaf, none_lives, weaker_match}
use Rattle.life_advance.proofs.LeapsLemmas.ListLemmas.{at_leaf}
use Rattle.life_advance.proofs.LeapsLemmas.StoreLemmas.{any_default}
use Rattle.life_advance.proofs.leaps.store.Store.+far_cell.Goals as goal

pub returns-then-spot-empty_place : goal.returns-then-spot-empty_place
returns-then-spot-empty_place t c =
    none_lives (view c.args.self.now) c.requires.kept c.args.spot.now.site.level c.args.spot.now.place (let h = c.requires.spot.site.level in omega arith) (c.if-spot-empty_place.true ∙ c.empty_place.ensures) (corner c.args.spot.now.site)

pub returns-then-spot-eq0 : goal.returns-then-spot-eq0
returns-then-spot-eq0 t c =
    let leaf_is : (view c.args.self.now).leaf c.args.spot.now.place ≡ c.index.result.now =
    sym (c.index.ensures ∙ any_default c.args.self.now.leaves.items c.args.spot.now.place c.index.result.now no_leaf (at_leaf (view c.args.self.now) c.args.spot.now.site.level c.args.spot.now.place c.if-spot-eq0.true c.requires.spot.at)) in
    weaker_match c.cell_of_leaf.result _ _ _ _
    (λ dead q h. dead q (lives_in_leaf (view c.args.self.now) c.args.spot.now.site.level c.args.spot.now.place c.index.result.now (corner c.args.spot.now.site) c.if-spot-eq0.true leaf_is q h))
    (leaf_lives (view c.args.self.now) c.args.spot.now.site.level c.args.spot.now.place c.index.result.now (corner c.args.spot.now.site) c.if-spot-eq0.true leaf_is)
    c.cell_of_leaf.ensures
