-- The middle of four leaves as a square of the list.
use Rattle.life_advance.specs.Leaps.Stores.{view}
use Rattle.life_advance.proofs.LeapsLemmas.StoreLemmas.{leaf-middle, shown}
use Rattle.life_advance.proofs.leaps.store.Store.middle_of_leaves.Goals as goal

pub returns-in_err-place-clause-grows : goal.returns-in_err-place-clause-grows
returns-in_err-place-clause-grows c = c.in_err-place.ensures.grows _ _

pub returns-clause-grows : goal.returns-clause-grows
returns-clause-grows c = c.in_ok-place.ensures.grows _ _

pub returns-clause-middle : goal.returns-clause-middle
returns-clause-middle c =
    leaf-middle c.args.step.now.rule c.args.generations (view c.args.self.now) (view c.leaf.new.self) c.args.quarters.now c.middle_later-leaf.result c.in_ok-place.place
    c.in_ok-place.ensures.at c.in_ok-place.ensures.is
    (λ G p nw ne sw se. c.middle_later-leaf.ensures c.args.step.now.rule c.requires.ready.logic G p (record {
      north_west = shown c.args.self.now c.args.quarters.now.north_west c.index.result.now G _ c.requires.at.north_west c.index.ensures nw;
      north_east = shown c.args.self.now c.args.quarters.now.north_east c.index-2.result.now G _ c.requires.at.north_east c.index-2.ensures ne;
      south_west = shown c.args.self.now c.args.quarters.now.south_west c.index-3.result.now G _ c.requires.at.south_west c.index-3.ensures sw;
      south_east = shown c.args.self.now c.args.quarters.now.south_east c.index-4.result.now G _ c.requires.at.south_east c.index-4.ensures se;
    }))
