-- The four inner quarters of the quarters.
use Rattle.std.proofs.Common.{◌∙◌, sym, subst}
use Rattle.life_advance.specs.declared.leaps.square.Quarters.{Quarters}
use Rattle.life_advance.specs.Leaps.Stores.{view}
use Rattle.life_advance.specs.Leaps.Squares.{AreAt}
use Rattle.life_advance.proofs.LeapsLemmas.RowLemmas.{centre-at, centre-shows, made}
use Rattle.life_advance.proofs.leaps.store.Store.centre_of_squares.Goals as goal

pub square-requires-clause-at : goal.square-requires-clause-at
square-requires-clause-at c =
    let P : Quarters → Type 0 = λ q. AreAt (view c.args.self.now) c.args.level q in
    subst P (sym (λ i. made (c.quarters.ensures i).south_east (c.quarters-2.ensures i).south_west (c.quarters-3.ensures i).north_east (c.quarters-4.ensures i).north_west))
    (centre-at c.args.level (view c.args.self.now) c.requires.kept c.args.quarters.now c.requires.at)

pub returns-clause-middle : goal.returns-clause-middle
returns-clause-middle c = λ rule.
    centre-shows c.args.level (view c.args.self.now) c.requires.kept c.args.quarters.now c.requires.at rule (view c.square.new.self) (c.in_ok-place.ensures.grows rule 0).extends
    c.in_ok-place.place c.in_ok-place.ensures.at
    (c.in_ok-place.ensures.is ∙ (λ i. made (c.quarters.ensures i).south_east (c.quarters-2.ensures i).south_west (c.quarters-3.ensures i).north_east (c.quarters-4.ensures i).north_west))
