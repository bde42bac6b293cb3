-- Copies of the quarters, and the square that they make.
use Rattle.std.proofs.Common.{rules, ◌≡◌, ◌-◌, ◌∙◌, suc, refl, arith}
use Rattle.life_advance.specs.Leaps.Stores.{no_leaf, view}
use Rattle.life_advance.proofs.LeapsLemmas.Growth.{at-extends, extends-trans, grows-trans}
use Rattle.life_advance.proofs.LeapsLemmas.RowLemmas.{made_at}
use Rattle.life_advance.proofs.LeapsLemmas.StoreLemmas.{any_default}
use Rattle.life_advance.proofs.LeapsLemmas.ListLemmas.{at_leaf}
use Rattle.life_advance.proofs.LeapsLemmas.Padded.{no_rule}
use Rattle.life_advance.proofs.LeapsLemmas.CopyLemmas.{copied-leaf, copied-square, copier-grown, copier-noted, copy-later, noted_copy, noted_place, old-quarters}
use Rattle.life_advance.proofs.leaps.collecting.Copier.+copy.Goals as goal

pub returns-in_err-leaf-clause-copier : goal.returns-in_err-leaf-clause-copier
returns-in_err-leaf-clause-copier t c =
    let g = c.in_err-leaf.ensures.grows no_rule 0 in
    copier-grown _ _ _ c.requires.copier g.kept g.extends refl

pub returns-then-level-eq0-clause-copier : goal.returns-then-level-eq0-clause-copier
returns-then-level-eq0-clause-copier t c =
    let g = c.in_ok-leaf.ensures.grows no_rule 0 in
    copier-grown _ _ _ c.requires.copier g.kept g.extends refl

pub returns-then-level-eq0-clause-copy : goal.returns-then-level-eq0-clause-copy
returns-then-level-eq0-clause-copy t c =
    copied-leaf (view c.args.old.now) (view c.leaf.new.self) c.args.level c.args.place c.in_ok-leaf.leaf c.if-level-eq0.true c.in_ok-leaf.ensures.at
    (c.in_ok-leaf.ensures.is ∙ c.index.ensures
    ∙ any_default c.args.old.now.leaves.items c.args.place c.index.result.now no_leaf (at_leaf (view c.args.old.now) c.args.level c.args.place c.if-level-eq0.true c.requires.at))

pub returns-in-Some-clause-copy : goal.returns-in-Some-clause-copy
returns-in-Some-clause-copy t c = noted_copy (view c.args.old.now) c.args.self.now c.args.level c.args.place c.in-Some.copy c.requires.copier c.requires.at c.if-level-eq0.false c.in-Some.ensures

pub copy-requires : goal.copy-requires
copy-requires t c =
    let at = old-quarters (view c.args.old.now) c.requires.kept c.args.level c.args.place c.if-level-eq0.false c.requires.at _ c.quarters-quarters.ensures in
    let copier = c.requires.copier in
    (omega arith, (c.requires.kept, (at.north_west, record { kept = copier.kept; many = copier.many; copies = copier.copies })))

pub copy-requires-2 : goal.copy-requires-2
copy-requires-2 t c =
    let at = old-quarters (view c.args.old.now) c.requires.kept c.args.level c.args.place c.if-level-eq0.false c.requires.at _ c.quarters-quarters.ensures in
    (omega arith, (c.requires.kept, (at.north_east, c.in_ok-north_west.ensures.copier)))

pub returns-in_err-north_east-clause-grows : goal.returns-in_err-north_east-clause-grows
returns-in_err-north_east-clause-grows t c = λ rule e. grows-trans rule e _ _ _ (c.in_ok-north_west.ensures.grows rule e) (c.in_err-north_east.ensures.grows rule e)

pub copy-requires-3 : goal.copy-requires-3
copy-requires-3 t c =
    let at = old-quarters (view c.args.old.now) c.requires.kept c.args.level c.args.place c.if-level-eq0.false c.requires.at _ c.quarters-quarters.ensures in
    (omega arith, (c.requires.kept, (at.south_west, c.in_ok-north_east.ensures.copier)))

pub returns-in_err-south_west-clause-grows : goal.returns-in_err-south_west-clause-grows
returns-in_err-south_west-clause-grows t c = λ rule e.
    grows-trans rule e _ _ _ (grows-trans rule e _ _ _ (c.in_ok-north_west.ensures.grows rule e) (c.in_ok-north_east.ensures.grows rule e)) (c.in_err-south_west.ensures.grows rule e)

pub copy-requires-4 : goal.copy-requires-4
copy-requires-4 t c =
    let at = old-quarters (view c.args.old.now) c.requires.kept c.args.level c.args.place c.if-level-eq0.false c.requires.at _ c.quarters-quarters.ensures in
    (omega arith, (c.requires.kept, (at.south_east, c.in_ok-south_west.ensures.copier)))

pub returns-in_err-south_east-clause-grows : goal.returns-in_err-south_east-clause-grows
returns-in_err-south_east-clause-grows t c = λ rule e.
    grows-trans rule e _ _ _ (grows-trans rule e _ _ _ (grows-trans rule e _ _ _ (c.in_ok-north_west.ensures.grows rule e) (c.in_ok-north_east.ensures.grows rule e)) (c.in_ok-south_west.ensures.grows rule e))
    (c.in_err-south_east.ensures.grows rule e)

pub square-requires-clause-at : goal.square-requires-clause-at
square-requires-clause-at t c =
    let e2 = (c.in_ok-north_east.ensures.grows no_rule 0).extends in
    let e3 = (c.in_ok-south_west.ensures.grows no_rule 0).extends in
    let e4 = (c.in_ok-south_east.ensures.grows no_rule 0).extends in
    let e34 = extends-trans (view c.copy-2.new.self.store) (view c.copy-3.new.self.store) (view c.copy-4.new.self.store) e3 e4 in
    let e234 = extends-trans (view c.copy.new.self.store) (view c.copy-2.new.self.store) (view c.copy-4.new.self.store) e2 e34 in
    made_at (view c.copy-4.new.self.store) (c.args.level - 1) _ _ _ _
    (at-extends (view c.copy.new.self.store) (view c.copy-4.new.self.store) e234 (c.args.level - 1) _ c.in_ok-north_west.ensures.copy.at)
    (at-extends (view c.copy-2.new.self.store) (view c.copy-4.new.self.store) e34 (c.args.level - 1) _ c.in_ok-north_east.ensures.copy.at)
    (at-extends (view c.copy-3.new.self.store) (view c.copy-4.new.self.store) e4 (c.args.level - 1) _ c.in_ok-south_west.ensures.copy.at)
    c.in_ok-south_east.ensures.copy.at

pub returns-in_err-copy-clause-copier : goal.returns-in_err-copy-clause-copier
returns-in_err-copy-clause-copier t c =
    let g = c.in_err-copy.ensures.grows no_rule 0 in
    copier-grown _ c.copy-4.new.self _ c.in_ok-south_east.ensures.copier g.kept g.extends refl

pub returns-in_err-copy-clause-grows : goal.returns-in_err-copy-clause-grows
returns-in_err-copy-clause-grows t c = λ rule e.
    grows-trans rule e _ _ _ (grows-trans rule e _ _ _ (grows-trans rule e _ _ _ (grows-trans rule e _ _ _ (c.in_ok-north_west.ensures.grows rule e) (c.in_ok-north_east.ensures.grows rule e)) (c.in_ok-south_west.ensures.grows rule e))
    (c.in_ok-south_east.ensures.grows rule e)) (c.in_err-copy.ensures.grows rule e)

pub index_mut-requires : goal.index_mut-requires
index_mut-requires t c =
    let inside = noted_place (view c.args.old.now) c.copy-4.new.self c.args.level c.args.place c.in_ok-south_east.ensures.copier c.requires.at c.if-level-eq0.false in
    search rules

pub returns-clause-copy : goal.returns-clause-copy
returns-clause-copy t c =
    let g2 = c.in_ok-north_east.ensures.grows no_rule 0 in
    let g3 = c.in_ok-south_west.ensures.grows no_rule 0 in
    let g4 = c.in_ok-south_east.ensures.grows no_rule 0 in
    let e5 = (c.in_ok-copy.ensures.grows no_rule 0).extends in
    let e45 = extends-trans (view c.copy-3.new.self.store) (view c.copy-4.new.self.store) (view c.square.new.self) g4.extends e5 in
    let e345 = extends-trans (view c.copy-2.new.self.store) (view c.copy-3.new.self.store) (view c.square.new.self) g3.extends e45 in
    let e2345 = extends-trans (view c.copy.new.self.store) (view c.copy-2.new.self.store) (view c.square.new.self) g2.extends e345 in
    let level : suc (c.args.level - 1) ≡ c.args.level = omega (arith, c.if-level-eq0.false) in
    copied-square (view c.args.old.now) (view c.square.new.self) c.args.level (c.args.level - 1) c.args.place c.in_ok-copy.copy _ _ _ _ level
    c.quarters-quarters.result c.quarters-quarters.ensures
    (copy-later _ _ _ _ _ _ c.in_ok-north_west.ensures.copier.kept e2345 c.in_ok-north_west.ensures.copy)
    (copy-later _ _ _ _ _ _ c.in_ok-north_east.ensures.copier.kept e345 c.in_ok-north_east.ensures.copy)
    (copy-later _ _ _ _ _ _ c.in_ok-south_west.ensures.copier.kept e45 c.in_ok-south_west.ensures.copy)
    (copy-later _ _ _ _ _ _ c.in_ok-south_east.ensures.copier.kept e5 c.in_ok-south_east.ensures.copy)
    c.in_ok-copy.ensures.at c.in_ok-copy.ensures.is

pub returns-clause-copier : goal.returns-clause-copier
returns-clause-copier t c =
    let g = c.in_ok-copy.ensures.grows no_rule 0 in
    copier-noted (view c.args.old.now) (record { store = c.square.new.self; places = c.copy-4.new.self.places }) _ c.args.level c.args.place c.in_ok-copy.copy
    (copier-grown _ c.copy-4.new.self _ c.in_ok-south_east.ensures.copier g.kept g.extends refl)
    c.requires.at c.if-level-eq0.false (returns-clause-copy t c) refl refl

pub returns-clause-grows : goal.returns-clause-grows
returns-clause-grows t c = λ rule e.
    grows-trans rule e _ _ _ (grows-trans rule e _ _ _ (grows-trans rule e _ _ _ (grows-trans rule e _ _ _ (c.in_ok-north_west.ensures.grows rule e) (c.in_ok-north_east.ensures.grows rule e)) (c.in_ok-south_west.ensures.grows rule e))
    (c.in_ok-south_east.ensures.grows rule e)) (c.in_ok-copy.ensures.grows rule e)
