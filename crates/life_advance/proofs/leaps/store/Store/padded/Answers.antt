-- The five squares that have the cells in their middle.
use Rattle.std.proofs.Common.{◌∙◌}
use Rattle.life_advance.specs.Leaps.Stores.{view}
use Rattle.life_advance.proofs.LeapsLemmas.Growth.{at-extends, extends-trans, grows-trans}
use Rattle.life_advance.proofs.LeapsLemmas.RowLemmas.{made_at}
use Rattle.life_advance.proofs.LeapsLemmas.Padded.{no_rule, empty_here, whole_at, padded-shows}
use Rattle.life_advance.proofs.leaps.store.Store.padded.Goals as goal

pub square-requires-2-clause-kept : goal.square-requires-2-clause-kept
square-requires-2-clause-kept c = (c.in_ok-north_west.ensures.grows no_rule 0).kept

pub square-requires-2-clause-at : goal.square-requires-2-clause-at
square-requires-2-clause-at c =
    let g = c.in_ok-north_west.ensures.grows no_rule 0 in
    made_at _ 19 _ _ _ _
    (empty_here _ g.kept _ c.empty_place-empty.ensures) (empty_here _ g.kept _ c.empty_place-empty.ensures)
    (whole_at (view c.args.self.now) _ c.requires.kept g.extends c.args.root c.requires.at _ c.quarters-whole.ensures).north_east
    (empty_here _ g.kept _ c.empty_place-empty.ensures)

pub returns-in_err-north_east-clause-grows : goal.returns-in_err-north_east-clause-grows
returns-in_err-north_east-clause-grows c = λ rule e. grows-trans rule e _ _ _ (c.in_ok-north_west.ensures.grows rule e) (c.in_err-north_east.ensures.grows rule e)

pub square-requires-3-clause-kept : goal.square-requires-3-clause-kept
square-requires-3-clause-kept c = (c.in_ok-north_east.ensures.grows no_rule 0).kept

pub square-requires-3-clause-at : goal.square-requires-3-clause-at
square-requires-3-clause-at c =
    let g = grows-trans _ _ _ _ _ (c.in_ok-north_west.ensures.grows no_rule 0) (c.in_ok-north_east.ensures.grows no_rule 0) in
    made_at _ 19 _ _ _ _
    (empty_here _ g.kept _ c.empty_place-empty.ensures)
    (whole_at (view c.args.self.now) _ c.requires.kept g.extends c.args.root c.requires.at _ c.quarters-whole.ensures).south_west
    (empty_here _ g.kept _ c.empty_place-empty.ensures) (empty_here _ g.kept _ c.empty_place-empty.ensures)

pub returns-in_err-south_west-clause-grows : goal.returns-in_err-south_west-clause-grows
returns-in_err-south_west-clause-grows c = λ rule e.
    grows-trans rule e _ _ _ (grows-trans rule e _ _ _ (c.in_ok-north_west.ensures.grows rule e) (c.in_ok-north_east.ensures.grows rule e)) (c.in_err-south_west.ensures.grows rule e)

pub square-requires-4-clause-kept : goal.square-requires-4-clause-kept
square-requires-4-clause-kept c = (c.in_ok-south_west.ensures.grows no_rule 0).kept

pub square-requires-4-clause-at : goal.square-requires-4-clause-at
square-requires-4-clause-at c =
    let g = grows-trans _ _ _ _ _ (grows-trans _ _ _ _ _ (c.in_ok-north_west.ensures.grows no_rule 0) (c.in_ok-north_east.ensures.grows no_rule 0)) (c.in_ok-south_west.ensures.grows no_rule 0) in
    made_at _ 19 _ _ _ _
    (whole_at (view c.args.self.now) _ c.requires.kept g.extends c.args.root c.requires.at _ c.quarters-whole.ensures).south_east
    (empty_here _ g.kept _ c.empty_place-empty.ensures) (empty_here _ g.kept _ c.empty_place-empty.ensures) (empty_here _ g.kept _ c.empty_place-empty.ensures)

pub returns-in_err-south_east-clause-grows : goal.returns-in_err-south_east-clause-grows
returns-in_err-south_east-clause-grows c = λ rule e.
    grows-trans rule e _ _ _ (grows-trans rule e _ _ _ (grows-trans rule e _ _ _ (c.in_ok-north_west.ensures.grows rule e) (c.in_ok-north_east.ensures.grows rule e)) (c.in_ok-south_west.ensures.grows rule e))
    (c.in_err-south_east.ensures.grows rule e)

pub square-requires-5-clause-kept : goal.square-requires-5-clause-kept
square-requires-5-clause-kept c = (c.in_ok-south_east.ensures.grows no_rule 0).kept

pub square-requires-5-clause-at : goal.square-requires-5-clause-at
square-requires-5-clause-at c =
    let g2 = c.in_ok-north_east.ensures.grows no_rule 0 in
    let g3 = c.in_ok-south_west.ensures.grows no_rule 0 in
    let g4 = c.in_ok-south_east.ensures.grows no_rule 0 in
    let g34 = extends-trans _ _ _ g3.extends g4.extends in
    let g234 = extends-trans _ _ _ g2.extends g34 in
    made_at _ 20 _ _ _ _
    (at-extends _ _ g234 20 _ c.in_ok-north_west.ensures.at)
    (at-extends _ _ g34 20 _ c.in_ok-north_east.ensures.at)
    (at-extends _ _ g4.extends 20 _ c.in_ok-south_west.ensures.at)
    c.in_ok-south_east.ensures.at

pub returns-in_err-wide-clause-grows : goal.returns-in_err-wide-clause-grows
returns-in_err-wide-clause-grows c = λ rule e.
    grows-trans rule e _ _ _ (grows-trans rule e _ _ _ (grows-trans rule e _ _ _ (grows-trans rule e _ _ _ (c.in_ok-north_west.ensures.grows rule e) (c.in_ok-north_east.ensures.grows rule e)) (c.in_ok-south_west.ensures.grows rule e))
    (c.in_ok-south_east.ensures.grows rule e)) (c.in_err-wide.ensures.grows rule e)

pub returns-clause-grows : goal.returns-clause-grows
returns-clause-grows c = λ rule e.
    grows-trans rule e _ _ _ (grows-trans rule e _ _ _ (grows-trans rule e _ _ _ (grows-trans rule e _ _ _ (c.in_ok-north_west.ensures.grows rule e) (c.in_ok-north_east.ensures.grows rule e)) (c.in_ok-south_west.ensures.grows rule e))
    (c.in_ok-south_east.ensures.grows rule e)) (c.in_ok-wide.ensures.grows rule e)

pub returns-clause-shows : goal.returns-clause-shows
returns-clause-shows c =
    let g1 = c.in_ok-north_west.ensures.grows no_rule 0 in
    let g2 = c.in_ok-north_east.ensures.grows no_rule 0 in
    let g3 = c.in_ok-south_west.ensures.grows no_rule 0 in
    let g4 = c.in_ok-south_east.ensures.grows no_rule 0 in
    let g5 = c.in_ok-wide.ensures.grows no_rule 0 in
    let e5 = g5.extends in
    let e45 = extends-trans _ _ _ g4.extends e5 in
    let e345 = extends-trans _ _ _ g3.extends e45 in
    let e2345 = extends-trans _ _ _ g2.extends e345 in
    let all = extends-trans _ _ _ g1.extends e2345 in
    padded-shows (view c.args.self.now) _ c.requires.kept g5.kept all c.args.root c.requires.at c.quarters-whole.result c.quarters-whole.ensures
    c.empty_place-empty.result c.empty_place-empty.ensures _ _ _ _ _
    (e2345.quarters _ c.in_ok-north_west.ensures.at.0 ∙ c.in_ok-north_west.ensures.is)
    (e345.quarters _ c.in_ok-north_east.ensures.at.0 ∙ c.in_ok-north_east.ensures.is)
    (e45.quarters _ c.in_ok-south_west.ensures.at.0 ∙ c.in_ok-south_west.ensures.is)
    (e5.quarters _ c.in_ok-south_east.ensures.at.0 ∙ c.in_ok-south_east.ensures.is)
    c.in_ok-wide.ensures.is
