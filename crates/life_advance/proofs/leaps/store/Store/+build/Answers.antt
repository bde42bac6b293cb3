-- Squares of the cells of lists.
use Rattle.std.proofs.Common.{◌≡◌, ◌-◌, ◌≤◌, ℕ, inl, inr, sym, refl, ap, subst, List, arith}
use Rattle.life_model.specs.Cell.{Cell}
use Rattle.life_model.specs.Generation.{from_list}
use Rattle.life_advance.specs.Leaps.Squares.{beyond, width}
use Rattle.life_advance.specs.Leaps.Cells.{IsInside, IsListed}
use Rattle.life_advance.specs.Leaps.Stores.{view}
use Rattle.life_advance.specs.Leaps.Sites.{IsPartOf, corner}
use Rattle.life_advance.proofs.LeapsLemmas.Growth.{at-extends, extends-trans, grows-trans}
use Rattle.life_advance.proofs.LeapsLemmas.RowLemmas.{made_at}
use Rattle.life_advance.proofs.LeapsLemmas.Padded.{no_rule}
use Rattle.life_advance.proofs.LeapsLemmas.BuildLemmas.{at_level, empty_is_at, empty_list, four_here, leaf_here, none_beside, nothing_shown, part_shows, quarter_here}
use Rattle.life_advance.proofs.leaps.store.Store.+build.Goals as goal

pub build_part-returns-clause-shows : goal.build_part-returns-clause-shows
build_part-returns-clause-shows t c =
    let P : List Cell → Type 0 = λ l. IsPartOf c.args.cells.now c.args.site.now l in
    part_shows (view c.build.new.self) c.args.site.now.level c.in_ok-place.place c.args.cells.now c.deref.result.now c.args.site.now refl
    (subst P (sym c.deref.ensures.value) c.in_ok-part.ensures) c.in_ok-place.ensures.shows

pub build-returns-then-is_empty-clause-shows : goal.build-returns-then-is_empty-clause-shows
build-returns-then-is_empty-clause-shows t c =
    nothing_shown (view c.args.self.now) c.requires.kept c.args.site.now.level c.empty_place.result (let h = c.requires.site.level in omega arith) c.empty_place.ensures c.args.cells.now (empty_list c.args.cells.now c.if-is_empty.ensures) (corner c.args.site.now)

pub build-returns-then-site-eq0-clause-shows : goal.build-returns-then-site-eq0-clause-shows
build-returns-then-site-eq0-clause-shows t c =
    (leaf_here (view c.leaf.new.self) c.args.site.now.level c.in_ok-leaf.leaf c.leaf_of.result (from_list c.args.cells.now) (corner c.args.site.now) c.if-site-eq0.true
    c.in_ok-leaf.ensures.at c.in_ok-leaf.ensures.is c.leaf_of.ensures).1

pub build-build_part-requires-2 : goal.build-build_part-requires-2
build-build_part-requires-2 t c = (omega (arith, c.quarters-sites.ensures.north_east.level), ((c.in_ok-north_west.ensures.grows no_rule 0).kept, c.quarters-sites.ensures.north_east.placed))

pub build-returns-in_err-north_east-clause-grows : goal.build-returns-in_err-north_east-clause-grows
build-returns-in_err-north_east-clause-grows t c = λ rule e. grows-trans rule e _ _ _ (c.in_ok-north_west.ensures.grows rule e) (c.in_err-north_east.ensures.grows rule e)

pub build-build_part-requires-3 : goal.build-build_part-requires-3
build-build_part-requires-3 t c = (omega (arith, c.quarters-sites.ensures.south_west.level), ((c.in_ok-north_east.ensures.grows no_rule 0).kept, c.quarters-sites.ensures.south_west.placed))

pub build-returns-in_err-south_west-clause-grows : goal.build-returns-in_err-south_west-clause-grows
build-returns-in_err-south_west-clause-grows t c = λ rule e.
    grows-trans rule e _ _ _ (grows-trans rule e _ _ _ (c.in_ok-north_west.ensures.grows rule e) (c.in_ok-north_east.ensures.grows rule e)) (c.in_err-south_west.ensures.grows rule e)

pub build-build_part-requires-4 : goal.build-build_part-requires-4
build-build_part-requires-4 t c = (omega (arith, c.quarters-sites.ensures.south_east.level), ((c.in_ok-south_west.ensures.grows no_rule 0).kept, c.quarters-sites.ensures.south_east.placed))

pub build-returns-in_err-south_east-clause-grows : goal.build-returns-in_err-south_east-clause-grows
build-returns-in_err-south_east-clause-grows t c = λ rule e.
    grows-trans rule e _ _ _ (grows-trans rule e _ _ _ (grows-trans rule e _ _ _ (c.in_ok-north_west.ensures.grows rule e) (c.in_ok-north_east.ensures.grows rule e)) (c.in_ok-south_west.ensures.grows rule e))
    (c.in_err-south_east.ensures.grows rule e)

pub build-square-requires-clause-kept : goal.build-square-requires-clause-kept
build-square-requires-clause-kept t c = (c.in_ok-south_east.ensures.grows no_rule 0).kept

pub build-square-requires-clause-at : goal.build-square-requires-clause-at
build-square-requires-clause-at t c =
    let sites = c.quarters-sites.ensures in
    let e2 = (c.in_ok-north_east.ensures.grows no_rule 0).extends in
    let e3 = (c.in_ok-south_west.ensures.grows no_rule 0).extends in
    let e4 = (c.in_ok-south_east.ensures.grows no_rule 0).extends in
    let e34 = extends-trans (view c.build_part-2.new.self) (view c.build_part-3.new.self) (view c.build_part-4.new.self) e3 e4 in
    let e234 = extends-trans (view c.build_part.new.self) (view c.build_part-2.new.self) (view c.build_part-4.new.self) e2 e34 in
    made_at (view c.build_part-4.new.self) (c.args.site.now.level - 1) _ _ _ _
    (at_level (view c.build_part-4.new.self) c.quarters-sites.result.north_west.level (c.args.site.now.level - 1) _ (omega (arith, c.quarters-sites.ensures.north_west.level)) (at-extends (view c.build_part.new.self) (view c.build_part-4.new.self) e234 c.quarters-sites.result.north_west.level _ c.in_ok-north_west.ensures.at))
    (at_level (view c.build_part-4.new.self) c.quarters-sites.result.north_east.level (c.args.site.now.level - 1) _ (omega (arith, c.quarters-sites.ensures.north_east.level)) (at-extends (view c.build_part-2.new.self) (view c.build_part-4.new.self) e34 c.quarters-sites.result.north_east.level _ c.in_ok-north_east.ensures.at))
    (at_level (view c.build_part-4.new.self) c.quarters-sites.result.south_west.level (c.args.site.now.level - 1) _ (omega (arith, c.quarters-sites.ensures.south_west.level)) (at-extends (view c.build_part-3.new.self) (view c.build_part-4.new.self) e4 c.quarters-sites.result.south_west.level _ c.in_ok-south_west.ensures.at))
    (at_level (view c.build_part-4.new.self) c.quarters-sites.result.south_east.level (c.args.site.now.level - 1) _ (omega (arith, c.quarters-sites.ensures.south_east.level)) c.in_ok-south_east.ensures.at)

pub build-returns-clause-grows : goal.build-returns-clause-grows
build-returns-clause-grows t c = λ rule e.
    grows-trans rule e _ _ _ (grows-trans rule e _ _ _ (grows-trans rule e _ _ _ (grows-trans rule e _ _ _ (c.in_ok-north_west.ensures.grows rule e) (c.in_ok-north_east.ensures.grows rule e)) (c.in_ok-south_west.ensures.grows rule e))
    (c.in_ok-south_east.ensures.grows rule e)) (c.in_ok-place.ensures.grows rule e)

pub build-returns-in_err-place-clause-grows : goal.build-returns-in_err-place-clause-grows
build-returns-in_err-place-clause-grows t c = λ rule e.
    grows-trans rule e _ _ _ (grows-trans rule e _ _ _ (grows-trans rule e _ _ _ (grows-trans rule e _ _ _ (c.in_ok-north_west.ensures.grows rule e) (c.in_ok-north_east.ensures.grows rule e)) (c.in_ok-south_west.ensures.grows rule e))
    (c.in_ok-south_east.ensures.grows rule e)) (c.in_err-place.ensures.grows rule e)

pub build-returns-clause-shows : goal.build-returns-clause-shows
build-returns-clause-shows t c =
    let nw : c.quarters-sites.result.north_west.level ≡ c.args.site.now.level - 1 = omega (arith, c.quarters-sites.ensures.north_west.level) in
    let ne : c.quarters-sites.result.north_east.level ≡ c.args.site.now.level - 1 = omega (arith, c.quarters-sites.ensures.north_east.level) in
    let sw : c.quarters-sites.result.south_west.level ≡ c.args.site.now.level - 1 = omega (arith, c.quarters-sites.ensures.south_west.level) in
    let se : c.quarters-sites.result.south_east.level ≡ c.args.site.now.level - 1 = omega (arith, c.quarters-sites.ensures.south_east.level) in
    let g1 = c.in_ok-north_west.ensures.grows no_rule 0 in
    let g2 = c.in_ok-north_east.ensures.grows no_rule 0 in
    let g3 = c.in_ok-south_west.ensures.grows no_rule 0 in
    let g4 = c.in_ok-south_east.ensures.grows no_rule 0 in
    let e5 = (c.in_ok-place.ensures.grows no_rule 0).extends in
    let e45 = extends-trans (view c.build_part-3.new.self) (view c.build_part-4.new.self) (view c.square.new.self) g4.extends e5 in
    let e345 = extends-trans (view c.build_part-2.new.self) (view c.build_part-3.new.self) (view c.square.new.self) g3.extends e45 in
    let e2345 = extends-trans (view c.build_part.new.self) (view c.build_part-2.new.self) (view c.square.new.self) g2.extends e345 in
    four_here (view c.square.new.self) (c.args.site.now.level - 1) c.args.site.now.level c.in_ok-place.place c.args.cells.now c.args.site.now _ _ _ _ (omega arith) c.in_ok-place.ensures.is
    (quarter_here (view c.build_part.new.self) (view c.square.new.self) g1.kept e2345 (c.args.site.now.level - 1) _ c.args.cells.now c.args.site.now c.quarters-sites.result.north_west _ _ 0 0 c.quarters-sites.ensures.north_west nw c.in_ok-north_west.ensures.at c.in_ok-north_west.ensures.shows refl refl)
    (quarter_here (view c.build_part-2.new.self) (view c.square.new.self) g2.kept e345 (c.args.site.now.level - 1) _ c.args.cells.now c.args.site.now c.quarters-sites.result.north_east _ _ (width (c.args.site.now.level - 1)) 0 c.quarters-sites.ensures.north_east ne c.in_ok-north_east.ensures.at c.in_ok-north_east.ensures.shows (ap width ne) refl)
    (quarter_here (view c.build_part-3.new.self) (view c.square.new.self) g3.kept e45 (c.args.site.now.level - 1) _ c.args.cells.now c.args.site.now c.quarters-sites.result.south_west _ _ 0 (width (c.args.site.now.level - 1)) c.quarters-sites.ensures.south_west sw c.in_ok-south_west.ensures.at c.in_ok-south_west.ensures.shows refl (ap width sw))
    (quarter_here (view c.build_part-4.new.self) (view c.square.new.self) g4.kept e5 (c.args.site.now.level - 1) _ c.args.cells.now c.args.site.now c.quarters-sites.result.south_east _ _ (width (c.args.site.now.level - 1)) (width (c.args.site.now.level - 1)) c.quarters-sites.ensures.south_east se c.in_ok-south_east.ensures.at c.in_ok-south_east.ensures.shows (ap width se) (ap width se))

-- all cells in the first quarter
pub build_first-square-requires-clause-kept : goal.build_first-square-requires-clause-kept
build_first-square-requires-clause-kept t c = (c.in_ok-north_west.ensures.grows no_rule 0).kept

pub build_first-square-requires-clause-at : goal.build_first-square-requires-clause-at
build_first-square-requires-clause-at t c =
    let kept = (c.in_ok-north_west.ensures.grows no_rule 0).kept in
    let few : c.args.sites.now.north_west.level ≤ 21 = (let h = c.requires.sites.north_west.placed.level in omega (arith, h)) in
    let empty = empty_is_at (view c.build.new.self) kept c.args.sites.now.north_west.level c.empty_place-empty.result few c.empty_place-empty.ensures in
    made_at (view c.build.new.self) c.args.sites.now.north_west.level _ _ _ _ c.in_ok-north_west.ensures.at empty empty empty

pub build_first-returns-in_err-place-clause-grows : goal.build_first-returns-in_err-place-clause-grows
build_first-returns-in_err-place-clause-grows t c = λ rule e. grows-trans rule e _ _ _ (c.in_ok-north_west.ensures.grows rule e) (c.in_err-place.ensures.grows rule e)

pub build_first-returns-clause-grows : goal.build_first-returns-clause-grows
build_first-returns-clause-grows t c = λ rule e. grows-trans rule e _ _ _ (c.in_ok-north_west.ensures.grows rule e) (c.in_ok-place.ensures.grows rule e)

pub build_first-returns-clause-shows : goal.build_first-returns-clause-shows
build_first-returns-clause-shows t c =
    let n : ℕ = c.args.sites.now.north_west.level in
    let first_is = c.requires.sites.north_west in
    let g = c.in_ok-north_west.ensures.grows no_rule 0 in
    let h = c.in_ok-place.ensures.grows no_rule 0 in
    let few : c.args.sites.now.north_west.level ≤ 21 = (let l = c.requires.sites.north_west.placed.level in omega (arith, l)) in
    let first : (q : Cell) → IsListed c.args.cells.now q → IsInside c.args.sites.now.north_west.level (beyond (corner c.args.site.now) 0 0) q =
    λ q l. subst (λ p. IsInside c.args.sites.now.north_west.level p q) first_is.corner (c.requires.first q l) in
    let none = none_beside (view c.square.new.self) h.kept c.args.sites.now.north_west.level c.empty_place-empty.result few c.empty_place-empty.ensures c.args.cells.now (corner c.args.site.now) in
    four_here (view c.square.new.self) c.args.sites.now.north_west.level c.args.site.now.level c.in_ok-place.place c.args.cells.now c.args.site.now _ _ _ _ first_is.level c.in_ok-place.ensures.is
    (quarter_here (view c.build.new.self) (view c.square.new.self) g.kept h.extends c.args.sites.now.north_west.level _ c.args.cells.now c.args.site.now c.args.sites.now.north_west 0 0 0 0 first_is refl c.in_ok-north_west.ensures.at c.in_ok-north_west.ensures.shows refl refl)
    (none (width c.args.sites.now.north_west.level) 0 (inl (omega arith)) first)
    (none 0 (width c.args.sites.now.north_west.level) (inr (omega arith)) first)
    (none (width c.args.sites.now.north_west.level) (width c.args.sites.now.north_west.level) (inl (omega arith)) first)
