-- The cells of squares, quarter by quarter.
use Rattle.std.proofs.Common.{◌≡◌, ◌-◌, ◌∙◌, sym, ap, arith}
use Rattle.life_advance.specs.Leaps.Squares.{View, beyond, width}
use Rattle.life_advance.specs.Leaps.Stores.{no_leaf, view}
use Rattle.life_advance.specs.Leaps.Sites.{corner}
use Rattle.life_advance.proofs.LeapsLemmas.ListLemmas.{all_added, at_leaf, four_added, leaf_added, none_added, quarter_added, zero_beyond}
use Rattle.life_advance.proofs.LeapsLemmas.StoreLemmas.{any_default}
use Rattle.life_advance.specs.declared.leaps.square.Quarters.{Quarters}
use Rattle.life_advance.proofs.leaps.store.Store.+push_cells.Goals as goal

pub returns-then-place-empty_place : goal.returns-then-place-empty_place
returns-then-place-empty_place t c =
    λ q. none_added (view c.args.self.now) c.requires.kept c.args.site.now.level c.args.place (let h = c.requires.site.level in omega arith) (c.if-place-empty_place.true ∙ c.empty_place.ensures) (corner c.args.site.now) c.args.cells.now.items q

pub returns-then-site-eq0 : goal.returns-then-site-eq0
returns-then-site-eq0 t c =
    leaf_added (view c.args.self.now) c.args.site.now.level c.args.place c.index.result.now (corner c.args.site.now) c.if-site-eq0.true
    (sym (c.index.ensures ∙ any_default c.args.self.now.leaves.items c.args.place c.index.result.now no_leaf (at_leaf (view c.args.self.now) c.args.site.now.level c.args.place c.if-site-eq0.true c.requires.at)))
    c.args.cells.now.items c.push_leaf.new.cells.items c.in_ok-push_leaf.ensures

pub returns : goal.returns
returns t c =
    let v : View = view c.args.self.now in
    let nw : c.quarters-sites.result.north_west.level ≡ c.args.site.now.level - 1 = omega (arith, c.quarters-sites.ensures.north_west.level) in
    let ne : c.quarters-sites.result.north_east.level ≡ c.args.site.now.level - 1 = omega (arith, c.quarters-sites.ensures.north_east.level) in
    let sw : c.quarters-sites.result.south_west.level ≡ c.args.site.now.level - 1 = omega (arith, c.quarters-sites.ensures.south_west.level) in
    let se : c.quarters-sites.result.south_east.level ≡ c.args.site.now.level - 1 = omega (arith, c.quarters-sites.ensures.south_east.level) in
    let q_is : c.quarters-quarters.result ≡ ((view c.args.self.now).square c.args.place).quarters = c.quarters-quarters.ensures in
    λ q. all_added (view c.args.self.now) (c.args.site.now.level - 1) c.args.site.now.level c.args.place (corner c.args.site.now) c.args.cells.now.items c.push_cells-4.new.cells.items q (omega arith)
    (four_added (view c.args.self.now) (c.args.site.now.level - 1) c.args.place (corner c.args.site.now) c.args.cells.now.items c.push_cells.new.cells.items c.push_cells-2.new.cells.items c.push_cells-3.new.cells.items c.push_cells-4.new.cells.items q
    (quarter_added (view c.args.self.now) _ _ _ _ _ _ _ _ nw (ap (λ (r : Quarters). r.north_west) q_is) (c.quarters-sites.ensures.north_west.corner ∙ zero_beyond (corner c.args.site.now)) c.in_ok-push_cells.ensures q)
    (quarter_added (view c.args.self.now) _ _ _ _ _ _ _ _ ne (ap (λ (r : Quarters). r.north_east) q_is) (c.quarters-sites.ensures.north_east.corner ∙ (λ i. beyond (corner c.args.site.now) (width (ne i)) 0)) c.in_ok-push_cells-2.ensures q)
    (quarter_added (view c.args.self.now) _ _ _ _ _ _ _ _ sw (ap (λ (r : Quarters). r.south_west) q_is) (c.quarters-sites.ensures.south_west.corner ∙ (λ i. beyond (corner c.args.site.now) 0 (width (sw i)))) c.in_ok-push_cells-3.ensures q)
    (quarter_added (view c.args.self.now) _ _ _ _ _ _ _ _ se (ap (λ (r : Quarters). r.south_east) q_is) (c.quarters-sites.ensures.south_east.corner ∙ (λ i. beyond (corner c.args.site.now) (width (se i)) (width (se i)))) c.in_ok-push_cells-4.ensures q))
