-- The quarters in the order of each side.
use Rattle.std.proofs.Common.{◌≡◌, suc, ◌-◌, ◌⊎◌, inl, inr, ⊎_elim, arith}
use Rattle.life_advance.specs.Leaps.Stores.{view}
use Rattle.life_advance.proofs.LeapsLemmas.FarLemmas.{four_parts}
use Rattle.life_advance.proofs.leaps.store.Store.spots.Goals as goal

swapped : (A B : Type 0) → A ⊎ B → B ⊎ A
swapped A B h = ⊎_elim (λ a. inr a) (λ b. inl b) h

turned : (A B C D : Type 0) → (A ⊎ B) ⊎ (C ⊎ D) → (A ⊎ C) ⊎ (B ⊎ D)
turned A B C D h =
    ⊎_elim
    (λ north. ⊎_elim (λ a. inl (inl a)) (λ b. inr (inl b)) north)
    (λ south. ⊎_elim (λ c. inl (inr c)) (λ d. inr (inr d)) south)
    h

pub returns-in-North : goal.returns-in-North
returns-in-North c =
    let level : suc (c.args.spot.now.site.level - 1) ≡ c.args.spot.now.site.level = omega arith in
    let f = four_parts (view c.args.self.now) c.requires.kept c.args.spot.now c.requires.spot (c.args.spot.now.site.level - 1) level c.quarters-sites.result c.quarters-sites.ensures c.quarters-quarters.result c.quarters-quarters.ensures in
    record { first = f.north_west; second = f.north_east; third = f.south_west; fourth = f.south_east; all = f.all }

pub returns-in-South : goal.returns-in-South
returns-in-South c =
    let level : suc (c.args.spot.now.site.level - 1) ≡ c.args.spot.now.site.level = omega arith in
    let f = four_parts (view c.args.self.now) c.requires.kept c.args.spot.now c.requires.spot (c.args.spot.now.site.level - 1) level c.quarters-sites.result c.quarters-sites.ensures c.quarters-quarters.result c.quarters-quarters.ensures in
    record { first = f.south_west; second = f.south_east; third = f.north_west; fourth = f.north_east; all = λ q h. swapped _ _ (f.all q h) }

pub returns-in-West : goal.returns-in-West
returns-in-West c =
    let level : suc (c.args.spot.now.site.level - 1) ≡ c.args.spot.now.site.level = omega arith in
    let f = four_parts (view c.args.self.now) c.requires.kept c.args.spot.now c.requires.spot (c.args.spot.now.site.level - 1) level c.quarters-sites.result c.quarters-sites.ensures c.quarters-quarters.result c.quarters-quarters.ensures in
    record { first = f.north_west; second = f.south_west; third = f.north_east; fourth = f.south_east; all = λ q h. turned _ _ _ _ (f.all q h) }

pub returns-in-East : goal.returns-in-East
returns-in-East c =
    let level : suc (c.args.spot.now.site.level - 1) ≡ c.args.spot.now.site.level = omega arith in
    let f = four_parts (view c.args.self.now) c.requires.kept c.args.spot.now c.requires.spot (c.args.spot.now.site.level - 1) level c.quarters-sites.result c.quarters-sites.ensures c.quarters-quarters.result c.quarters-quarters.ensures in
    record { first = f.north_east; second = f.south_east; third = f.north_west; fourth = f.south_west; all = λ q h. swapped _ _ (turned _ _ _ _ (f.all q h)) }
