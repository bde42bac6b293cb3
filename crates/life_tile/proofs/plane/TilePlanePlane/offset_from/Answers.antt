use Rattle.std.proofs.Common.{◌≡◌, ℕ, IfNone, IfSome, subst, ap, ◌∙◌}
use Rattle.life_model.specs.Generation.{Generation, from_list}
use Rattle.life_model.proofs.Generations.{from_list-cells}
use Rattle.life_plane.specs.Offsets.{AreNotTranslates, IsOffset}
use Rattle.life_tile.specs.TileStores.{members_of}
use Rattle.life_tile.proofs.plane.TilePlanePlane.offset_from.Goals as goal

module _ (c : goal.After-offset_from) where
  listed : from_list c.as_slice.result.now ≡ c.args.list.now
  listed = ap from_list c.as_slice.ensures.cells ∙ from_list-cells c.args.list.now

  seen : members_of c.self.inside.store ≡ c.args.self.now.0
  seen = ap (λ (v : Generation × ℕ). v.0) c.self.view_is

pub returns-clause-offset : goal.returns-clause-offset
returns-clause-offset c =
    subst (λ G. IfSome c.offset_from.result (λ d. IsOffset G c.args.self.now.0 d)) (listed c)
    (subst (λ H. IfSome c.offset_from.result (λ d. IsOffset (from_list c.as_slice.result.now) H d)) (seen c) c.offset_from.ensures.offset)

pub returns-clause-apart : goal.returns-clause-apart
returns-clause-apart c =
    subst (λ G. IfNone c.offset_from.result (AreNotTranslates G c.args.self.now.0)) (listed c)
    (subst (λ H. IfNone c.offset_from.result (AreNotTranslates (from_list c.as_slice.result.now) H)) (seen c) c.offset_from.ensures.apart)
