use Rattle.std.proofs.Common.{◌≡◌, ℕ, IfNone, IfSome, subst, ap}
use Rattle.life_model.specs.Generation.{Generation}
use Rattle.life_plane.specs.Offsets.{AreNotTranslates, IsOffset}
use Rattle.life_tile.specs.TileStores.{members_of}
use Rattle.life_tile.proofs.plane.TilePlanePlane.offset_from_plane.Goals as goal

module _ (c : goal.After-offset_from_store) where
  first : members_of c.other.inside.store ≡ c.args.other.now.0
  first = ap (λ (v : Generation × ℕ). v.0) c.other.view_is

  second : members_of c.self.inside.store ≡ c.args.self.now.0
  second = ap (λ (v : Generation × ℕ). v.0) c.self.view_is

pub returns-clause-offset : goal.returns-clause-offset
returns-clause-offset c =
    subst (λ G. IfSome c.offset_from_store.result (λ d. IsOffset G c.args.self.now.0 d)) (first c)
    (subst (λ H. IfSome c.offset_from_store.result (λ d. IsOffset (members_of c.other.inside.store) H d)) (second c) c.offset_from_store.ensures.offset)

pub returns-clause-apart : goal.returns-clause-apart
returns-clause-apart c =
    subst (λ G. IfNone c.offset_from_store.result (AreNotTranslates G c.args.self.now.0)) (first c)
    (subst (λ H. IfNone c.offset_from_store.result (AreNotTranslates (members_of c.other.inside.store) H)) (second c) c.offset_from_store.ensures.apart)
