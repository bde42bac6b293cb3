use Rattle.std.proofs.Common.{ℕ, subst, ap, ◌∙◌}
use Rattle.life_model.specs.Generation.{Generation}
use Rattle.life_plane.specs.Span.{set_span}
use Rattle.life_slots.specs.Ends.{AreEnds, IsMember}
use Rattle.life_tile.specs.TileStores.{members_of}
use Rattle.life_tile.proofs.Edges.{set_span_of_ends, set_span_of_none}
use Rattle.life_tile.proofs.plane.TilePlanePlane.span.Goals as goal

pub returns-in-Some : goal.returns-in-Some
returns-in-Some c =
    c.move_between.ensures
    ∙ set_span_of_ends (members_of c.self.inside.store) c.in-Some.ends (subst (AreEnds (IsMember (members_of c.self.inside.store))) c.in-Some.is c.ends.ensures)
    ∙ ap (λ (v : Generation × ℕ). set_span v.0) c.self.view_is

pub returns-in-None : goal.returns-in-None
returns-in-None c =
    set_span_of_none (members_of c.self.inside.store) (subst (AreEnds (IsMember (members_of c.self.inside.store))) c.in-None.is c.ends.ensures)
    ∙ ap (λ (v : Generation × ℕ). set_span v.0) c.self.view_is
