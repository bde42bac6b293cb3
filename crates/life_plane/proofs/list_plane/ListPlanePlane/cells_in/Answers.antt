use Rattle.std.proofs.Common.{◌≡◌, ◌++◌, T, List, [], ap, subst, sym, ◌∙◌}
use Rattle.std.proofs.lemmas.List.Elements.{All-same, All-weaker}
use Rattle.life_model.specs.Cell.{Cell}
use Rattle.life_model.specs.Generation.{from_list, is_rising}
use Rattle.life_cells.specs.Limits.{IsPlace, IsWithin}
use Rattle.life_plane.proofs.Later.{place_from_within}
use Rattle.life_plane.proofs.list_plane.ListPlanePlane.cells_in.Goals as goal

copied : (cleared new listed own : List Cell) → new ≡ cleared ++ listed → cleared ≡ [] → listed ≡ own → new ≡ own
copied cleared new listed own grown none same = grown ∙ ap (λ l. l ++ listed) none ∙ same

pub from_ordered-requires-clause-rising : goal.from_ordered-requires-clause-rising
from_ordered-requires-clause-rising c = subst (λ cs. T (is_rising cs)) (sym (copied _ _ _ _ c.in_ok-extend_from_slice.ensures.items c.clear.ensures.items c.as_slice.ensures.value)) c.self.invariant.0

pub from_ordered-requires-clause-placed : goal.from_ordered-requires-clause-placed
from_ordered-requires-clause-placed c =
    All-same IsPlace _ _ (copied _ _ _ _ c.in_ok-extend_from_slice.ensures.items c.clear.ensures.items c.as_slice.ensures.value)
    (All-weaker (IsWithin c.self.inside.age) IsPlace (λ b h. place_from_within c.self.inside.age b c.self.invariant.2 h) c.self.inside.items.items c.self.invariant.1)

pub returns : goal.returns
returns c = record { cells = c.from_ordered.ensures ∙ ap from_list (copied _ _ _ _ c.in_ok-extend_from_slice.ensures.items c.clear.ensures.items c.as_slice.ensures.value) ∙ ap (λ p. p.0) c.self.view_is }
