use Rattle.std.proofs.Common.{sym, ap, ◌∙◌, true≢false}
use Rattle.life_model.specs.Generation.{cells, from_list, size}
use Rattle.life_apart.specs.Onsets.Pasts.{pasts}
use Rattle.life_apart.proofs.OnsetsLemmas.Counts.{size-all}
use Rattle.life_apart.proofs.Together.{together_test}
use Rattle.life_apart.proofs.onsets.together.were_together.Goals as goal

pub returns-then-not-were_as_many : goal.returns-then-not-were_as_many
returns-then-not-were_as_many g c = (
  λ t. absurd (true≢false (sym t)),
  λ u. c.if-not-were_as_many.ensures.1
      (sym (size-all (pasts c.args.ago c.args.parts.now) c.requires.disjoint) ∙ ap size u ∙ sym c.population.ensures),
)

pub returns : goal.returns
returns g c =
    together_test c.eq.result (pasts c.args.ago c.args.parts.now) (g.P.Plane.members c.args.plane.now) c.as_slice.result.now
    c.put_in_order.new.items.items c.as_slice-2.result.now c.put_in_order.ensures.rising
    (c.put_in_order.ensures.same ∙ ap from_list (rw c.in-Some.is at c.in_ok-all.ensures.cells)) c.as_slice.ensures.value
    (c.as_slice-2.ensures.cells ∙ ap cells c.in_ok-cells.ensures.cells) c.eq.ensures
