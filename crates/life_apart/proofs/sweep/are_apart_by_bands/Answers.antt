use Rattle.std.proofs.Common.{refl, sym, true≢false}
use Rattle.life_apart.proofs.Sweeping.{all_apart}
use Rattle.life_apart.proofs.sweep.are_apart_by_bands.Goals as goal

pub returns-then-not-are_movers_apart : goal.returns-then-not-are_movers_apart
returns-then-not-are_movers_apart c R of = (
  λ t. absurd (true≢false (sym t)),
  λ pairs. c.if-not-are_movers_apart.ensures.found R of pairs,
)

pub returns : goal.returns
returns c R of = (
  λ t. all_apart R c.args.orbits.now c.args.spans.now of c.requires.spans
      (c.if-not-are_movers_apart.ensures.apart R of refl) (c.are_apart_in_order.ensures.apart R of t),
  λ pairs. c.are_apart_in_order.ensures.found R of pairs,
)
