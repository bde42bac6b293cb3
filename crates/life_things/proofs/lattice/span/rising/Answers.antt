use Rattle.std.proofs.Common.{arith}
use Rattle.std.proofs.lemmas.Int.{ints}
use Rattle.life_things.proofs.LatticeLemmas.Rising.{not_after, not_before}
use Rattle.life_things.proofs.lattice.span.rising.Goals as goal

pub returns-clause-within : goal.returns-clause-within
returns-clause-within c n low high = (
  not_before c.args.low c.args.start c.excess.result c.args.gain n c.requires.gain
      (λ h. let more = c.excess.ensures.more (omega (arith, ints)) in omega (arith, ints))
      (λ h. c.excess.ensures.none (omega (arith, ints))) low,
  not_after c.args.high c.args.start c.excess-2.result c.args.gain n c.requires.gain
      (let more = c.excess-2.ensures.more (omega (arith, ints)) in omega (arith, ints)) high,
)
