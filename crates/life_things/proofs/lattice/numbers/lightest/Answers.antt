use Rattle.std.proofs.Common.{sym, subst}
use Rattle.life_things.specs.Lattice.Numbers.{IsLighter, turned}
use Rattle.life_things.specs.declared.lattice.numbers.Numbers.{Numbers}
use Rattle.life_things.proofs.LatticeLemmas.Lowering.{lighter_through, lighter_turned}
use Rattle.life_things.proofs.lattice.numbers.lightest.Goals as goal

pub returns-then-ups-eq0-clause-lighter : goal.returns-then-ups-eq0-clause-lighter
returns-then-ups-eq0-clause-lighter c =
    subst (λ (n : Numbers). IsLighter n c.args.numbers) (sym c.turned-back.ensures)
    (lighter_through (turned c.reduced-forth.result) c.reduced-forth.result c.args.numbers
    (lighter_turned c.reduced-forth.result) c.reduced-forth.ensures.lighter)

pub returns-then-downs-ups-clause-lighter : goal.returns-then-downs-ups-clause-lighter
returns-then-downs-ups-clause-lighter c =
    subst (λ (n : Numbers). IsLighter n c.args.numbers) (sym c.turned-back.ensures)
    (lighter_through (turned c.reduced-forth.result) c.reduced-forth.result c.args.numbers
    (lighter_turned c.reduced-forth.result) c.reduced-forth.ensures.lighter)
