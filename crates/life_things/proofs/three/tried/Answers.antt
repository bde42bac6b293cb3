use Rattle.std.proofs.Common.{◌+◌, ◌*◌, [], ◌∷◌, refl, sym, subst, true≢false, arith}
use Rattle.life_things.specs.Clear.{StaysClear}
use Rattle.life_things.specs.Lattice.Short.{IsShort, three_count, three_start, two_start, way_limit}
use Rattle.life_things.proofs.Going.{between_more}
use Rattle.life_things.proofs.LatticeLemmas.Within.{short_after, short_wider}
use Rattle.life_things.proofs.three.tried.Goals as goal

pub two_ways-requires-clause-start : goal.two_ways-requires-clause-start
two_ways-requires-clause-start c =
    subst (IsShort two_start) (sym c.after.ensures)
    (short_wider (three_start + three_count * way_limit) two_start _ (omega arith)
    (short_after three_start three_count way_limit c.loop-count.count c.args.start c.args.step c.requires.start (omega arith)
    c.requires.step.short))

pub loop-count-init : goal.loop-count-init
loop-count-init c n late early = absurd (omega arith)

pub loop-count-preserved : goal.loop-count-preserved
loop-count-preserved c =
    between_more c.args.one.now c.args.other.now c.args.start c.args.step (c.args.rest.0 ∷ c.args.rest.1 ∷ []) c.args.span.from c.loop-count.count
    c.loop-count.invariant
    (subst (λ s. StaysClear c.args.one.now c.args.other.now s (c.args.rest.0 ∷ c.args.rest.1 ∷ [])) c.after.ensures
    (c.if-not-two_ways.ensures.0 refl))

pub returns-then-not-two_ways : goal.returns-then-not-two_ways
returns-then-not-two_ways c = (
  λ t. absurd (true≢false (sym t)),
  λ clear. c.if-not-two_ways.ensures.1
      (subst (λ s. StaysClear c.args.one.now c.args.other.now s (c.args.rest.0 ∷ c.args.rest.1 ∷ [])) (sym c.after.ensures)
      (clear c.loop-count.count (omega arith) (omega arith))),
)

pub returns : goal.returns
returns c = (λ t n late early. c.loop-count.invariant n late (omega arith), λ clear. refl)
