use Rattle.std.proofs.Common.{[], ◌∷◌, refl, sym, subst, true≢false}
use Rattle.std.specs.List.{All}
use Rattle.std.proofs.lemmas.List.Elements.{All-cons, All-head, All-nil, All-tail}
use Rattle.life_things.specs.Ways.{IsFit, way_of, ways_of}
use Rattle.life_things.specs.declared.way.Ways.{Ways}
use Rattle.life_things.proofs.way.are_fit.Goals as goal

abbrev AreFit : Ways → Type 0
AreFit w = All IsFit (ways_of w)

pub returns-in-Once : goal.returns-in-Once
returns-in-Once c = (
  λ t. subst AreFit (sym c.in-Once.is) (All-cons IsFit (way_of c.in-Once.way) [] (c.is_fit.ensures.0 t) (All-nil IsFit)),
  λ fit. c.is_fit.ensures.1 (All-head IsFit (way_of c.in-Once.way) [] (subst AreFit c.in-Once.is fit)),
)

pub returns-then-not-is_fit : goal.returns-then-not-is_fit
returns-then-not-is_fit c = (
  λ t. absurd (true≢false (sym t)),
  λ fit. c.if-not-is_fit.ensures.1
      (All-head IsFit (way_of c.in-Twice.way) (way_of c.in-Twice.other ∷ []) (subst AreFit c.in-Twice.is fit)),
)

pub returns-else-not-is_fit : goal.returns-else-not-is_fit
returns-else-not-is_fit c = (
  λ t. subst AreFit (sym c.in-Twice.is)
      (All-cons IsFit (way_of c.in-Twice.way) (way_of c.in-Twice.other ∷ []) (c.if-not-is_fit.ensures.0 refl)
      (All-cons IsFit (way_of c.in-Twice.other) [] (c.is_fit-in-Twice-2.ensures.0 t) (All-nil IsFit))),
  λ fit. c.is_fit-in-Twice-2.ensures.1
      (All-head IsFit (way_of c.in-Twice.other) []
      (All-tail IsFit (way_of c.in-Twice.way) (way_of c.in-Twice.other ∷ []) (subst AreFit c.in-Twice.is fit))),
)
