use Rattle.std.proofs.Common.{refl, sym, ◌∙◌, true≢false}
use Rattle.std.proofs.lemmas.List.Elements.{All-weaker}
use Rattle.std.proofs.lemmas.Result.{IfOk-weaker}
use Rattle.life_apart.specs.Sets.{IsCourseBy}
use Rattle.life_ash.specs.Parts.{IsFit}
use Rattle.life_ash.proofs.ash_orbits.is_ash.Goals as goal

pub are_apart-requires : goal.are_apart-requires
are_apart-requires g c = (
  c.args.rule.now,
  All-weaker (IsFit c.args.rule.now c.args.bound) (IsCourseBy c.args.rule.now) (λ o fit. fit.rule)
      c.args.parts.now c.requires.fit,
)

pub returns-then-not-are_apart : goal.returns-then-not-are_apart
returns-then-not-are_apart g c = (
  λ t. absurd (true≢false (sym t)),
  λ ash. (c.if-not-are_apart.ensures c.args.rule.now
      (All-weaker (IsFit c.args.rule.now c.args.bound) (IsCourseBy c.args.rule.now) (λ o fit. fit.rule)
      c.args.parts.now c.requires.fit)).1 ash.apart,
)

pub returns : goal.returns
returns g c =
    let of = All-weaker (IsFit c.args.rule.now c.args.bound) (IsCourseBy c.args.rule.now) (λ o fit. fit.rule)
    c.args.parts.now c.requires.fit in
    IfOk-weaker c.are_objects.result _ _ (λ is objects. (
      λ t. record {
        together = c.in_ok-are_together.ensures.0 c.if-not-branch.false ∙ c.in_ok-cells.ensures.cells;
        apart = (c.if-not-are_apart.ensures c.args.rule.now of).0 refl;
        objects = objects.0 t;
      },
      λ ash. objects.1 ash.objects,
    )) c.are_objects.ensures
