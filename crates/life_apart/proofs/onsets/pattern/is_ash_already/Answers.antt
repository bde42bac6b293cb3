use Rattle.std.proofs.Common.{◌-◌, true≢false, sym, ◌∙◌}
use Rattle.std.proofs.lemmas.Result.{IfOk-weaker}
use Rattle.life_apart.specs.Onsets.Pasts.{pasts}
use Rattle.life_apart.proofs.OnsetsLemmas.Onsets.{apart_now, disjoint_now, together_tells, too_early}
use Rattle.life_apart.proofs.onsets.pattern.is_ash_already.Goals as goal

pub returns-then-now-since : goal.returns-then-now-since
returns-then-now-since g c R b G rule since members ash = (
  λ t. absurd (true≢false (sym t)),
  λ has. absurd (too_early R c.args.parts.now rule c.requires.courses c.args.since c.args.age c.args.now c.requires.before since
      b G ash c.if-now-since.true has),
)

pub were_together-requires-clause-disjoint : goal.were_together-requires-clause-disjoint
were_together-requires-clause-disjoint g c =
    let R = c.requires.since.0 in
    disjoint_now R (pasts (c.args.age - c.args.now) c.args.parts.now)
    (apart_now R c.args.parts.now c.requires.since.1 c.requires.courses c.args.since c.args.age c.args.now c.requires.before
    c.requires.since.2 c.if-now-since.false)

pub returns : goal.returns
returns g c =
    IfOk-weaker c.were_together.result _ _
    (λ were told R b G rule since members ash.
    let tells = together_tells R c.args.parts.now rule c.requires.courses c.args.since c.args.age c.args.now c.requires.before
    since b G ash c.if-now-since.false in (
      λ t. tells.1 (told.0 t ∙ members),
      λ has. told.1 (tells.0 has ∙ sym members),
    ))
    c.were_together.ensures
