use Rattle.std.proofs.Common.{◌≤◌, refl, inr, sym, ap, subst, ◌∙◌}
use Rattle.life_model.specs.Rule.{born}
use Rattle.life_islands.specs.Seats.{AreTiedBy}
use Rattle.life_islands.proofs.Barren.{all_sound_by_none}
use Rattle.life_islands.proofs.seating.link_at.Goals as goal

pub returns-then-bears_none-clause-none : goal.returns-then-bears_none-clause-none
returns-then-bears_none-clause-none c =
    let R = c.args.rule.now in
    let seats = c.args.seats.now in
    inr (
      0,
      all_sound_by_none R seats (λ k h.
          c.if-bears_none.ensures refl k (subst (λ n. k ≤ n) (sym c.count_live-count.ensures.value) h)) 0,
    )

pub returns-clause-some : goal.returns-clause-some
returns-clause-some c =
    let R = c.args.rule.now in
    let seats = c.args.seats.now in
    let bearer = c.bearer_of-bearer in
    let found = c.in_ok-found.ensures.some in
    record {
      first = bearer.ensures.of.0;
      second = found.1.0;
      of_first = bearer.ensures.of.1;
      of_second = found.1.1;
      differ = λ e. found.0 (sym e);
      tied = subst (λ b. AreTiedBy R seats b bearer.result c.in_ok-found.found)
          (c.born-is_born.ensures ∙ ap (born R) c.count_live-count.ensures.value) found.2;
    }
