use Rattle.std.proofs.Common.{◌≡◌, Bool, true, false, not, length, sym, ap, subst, ◌∙◌, true≢false, arith}
use Rattle.std.specs.List.{list_any}
use Rattle.life_model.specs.Generation.{Generation}
use Rattle.life_objects.specs.Apart.{AreApart}
use Rattle.life_classes.specs.Nearness.{reaches}
use Rattle.life_classes.proofs.Steps.{apart_by_reach, apart_from_none}
use Rattle.life_classes.proofs.walking.is_apart.Goals as goal

not_both : (b : Bool) → not b ≡ true → b ≡ true → ⊥
not_both true h e = true≢false (sym h)
not_both false h e = true≢false (sym e)

pub returns-then-rest-eq0 : goal.returns-then-rest-eq0
returns-then-rest-eq0 g c t =
    apart_from_none (g.P.Plane.members c.args.parted.now.herd) c.args.parted.now.rest.last.cells
    (let long = ap length c.as_slice-rest.ensures.cells in let none = c.if-rest-eq0.true in omega arith)

pub returns : goal.returns
returns g c t =
    let H = c.args.parted.now.rest.last.cells in
    subst (λ (G : Generation). AreApart G H) c.in_ok-herd.ensures.cells
    (apart_by_reach c.in_ok-herd.herd H (λ e.
    not_both c.reaches_any.result t
    (c.reaches_any.ensures ∙ ap (list_any (reaches 2 c.in_ok-herd.herd)) c.as_slice-rest.ensures.cells ∙ e)))
