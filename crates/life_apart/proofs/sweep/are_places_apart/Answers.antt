use Rattle.std.proofs.Common.{◌≡◌, get_or, inl, inr, sym, ap, subst, ◌∙◌, arith}
use Rattle.std.proofs.lemmas.List.{get_or_read}
use Rattle.life_objects.specs.Apart.{AreApartForEver}
use Rattle.life_orbit.specs.Course.{Course}
use Rattle.life_apart.proofs.sweep.are_places_apart.Goals as goal

pub returns : goal.returns
returns c R of =
    let os = c.args.orbits.now in
    let one = c.index-orbits-first.result in
    let other = c.index-orbits-second.result in
    let rule : one.rule ≡ R = ap (λ (o : Course). o.rule) c.index-orbits-first.is ∙ of c.args.first one c.requires.first in
    let here : (e : Course) → one ≡ get_or os c.args.first e =
    get_or_read os c.args.first one c.requires.first c.index-orbits-first.is in
    let there : (e : Course) → other ≡ get_or os c.args.second e =
    get_or_read os c.args.second other c.requires.second c.index-orbits-second.is in
    let differ = c.if-first-second.false in (
      λ t. inr (λ e. subst (λ (o : Course). AreApartForEver R o.set (get_or os c.args.second e).set) (here e)
          (subst (λ (o : Course). AreApartForEver R one.set o.set) (there e)
          (subst (λ S. AreApartForEver S one.set other.set) rule (c.is_apart_for_ever_from.ensures.0 t)))),
      elim [
        | inl same ↦ absurd (omega arith)
        | inr apart ↦ c.is_apart_for_ever_from.ensures.1
            (subst (λ S. AreApartForEver S one.set other.set) (sym rule)
            (subst (λ (o : Course). AreApartForEver R o.set other.set) (sym (here one))
            (subst (λ (o : Course). AreApartForEver R (get_or os c.args.first one).set o.set) (sym (there one)) (apart one))))
      ],
    )
