use Rattle.std.proofs.Common.{◌≡◌, inl, inr, subst, arith}
use Rattle.std.proofs.lemmas.Bool.{cases_lt}
use Rattle.life_apart.specs.Onsets.Since.{IsMoverApartFrom}
use Rattle.life_apart.proofs.OnsetsLemmas.Sinces.{all_since, places_later}
use Rattle.life_apart.proofs.onsets.since.all_apart_since.Goals as goal

pub loop-place-preserved : goal.loop-place-preserved
loop-place-preserved c =
    let one = c.later-since.ensures.first in
    let other = c.later-since.ensures.second in
    let os = c.args.parts.now in
    let age = c.args.age in
    let since = c.loop-place.since in
    let now = c.mover_apart_since.result in
    record {
      apart = λ R are i before.
          elim (cases_lt i c.loop-place.place) [
            | inl early ↦ λ e moves j within.
                places_later R os are age since c.later-since.result i j one
                (c.loop-place.invariant.apart R are i early e moves j within)
            | inr late ↦
                let last : c.loop-place.place ≡ i = omega arith in
                subst (IsMoverApartFrom R age os c.later-since.result) last
                (λ e moves j within. places_later R os are age now c.later-since.result c.loop-place.place j other
                (c.mover_apart_since.ensures.apart R are e moves j within))
          ];
      needed = λ R are n apart. c.later-since.ensures.most n (c.loop-place.invariant.needed R are n apart)
          (c.mover_apart_since.ensures.needed R are n apart);
      within = c.later-since.ensures.most age c.loop-place.invariant.within c.mover_apart_since.ensures.within;
    }

pub returns-clause-since : goal.returns-clause-since
returns-clause-since c R are =
    let ended = c.loop-place-test.false in
    all_since R c.args.parts.now are c.args.age c.loop-place.since
    (λ i within. c.loop-place.invariant.apart R are i (omega arith))
    (c.loop-place.invariant.needed R are)
