use Rattle.std.proofs.Common.{◌≡◌, inl, inr, subst, arith}
use Rattle.std.proofs.lemmas.Bool.{cases_lt}
use Rattle.life_apart.specs.Onsets.Since.{ArePlacesApartFrom}
use Rattle.life_apart.proofs.OnsetsLemmas.Sinces.{places_later}
use Rattle.life_apart.proofs.onsets.since.place_apart_since.Goals as goal

pub loop-other-preserved : goal.loop-other-preserved
loop-other-preserved c =
    let one = c.later-since.ensures.first in
    let other = c.later-since.ensures.second in
    let os = c.args.parts.now in
    let age = c.args.age in
    let since = c.loop-other.since in
    let now = c.places_apart_since.result in
    record {
      apart = λ R are j within.
          elim (cases_lt j c.loop-other.other) [
            | inl early ↦ places_later R os are age since c.later-since.result c.args.place j one
                (c.loop-other.invariant.apart R are j early)
            | inr late ↦
                let last : c.loop-other.other ≡ j = omega arith in
                subst (ArePlacesApartFrom R age os c.later-since.result c.args.place) last
                (places_later R os are age now c.later-since.result c.args.place c.loop-other.other other
                (c.places_apart_since.ensures.apart R are))
          ];
      needed = λ R are n apart. c.later-since.ensures.most n (c.loop-other.invariant.needed R are n apart)
          (c.places_apart_since.ensures.needed R are n apart);
      within = c.later-since.ensures.most age c.loop-other.invariant.within c.places_apart_since.ensures.within;
    }

pub returns-clause-apart : goal.returns-clause-apart
returns-clause-apart c R are j within =
    let ended = c.loop-other-test.false in
    c.loop-other.invariant.apart R are j (omega arith)
