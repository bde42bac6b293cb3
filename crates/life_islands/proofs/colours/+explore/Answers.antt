use Rattle.std.proofs.Common.{◌≡◌, inl, inr, length, arith, rules}
use Rattle.std.proofs.lemmas.Bool.{both_ways, cases_lt}
use Rattle.life_islands.specs.Seats.{listed}
use Rattle.life_islands.proofs.Colouring.{begin_more, begun_more, colour_tried, it_fits, none_weaker, sound-alike}
use Rattle.life_islands.proofs.colours.+explore.Goals as goal
use Rattle.life_islands.proofs.colours.+explore.Goals.{then-fits+in_default, else-fits}

pub returns-then-at-ge-AROUND-clause-none : goal.returns-then-at-ge-AROUND-clause-none
returns-then-at-ge-AROUND-clause-none t c =
    let a = c.args in
    none_weaker c.flaw.result _ _ (λ s colour tried begins.
    sound-alike a.rule.now a.seats.now a.is_born a.bearer (listed a.colours) colour (λ k h. begins k (omega arith)) s)
    c.flaw.ensures.none

pub explore-requires : goal.explore-requires
explore-requires t c =
    let a = c.args in
    let long : length c.args.colours ≡ 8 = search rules in (
      omega (arith, c.decreases),
      (
        c.requires.long,
        (
          omega arith,
          begun_more a.seats.now a.colours a.at c.loop-colour.colour long (omega arith) c.requires.begun (c.fits.ensures.0 c.if-fits.true),
        ),
      ),
    )

pub loop-colour-preserved : goal.loop-colour-preserved
loop-colour-preserved t c colour tried begins h =
    let a = c.args in
    let long : length c.args.colours ≡ 8 = search rules in
    elim (cases_lt (colour a.at) c.loop-colour.colour) [
      | inl less ↦ c.loop-colour.invariant colour tried begins less
      | inr no_less ↦
          let same : colour a.at ≡ c.loop-colour.colour = omega arith in
          elim c.if-fits.branch [
            | then-fits+in_default w ↦
                w.in_default.ensures.none colour tried
                (begin_more a.seats.now a.colours a.at c.loop-colour.colour long (omega arith) colour begins same)
            | else-fits w ↦
                absurd (both_ways c.fits.result w.if-fits.false
                (c.fits.ensures.1 (it_fits a.seats.now a.colours a.at c.loop-colour.colour long (omega arith) colour begins same tried)))
          ]
    ]

pub returns-clause-none : goal.returns-clause-none
returns-clause-none t c colour tried begins =
    let a = c.args in
    let all = colour_tried a.seats.now colour a.at c.choices-colour-end.result (omega arith) tried c.choices-colour-end.ensures.live
    c.choices-colour-end.ensures.rest in
    c.loop-colour.invariant colour tried begins (let h = c.loop-colour-test.false in omega arith)
