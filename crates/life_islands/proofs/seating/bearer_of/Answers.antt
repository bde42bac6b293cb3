use Rattle.std.proofs.Common.{◌<◌, refl, arith}
use Rattle.std.proofs.lemmas.Bool.{both_ways}
use Rattle.life_islands.specs.Seats.{bears_at, listed}
use Rattle.life_islands.proofs.Colouring.{live_bearing}
use Rattle.life_islands.proofs.seating.bearer_of.Goals as goal

pub returns-then-bearing-lt-AROUND-clause-of : goal.returns-then-bearing-lt-AROUND-clause-of
returns-then-bearing-lt-AROUND-clause-of c =
    let a = c.args in
    let f = c.first_bearing-bearing in
    let h : f.result < 8 = omega arith in (
      f.result,
      record {
        within = h;
        live = live_bearing a.rule.now a.seats.now (listed a.colours.now) f.result (f.ensures.bears h);
        is = refl;
      },
    )

pub returns-then-bearing-lt-AROUND-clause-bears : goal.returns-then-bearing-lt-AROUND-clause-bears
returns-then-bearing-lt-AROUND-clause-bears c n l e =
    let f = c.first_bearing-bearing in
    let h : f.result < 8 = omega arith in
    (f.result, h, f.ensures.bears h, refl)

pub returns-clause-of : goal.returns-clause-of
returns-clause-of c = (c.args.first, record { within = c.requires.first.0; live = c.requires.first.1; is = refl })

pub returns-clause-bears : goal.returns-clause-bears
returns-clause-bears c n l e =
    let a = c.args in
    absurd (both_ways (bears_at a.rule.now a.seats.now (listed a.colours.now) n) (c.first_bearing-bearing.ensures.none n (omega arith)) e)
