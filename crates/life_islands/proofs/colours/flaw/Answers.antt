use Rattle.std.proofs.Common.{arith}
use Rattle.life_islands.proofs.Colouring.{flaw_by_none, sound_by_once}
use Rattle.life_islands.proofs.colours.flaw.Goals as goal

pub returns-then-is_born-clause-some : goal.returns-then-is_born-clause-some
returns-then-is_born-clause-some c =
    flaw_by_none c.args.rule.now c.args.seats.now c.args.is_born c.args.bearer c.args.other c.args.colours.now c.if-is_born.true
    (λ k h. c.first_bearing-first.ensures.none k (omega arith))

pub returns-clause-none : goal.returns-clause-none
returns-clause-none c =
    sound_by_once c.args.rule.now c.args.seats.now c.args.is_born c.args.bearer c.args.other c.args.colours.now
    c.first_bearing-first.result (omega arith) (c.first_bearing-first.ensures.bears (omega arith)) c.if-not-is_born.false
    (c.is_borne_twice.ensures.once c.if-is_borne_twice.false) c.requires.begun c.if-seats-first.false
