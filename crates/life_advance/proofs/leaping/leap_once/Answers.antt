-- A plane whose leap ran out of memory is unchanged.
use Rattle.std.proofs.Common.{◌∙◌, subst, sym}
use Rattle.life_advance.specs.Later.{IsLater}
use Rattle.life_advance.specs.Leaps.Planes.{Seen, rule_of}
use Rattle.life_advance.proofs.Laters.{later_kept}
use Rattle.life_advance.proofs.leaping.leap_once.Goals.{then-exponent-eq0-via-then-exponent-eq0, then-exponent-eq0-via-else-exponent-eq0+then-is_err}
use Rattle.life_advance.proofs.leaping.leap_once.Goals as goal

pub returns-then-exponent-eq0-clause-later : goal.returns-then-exponent-eq0-clause-later
returns-then-exponent-eq0-clause-later c =
    let refused = c.in-Err-Memory.ensures.unchanged in
    let stays = later_kept (rule_of c.args.plane.now) c.args.plane.now c.make_room.new.plane c.leap.new.self c.make_room.ensures refused.0 refused.1 in
    elim c.then-exponent-eq0.branch [
      | then-exponent-eq0-via-then-exponent-eq0 w ↦ subst (λ (p : Seen). IsLater (rule_of c.args.plane.now) c.args.plane.now.0 p.0) (sym w.plane-is) stays
      | then-exponent-eq0-via-else-exponent-eq0+then-is_err w ↦
          subst (λ (p : Seen). IsLater (rule_of c.args.plane.now) c.args.plane.now.0 p.0) (sym (w.plane-is ∙ w.collect.ensures)) stays
    ]

pub returns-in-Err-Work-clause-later : goal.returns-in-Err-Work-clause-later
returns-in-Err-Work-clause-later c =
    let refused = c.in-Err-Work.ensures.unchanged in
    later_kept _ c.args.plane.now c.make_room.new.plane c.leap.new.self c.make_room.ensures refused.0 refused.1

pub returns-else-is_err-clause-later : goal.returns-else-is_err-clause-later
returns-else-is_err-clause-later c =
    let refused = c.in-Err-Memory.ensures.unchanged in
    let stays = later_kept (rule_of c.args.plane.now) c.args.plane.now c.make_room.new.plane c.leap.new.self c.make_room.ensures refused.0 refused.1 in
    subst (λ (p : Seen). IsLater (rule_of c.args.plane.now) c.args.plane.now.0 p.0) (sym c.collect.ensures) stays
