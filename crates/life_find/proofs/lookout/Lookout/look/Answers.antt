use Rattle.std.proofs.Common.{◌-◌, arith}
use Rattle.life_find.proofs.Quiet.{quiet_here, quiet_next, quiet_after}
use Rattle.life_find.proofs.lookout.Lookout.look.Goals as goal

pub returns-then-self-gt0-clause-apart : goal.returns-then-self-gt0-clause-apart
returns-then-self-gt0-clause-apart g c =
    let some = c.if-self-gt0.true in
    quiet_here c.requires.quiet.0 c.args.listed.now (g.P.Plane.members c.args.plane.now) c.args.self.now.quiet (omega arith) c.requires.quiet.1

pub returns-then-self-gt0-clause-quiet : goal.returns-then-self-gt0-clause-quiet
returns-then-self-gt0-clause-quiet g c R is =
    let some = c.if-self-gt0.true in
    quiet_next R c.args.listed.now (g.P.Plane.members c.args.plane.now) c.args.self.now.quiet (c.args.self.now.quiet - 1) (omega arith) is

pub returns-clause-quiet : goal.returns-clause-quiet
returns-clause-quiet g c R is = quiet_after R c.args.listed.now (g.P.Plane.members c.args.plane.now) c.rest.new.self.quiet (c.in_ok-rest.ensures R)
