use Rattle.life_strays.specs.Strays.{IsIslandNow}
use Rattle.life_strays.proofs.Yielded.{one_more}
use Rattle.std.proofs.Common.{sym, subst}
use Rattle.life_strays.proofs.choosing.take_first.Goals as goal

pub returns-clause-some : goal.returns-clause-some
returns-clause-some c = λ R G all before.
    one_more (IsIslandNow R G) c.args.some.now.items c.push.new.self.items c.remove.result
    c.in_ok-push.ensures.items before
    (subst (IsIslandNow R G) (sym c.remove.ensures.value)
    (all 0 c.remove.result c.requires))
