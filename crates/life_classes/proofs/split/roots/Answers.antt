use Rattle.std.proofs.Common.{◌≡◌, inl, inr, refl, arith}
use Rattle.std.proofs.lemmas.Bool.{cases_lt}
use Rattle.life_classes.proofs.Forests.{root-past, root-stays}
use Rattle.life_classes.proofs.Lookups.{length_pushed, pushed}
use Rattle.life_classes.proofs.split.roots.Goals as goal

pub loop-n-preserved : goal.loop-n-preserved
loop-n-preserved c =
    let old = c.loop-n.forest.items in
    let new = c.push.new.self.items in
    let n = c.loop-n.n in
    let long = c.loop-n.invariant.long in
    record {
      long = length_pushed old new n n long c.in_ok-push.ensures.items;
      own = pushed (λ m k. k ≡ m) old new n n long c.in_ok-push.ensures.items c.loop-n.invariant.own refl;
    }

pub returns-clause-roots : goal.returns-clause-roots
returns-clause-roots c k =
    let f = c.loop-n.forest.items in
    let long = c.loop-n.invariant.long in
    elim (cases_lt k c.loop-n.n) [
      | inl less ↦
          let own = c.loop-n.invariant.own k k less in
          root-stays f k (omega arith)
      | inr more ↦ root-past f k (omega arith)
    ]
