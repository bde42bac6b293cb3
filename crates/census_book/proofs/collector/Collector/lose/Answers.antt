use Rattle.std.proofs.Common.{sym, subst}
use Rattle.census_book.specs.Losses.{Loses}
use Rattle.census_book.specs.Progress.{Progress, Taken}
use Rattle.census_book.specs.Front.{IsFront}
use Rattle.census_book.proofs.Losses.{front_loses}
use Rattle.census_book.proofs.collector.Collector.lose.Goals as goal

pub invariant_of-self : goal.invariant_of-self
invariant_of-self c =
    subst (λ (t : Taken). IsFront t.bundle t.taken c.self.inside.front.runs.items c.self.inside.front.first_open) (sym c.lose.ensures)
    (front_loses _ _ c.args.bundle.now _ _ (subst (λ (p : Progress). Loses p.bundle p.taken c.args.bundle.now) (sym c.self.view_is) c.requires) c.self.invariant)
