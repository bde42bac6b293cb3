use Rattle.std.proofs.Common.{sym, subst, ap, ◌∙◌}
use Rattle.census_book.specs.Losses.{Loses, lose_all}
use Rattle.census_book.specs.Progress.{Taken, taken_of}
use Rattle.census_book.specs.Slots.{KeepsResults}
use Rattle.census_book.proofs.Losses.{keeps_loses}
use Rattle.census_book.proofs.results.Results.lose.Goals as goal

pub invariant_of-self : goal.invariant_of-self
invariant_of-self c =
    keeps_loses _ _ _ c.args.bundle.now (subst (λ (r : Taken). Loses r.bundle r.taken c.args.bundle.now) (sym c.self.view_is) c.requires) c.self.invariant

pub returns : goal.returns
returns c = ap (λ (r : Taken). taken_of c.args.bundle.now r.question r.taken) c.self.view_is
