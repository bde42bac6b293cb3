use Rattle.std.proofs.Common.{ap, ◌∙◌, min}
use Rattle.census_crew.proofs.FeedSteps.{steals, never_finds_empty}
use Rattle.census_crew.specs.Items.{mark_count}
use Rattle.census_crew.proofs.hand.steal.Goals as goal

pub steal_as-requires-clause-takes : goal.steal_as-requires-clause-takes
steal_as-requires-clause-takes g c = let e = c.loop.invariant.2 in steals _ _ (ap (λ v. v.role) e ∙ c.requires.holder) (ap (λ v. mark_count v.taken) e ∙ c.requires.unmarked)

pub steal_as-requires-clause-empty : goal.steal_as-requires-clause-empty
steal_as-requires-clause-empty g c = let e = c.loop.invariant.2 in never_finds_empty _ _ _ (ap (λ f. min f 1) c.requires.seated.1) (ap (λ v. v.role) e ∙ c.requires.holder) (ap (λ v. mark_count v.taken) e ∙ c.requires.unmarked)
