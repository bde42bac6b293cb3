use Rattle.std.proofs.Common.{List, [], ◌∷◌, ◌+◌, sym, subst}
use Rattle.census_crew.specs.declared.item.Item.{Item}
use Rattle.census_crew.specs.declared.item.Item.TheVariants.{Mark}
use Rattle.census_crew.specs.Fillings.{CanFollow}
use Rattle.census_crew.proofs.Fills.{next_mark}
use Rattle.census_crew.proofs.filling.push_marks.Goals as goal

pub push-requires-clause-next : goal.push-requires-clause-next
push-requires-clause-next c = subst (λ (l : List Item). CanFollow l (Mark (c.loop-before.before + 1) ∷ [])) (sym c.loop-before.invariant.pushed) (next_mark _ c.args.workers _ c.loop-before-test.true c.requires.next)
