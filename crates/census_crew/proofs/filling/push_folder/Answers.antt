use Rattle.std.proofs.Common.{List, [], ◌∷◌, ◌+◌, sym, subst}
use Rattle.census_bundle.specs.Tickets.{ticket}
use Rattle.census_crew.specs.declared.item.Item.{Item}
use Rattle.census_crew.specs.declared.item.Item.TheVariants.{Work}
use Rattle.census_crew.specs.Fillings.{CanFollow}
use Rattle.census_crew.proofs.Fills.{next_ticket}
use Rattle.census_crew.proofs.filling.push_folder.Goals as goal

pub push-requires-clause-next : goal.push-requires-clause-next
push-requires-clause-next c =
    subst (λ (l : List Item). CanFollow l (Work (ticket c.args.folder (c.loop-before.before + 1)) ∷ [])) (sym c.loop-before.invariant.pushed) (next_ticket _ _ c.args.count _ c.loop-before-test.true c.requires.next)
