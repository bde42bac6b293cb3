use Rattle.std.proofs.Common.{◌≡◌, pos, sym, subst}
use Rattle.life_growth.specs.Relations.Relations.{product}
use Rattle.life_growth.proofs.RelationsLemmas.Crosses.{square_first, square_second}
use Rattle.life_things.specs.Tries.{ClearTowards}
use Rattle.life_things.proofs.Fielding.{by_all_places, each_place}
use Rattle.life_things.proofs.tries.are_clear.Goals as goal

pub returns : goal.returns
returns c = (
  λ t. by_all_places c.args.one.now c.args.other.now c.args.field c.args.tries c.cross-gauge.result c.requires.field
      (subst (λ g. product g c.args.tries.first ≡ pos 0) (sym c.cross-gauge.ensures.value)
      (square_first c.args.tries.first c.args.tries.second))
      (subst (λ g. product g c.args.tries.second ≡ pos 0) (sym c.cross-gauge.ensures.value)
      (square_second c.args.tries.first c.args.tries.second))
      (each_place c.args.field (ClearTowards c.args.one.now c.args.other.now c.args.tries c.cross-gauge.result)
      (λ m n right below. c.are_clear_in_field.ensures.clear t m n right below)),
  λ clear. c.are_clear_in_field.ensures.all clear,
)
