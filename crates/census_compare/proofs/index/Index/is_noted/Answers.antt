use Rattle.std.proofs.Common.{◌+◌, ◌<◌, ◌∙◌, List, ap, arith, false, get_or, length, subst, sym}
use Rattle.std.proofs.lemmas.List.{get_or_default}
use Rattle.census_compare.specs.Index.{AreInOrder, IsFirst, key_lent, slot_of}
use Rattle.census_compare.specs.declared.index.Spot.{Spot}
use Rattle.census_compare.proofs.Noting.{key-within}
use Rattle.census_compare.proofs.index.Index.is_noted.Goals as goal

pub first_of-requires : goal.first_of-requires
first_of-requires c = subst AreInOrder (sym c.as_slice.ensures.value) c.requires.order

pub returns-in-Some : goal.returns-in-Some
returns-in-Some c = λ claims noted k d less e.
    let key = key_lent c.args.key.now in
    let at = c.in-Some.at in
    let spots = c.args.self.now.spots.items in
    let bits = c.args.self.now.noted.items in
    let first : IsFirst key spots at = subst (λ (ss : List Spot). IsFirst key ss at) c.as_slice.ensures.value c.in-Some.ensures in
    let small = key-within at (length spots) key first.within in
    let long = c.requires.long in
    let here : slot_of at key < length bits = omega (arith, small, long) in
    c.index.ensures
    ∙ get_or_default bits c.slot_of.result c.index.result.now false (subst (λ n. n < length bits) (sym c.slot_of.ensures) here)
    ∙ ap (λ n. get_or bits n false) c.slot_of.ensures
    ∙ noted key at first
