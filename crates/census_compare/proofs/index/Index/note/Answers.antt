use Rattle.std.proofs.Common.{◌∙◌, List, ap, set, subst, sym, true}
use Rattle.census_compare.specs.Claims.{claim_read}
use Rattle.census_compare.specs.Index.{AreInOrder, AreOthers, IsFirst, key_lent, slot_of}
use Rattle.census_compare.specs.Patterns.{Key}
use Rattle.census_compare.specs.declared.index.Spot.{Spot}
use Rattle.census_compare.proofs.Noting.{noted-more, noted-others}
use Rattle.census_compare.proofs.index.Index.note.Goals as goal

pub first_of-requires : goal.first_of-requires
first_of-requires c = subst AreInOrder (sym c.as_slice.ensures.value) c.requires.order

pub returns-in-Some-clause-noted : goal.returns-in-Some-clause-noted
returns-in-Some-clause-noted c = λ claims before key n second.
    let index = c.args.self.now in
    let at = c.in-Some.at in
    noted-more claims index (claim_read c.args.claim.now) c.requires before at
    (subst (λ (k : Key). IsFirst k index.spots.items at) c.key_of-key.ensures (subst (λ (ss : List Spot). IsFirst (key_lent c.key_of-key.result) ss at) c.as_slice.ensures.value c.in-Some.ensures))
    (set index.noted.items c.slot_of.result true)
    (ap (λ i. set index.noted.items i true) (c.slot_of.ensures ∙ ap (λ (k : Key). slot_of at k) c.key_of-key.ensures)) key n second

pub returns-in_default-clause-noted : goal.returns-in_default-clause-noted
returns-in_default-clause-noted c = λ claims before.
    let index = c.args.self.now in
    noted-others claims index (claim_read c.args.claim.now) c.requires before
    (subst (λ (k : Key). AreOthers k index.spots.items) c.key_of-key.ensures (subst (λ (ss : List Spot). AreOthers (key_lent c.key_of-key.result) ss) c.as_slice.ensures.value c.in_default.ensures))
