use Rattle.std.proofs.Common.{◌≡◌, ◌+◌, ◌∙◌, List, ap, ap₂, drop, false, subst, sym, true}
use Rattle.census_compare.specs.Claims.{claim_read}
use Rattle.census_compare.specs.Index.{AreInOrder, AreOthers, IsFirst, begins_with, key_lent, one_match}
use Rattle.census_compare.specs.Patterns.{Key, key_of}
use Rattle.census_compare.specs.declared.index.Spot.{Spot}
use Rattle.census_compare.proofs.Known.{match-nothing, match-one, match-several}
use Rattle.census_compare.proofs.index.Index.match_of.Goals as goal

pub first_of-requires : goal.first_of-requires
first_of-requires c = subst AreInOrder (sym c.as_slice-spots.ensures.value) c.requires.order

pub returns-in_default : goal.returns-in_default
returns-in_default c =
    let key : Key = key_of (claim_read c.args.claim.now) in
    match-nothing c.args.self.now c.requires key
    (subst (λ (k : Key). AreOthers k c.args.self.now.spots.items) c.key_of-key.ensures
    (subst (λ (ss : List Spot). AreOthers (key_lent c.key_of-key.result) ss) c.as_slice-spots.ensures.value c.in_default.ensures))

pub returns-then-begins_with : goal.returns-then-begins_with
returns-then-begins_with c =
    let key : Key = key_of (claim_read c.args.claim.now) in
    let at = c.in-Some.at in
    let spots = c.args.self.now.spots.items in
    let first : IsFirst key spots at =
    subst (λ (k : Key). IsFirst k spots at) c.key_of-key.ensures (subst (λ (ss : List Spot). IsFirst (key_lent c.key_of-key.result) ss at) c.as_slice-spots.ensures.value c.in-Some.ensures) in
    let left : c.split_at.result.1.now ≡ drop (at + 1) spots = c.split_at.ensures.back ∙ ap (λ (ss : List Spot). drop (at + 1) ss) c.as_slice-spots.ensures.value in
    let begins : begins_with key (drop (at + 1) spots) ≡ true =
    sym (c.begins_with.ensures ∙ ap₂ (λ (k : Key) (ss : List Spot). begins_with k ss) c.key_of-key.ensures left) ∙ c.if-begins_with.true in
    match-several c.args.self.now c.requires key at first begins

pub returns-in-Some-2 : goal.returns-in-Some-2
returns-in-Some-2 c =
    let key : Key = key_of (claim_read c.args.claim.now) in
    let at = c.in-Some.at in
    let spots = c.args.self.now.spots.items in
    let first : IsFirst key spots at =
    subst (λ (k : Key). IsFirst k spots at) c.key_of-key.ensures (subst (λ (ss : List Spot). IsFirst (key_lent c.key_of-key.result) ss at) c.as_slice-spots.ensures.value c.in-Some.ensures) in
    let left : c.split_at.result.1.now ≡ drop (at + 1) spots = c.split_at.ensures.back ∙ ap (λ (ss : List Spot). drop (at + 1) ss) c.as_slice-spots.ensures.value in
    let begins : begins_with key (drop (at + 1) spots) ≡ false =
    sym (c.begins_with.ensures ∙ ap₂ (λ (k : Key) (ss : List Spot). begins_with k ss) c.key_of-key.ensures left) ∙ c.if-begins_with.false in
    ap one_match (sym c.in-Some-2.is ∙ c.in_ok-entry.ensures)
    ∙ match-one c.args.self.now c.requires key at _ c.as_slice-spots.result.now c.as_slice-spots.ensures.value first begins

pub returns-in-None : goal.returns-in-None
returns-in-None c =
    let key : Key = key_of (claim_read c.args.claim.now) in
    let at = c.in-Some.at in
    let spots = c.args.self.now.spots.items in
    let first : IsFirst key spots at =
    subst (λ (k : Key). IsFirst k spots at) c.key_of-key.ensures (subst (λ (ss : List Spot). IsFirst (key_lent c.key_of-key.result) ss at) c.as_slice-spots.ensures.value c.in-Some.ensures) in
    let left : c.split_at.result.1.now ≡ drop (at + 1) spots = c.split_at.ensures.back ∙ ap (λ (ss : List Spot). drop (at + 1) ss) c.as_slice-spots.ensures.value in
    let begins : begins_with key (drop (at + 1) spots) ≡ false =
    sym (c.begins_with.ensures ∙ ap₂ (λ (k : Key) (ss : List Spot). begins_with k ss) c.key_of-key.ensures left) ∙ c.if-begins_with.false in
    ap one_match (sym c.in-None.is ∙ c.in_ok-entry.ensures)
    ∙ match-one c.args.self.now c.requires key at _ c.as_slice-spots.result.now c.as_slice-spots.ensures.value first begins
