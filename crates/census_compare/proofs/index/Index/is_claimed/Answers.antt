use Rattle.std.proofs.Common.{◌≡◌, ◌∙◌, ◌||◌, ap, false, get_or, sym, true}
use Rattle.std.specs.Prelude.{None as Nowhere, Some}
use Rattle.std.proofs.lemmas.List.{get_or_default}
use Rattle.census_compare.specs.Index.{Names, has_key, has_names, names_claimed, names_of}
use Rattle.census_compare.proofs.Keys.{claimed-by, own-name, own-names}
use Rattle.census_compare.proofs.index.Index.is_claimed.Goals as goal

pub returns-then-is_noted : goal.returns-then-is_noted
returns-then-is_noted c = λ claims noted d.
    let spots = c.args.self.now.spots.items in
    let spot = c.index-spot.result.now in
    let names : Names = names_of spot in
    let there = sym c.index-spot.ensures in
    let one = c.is_noted.ensures claims noted c.args.index spot c.requires.within (ap (λ s. has_names (names.0, Nowhere) (names_of s)) there ∙ own-name names) in
    c.if-is_noted.true
    ∙ sym (ap (λ s. names_claimed claims (names_of s)) (get_or_default spots c.args.index d spot c.requires.within ∙ there)
    ∙ claimed-by claims names
    ∙ ap (λ b. b || has_key claims (names.0, Some names.1)) (sym one ∙ c.if-is_noted.true))

pub returns-else-is_noted : goal.returns-else-is_noted
returns-else-is_noted c = λ claims noted d.
    let spots = c.args.self.now.spots.items in
    let spot = c.index-spot.result.now in
    let names : Names = names_of spot in
    let there = sym c.index-spot.ensures in
    let one = c.is_noted.ensures claims noted c.args.index spot c.requires.within (ap (λ s. has_names (names.0, Nowhere) (names_of s)) there ∙ own-name names) in
    let other = c.is_noted-else-is_noted.ensures claims noted c.args.index spot c.requires.within (ap (λ s. has_names (names.0, Some names.1) (names_of s)) there ∙ own-names names) in
    other
    ∙ sym (ap (λ s. names_claimed claims (names_of s)) (get_or_default spots c.args.index d spot c.requires.within ∙ there)
    ∙ claimed-by claims names
    ∙ ap (λ b. b || has_key claims (names.0, Some names.1)) (sym one ∙ c.if-is_noted.false))
