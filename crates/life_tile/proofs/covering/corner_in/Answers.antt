use Rattle.std.proofs.Common.{◌≡◌, sym, subst, ap, pos, ◌+ℤ◌, ◌∙◌}
use Rattle.life_model.specs.Cell.{Cell}
use Rattle.life_cells.specs.Limits.{IsPlace}
use Rattle.life_slots.specs.Places.{IsInside}
use Rattle.life_slots.specs.Slots.{place_of}
use Rattle.life_tile.specs.Reach.{corner_at}
use Rattle.life_tile.proofs.Kept.{inside_from_reached}
use Rattle.life_tile.proofs.Covered.{corner_placed, corner_placed_below}
use Rattle.life_tile.proofs.covering.corner_in.Goals as goal

pub corner_of-requires : goal.corner_of-requires
corner_of-requires c =
    let at : c.place_in.result ≡ place_of c.args.store.now.slots.items c.args.slot = c.place_in.ensures ∙ ap (λ slots. place_of slots c.args.slot) c.deref.ensures.value in
    subst IsInside (sym at)
    (inside_from_reached c.args.store.now.age (place_of c.args.store.now.slots.items c.args.slot) c.requires.kept.young (c.requires.kept.reached c.args.slot c.requires.later c.requires.slot))

pub returns-clause-first : goal.returns-clause-first
returns-clause-first c =
    let at : c.place_in.result ≡ place_of c.args.store.now.slots.items c.args.slot = c.place_in.ensures ∙ ap (λ slots. place_of slots c.args.slot) c.deref.ensures.value in
    subst IsPlace (sym (c.corner_of.ensures ∙ ap corner_at at))
    (corner_placed c.args.store.now.age (place_of c.args.store.now.slots.items c.args.slot) c.requires.kept.young (c.requires.kept.reached c.args.slot c.requires.later c.requires.slot))

pub returns-clause-last : goal.returns-clause-last
returns-clause-last c =
    let at : c.place_in.result ≡ place_of c.args.store.now.slots.items c.args.slot = c.place_in.ensures ∙ ap (λ slots. place_of slots c.args.slot) c.deref.ensures.value in
    subst (λ (d : Cell). IsPlace (d.0, d.1 +ℤ pos 63)) (sym (c.corner_of.ensures ∙ ap corner_at at))
    (corner_placed_below c.args.store.now.age (place_of c.args.store.now.slots.items c.args.slot) c.requires.kept.young (c.requires.kept.reached c.args.slot c.requires.later c.requires.slot))

pub returns-clause-is : goal.returns-clause-is
returns-clause-is c =
    let at : c.place_in.result ≡ place_of c.args.store.now.slots.items c.args.slot = c.place_in.ensures ∙ ap (λ slots. place_of slots c.args.slot) c.deref.ensures.value in
    c.corner_of.ensures ∙ ap corner_at at
