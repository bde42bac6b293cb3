use Rattle.std.proofs.Common.{◌≡◌, ◌∙◌, ◌+◌, ◌∷◌, ◌++◌, [], List, ap, arith, get_or, map, refl, subst, sym, take}
use Rattle.std.proofs.lemmas.List.{map_push, take_all, take_more}
use Rattle.census_table.specs.Places.{AreBefore}
use Rattle.census_table.specs.declared.place.Place.{Place}
use Rattle.census_table.proofs.Rising.{before-more, none-before}
use Rattle.census_compare.specs.StartsRead.{told_in}
use Rattle.census_compare.proofs.starts.places_of.Goals as goal

pub loop-index-init : goal.loop-index-init
loop-index-init c =
    let none = c.in_ok-places.ensures.items in
    record { told = ap (map (told_in c.args.nothing.now c.args.tolds.now)) none; placed = subst (AreBefore 0 0) (sym none) (none-before 0 0) }

pub loop-index-preserved : goal.loop-index-preserved
loop-index-preserved c =
    let l = c.loop-index in
    let nothing = c.args.nothing.now in
    let tolds = c.args.tolds.now in
    let place : Place = record { collection = 0; under = 0; row = l.index } in
    let new = c.in_ok-push.ensures.items ∙ ap (λ (p : Place). l.places.items ++ p ∷ []) c.in_ok-of.ensures in
    record {
      told = ap (map (told_in nothing tolds)) new
          ∙ map_push (told_in nothing tolds) l.places.items place
          ∙ ap (λ ts. ts ++ get_or tolds l.index nothing ∷ []) l.invariant.told
          ∙ sym (take_more tolds l.index nothing (omega arith));
      placed = subst (AreBefore 0 (l.index + 1)) (sym new) (before-more place l.places.items l.invariant.placed);
    }
