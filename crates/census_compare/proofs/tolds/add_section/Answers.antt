use Rattle.std.proofs.Common.{◌≡◌, ◌∙◌, ◌+◌, ◌∷◌, ◌++◌, [], None, Global, Vec, ap, arith, map, subst, sym}
use Rattle.std.specs.List.{cons_option}
use Rattle.census_table.specs.Places.{AreBefore}
use Rattle.census_table.specs.declared.place.Place.{Place}
use Rattle.census_table.proofs.Rising.{before-later, before-more, before-next}
use Rattle.census_compare.specs.SamePatterns.{collection_after, told_from}
use Rattle.census_compare.specs.Places.{told_at}
use Rattle.census_compare.proofs.Placed.{place-more, place-none, row-more, row-there, told-there}
use Rattle.census_compare.proofs.tolds.add_section.Goals as goal
use Rattle.census_compare.proofs.tolds.add_section.Goals.{then-is_some+in_ok-of+in_ok-push, else-is_some}

pub loop-index-preserved : goal.loop-index-preserved
loop-index-preserved c =
    let nothing = c.args.nothing.now in
    let sections = c.args.sections.now in
    let told = told_at nothing sections in
    let rows = c.section-rows.result in
    let l = c.loop-index in
    let row = c.row-row.result in
    let next = c.collection_after-opened.result in
    let own = c.told_by.result in
    let all = map told c.args.places.now.items ++ told_from None rows in
    let place : Place = record { collection = c.args.collection; under = c.under_after-under.result; row = l.index } in
    let here = row-there rows l.index row (omega (arith, c.loop-index-test.true, c.len-index-end.ensures)) c.row-row.ensures in
    let opened = c.collection_after-opened.ensures ∙ ap (λ o. collection_after o row) l.invariant.opened ∙ sym (c.under_after-under.ensures rows here) in
    let step : map told c.if-is_some.places.items ≡ map told l.places.items ++ cons_option own [] =
    elim c.if-is_some.branch [
      | then-is_some+in_ok-of+in_ok-push w ↦
          ap (λ (v : Vec Place Global). map told v.items) w.places-is ∙ ap (map told) w.in_ok-push.ensures.items
          ∙ ap (λ (p : Place). map told (l.places.items ++ p ∷ [])) w.in_ok-of.ensures
          ∙ place-more told own l.places.items place (sym w.if-is_some.ensures)
          (λ one some. told-there nothing sections place _ rows next row c.requires c.section-rows.ensures opened here one (sym c.told_by.ensures ∙ some))
      | else-is_some w ↦
          ap (λ (v : Vec Place Global). map told v.items) w.places-is ∙ place-none told own l.places.items (sym w.if-is_some.ensures)
    ] in
    record {
      told = row-more l.opened next rows l.index row all (map told l.places.items) (map told c.if-is_some.places.items)
          (omega (arith, c.loop-index-test.true, c.len-index-end.ensures)) c.row-row.ensures c.collection_after-opened.ensures l.invariant.told
          (step ∙ ap (λ t. map told l.places.items ++ cons_option t []) c.told_by.ensures);
      opened = opened;
      placed = λ before.
          elim c.if-is_some.branch [
            | then-is_some+in_ok-of+in_ok-push w ↦
                subst (AreBefore place.collection (place.row + 1))
                (sym (
                ap (λ (v : Vec Place Global). v.items) w.places-is ∙ w.in_ok-push.ensures.items
                ∙ ap (λ (p : Place). l.places.items ++ p ∷ []) w.in_ok-of.ensures
                ))
                (before-more place l.places.items (l.invariant.placed before))
            | else-is_some w ↦
                subst (AreBefore c.args.collection (l.index + 1)) (sym (ap (λ (v : Vec Place Global). v.items) w.places-is))
                (before-later c.args.collection l.index (l.index + 1) l.places.items (omega arith) (l.invariant.placed before))
          ];
    }

pub returns-clause-placed : goal.returns-clause-placed
returns-clause-placed c =
    let l = c.loop-index in
    λ before. before-next c.args.collection l.index l.places.items (l.invariant.placed before)
