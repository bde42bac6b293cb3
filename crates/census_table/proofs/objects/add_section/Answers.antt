use Rattle.std.proofs.Common.{◌∙◌, ◌+◌, ◌++◌, [], ap, arith, map, subst}
use Rattle.std.specs.List.{cons_option}
use Rattle.census_table.specs.Objects.{section_objects}
use Rattle.census_table.specs.Places.{object_at, told_at, AreBefore}
use Rattle.census_table.specs.declared.place.Place.{Place}
use Rattle.census_table.proofs.Placed.{row-more, section-start, section-told, told-here}
use Rattle.census_table.proofs.Rising.{before-later, before-next}
use Rattle.census_table.proofs.objects.add_section.Goals as goal

pub loop-row-init : goal.loop-row-init
loop-row-init c =
    let told = object_at c.args.nothing.now c.args.sections.now in (
      ap (λ os. map told c.args.places.now.items ++ os) (section-start (c.args.collection + 1) c.section-rows.result),
      before-later c.args.collection 0 1 c.args.places.now.items (omega arith),
    )

pub loop-row-preserved : goal.loop-row-preserved
loop-row-preserved c =
    let told = object_at c.args.nothing.now c.args.sections.now in
    let rows = c.section-rows.result in
    let l = c.loop-row in (
      row-more (c.args.collection + 1) rows l.line l.row c.line_at-line.result _ (map told c.args.places.now.items ++ section_objects (c.args.collection + 1) rows)
          (map told l.places.items) (map told c.push_place.new.places.items) (omega arith) c.line_at-line.ensures
          (told-here c.args.sections.now c.args.collection c.line_at-line.result l.row _ rows c.requires.within c.section-rows.ensures)
          l.invariant.0
          (c.in_ok-push_place.ensures.told ∙ ap (λ (p : Place). map told l.places.items ++ cons_option (told_at c.args.sections.now p) []) c.in_ok-place.ensures),
      λ before.
          subst (λ (p : Place). AreBefore p.collection p.row l.places.items → AreBefore p.collection (p.row + 1) c.push_place.new.places.items) c.in_ok-place.ensures
          c.in_ok-push_place.ensures.placed (l.invariant.1 before),
    )

pub returns-clause-told : goal.returns-clause-told
returns-clause-told c =
    let told = object_at c.args.nothing.now c.args.sections.now in
    let l = c.loop-row in
    section-told (c.args.collection + 1) c.args.sections.now c.args.collection l.line l.row _ c.section-rows.result
    (map told c.args.places.now.items) (map told l.places.items) c.requires.within c.section-rows.ensures (omega arith) l.invariant.0

pub returns-clause-placed : goal.returns-clause-placed
returns-clause-placed c =
    let l = c.loop-row in
    λ before. before-next c.args.collection l.row l.places.items (l.invariant.1 before)
