use Rattle.std.proofs.Common.{◌≡◌, ◌+◌, ◌≤◌, ◌∙◌, List, [], ap, arith, drop, get_or, length, sym}
use Rattle.std.specs.Prelude.{min}
use Rattle.std.proofs.lemmas.List.{drop_all, length-append}
use Rattle.census_rows.specs.declared.row.Row.{Row}
use Rattle.census_table.specs.Objects.{all_objects, section_objects}
use Rattle.census_table.proofs.Placed.{min-more, sections-told}
use Rattle.census_table.proofs.objects.count_objects.Goals as goal

pub loop-collection-preserved : goal.loop-collection-preserved
loop-collection-preserved c =
    let all = c.args.sections.now in
    let l = c.loop-collection in
    let i = l.collection in
    let here = section_objects (i + 1) (get_or all i []) in
    let behind = all_objects (i + 1 + 1) (drop (i + 1) all) in
    let cut : length (all_objects (i + 1) (drop i all)) ≡ length here + length behind =
    ap length (sections-told all i (omega arith)) ∙ length-append here behind in (
      ap (λ n. min (n + length behind) 18446744073709551615)
          (c.saturating_add-count.ensures ∙ ap (λ n. min (l.count + n) 18446744073709551615) c.count_section.ensures)
          ∙ min-more l.count (length here) (length behind) (min (length (all_objects 1 all)) 18446744073709551615) 18446744073709551615
          (ap (λ n. min (l.count + n) 18446744073709551615) (sym cut) ∙ l.invariant.0),
      omega (arith, c.saturating_add-count.ensures),
    )

pub returns : goal.returns
returns c =
    let all = c.args.sections.now in
    let l = c.loop-collection in
    let past : length all ≤ l.collection = omega arith in
    let none : length (all_objects (l.collection + 1) (drop l.collection all)) ≡ 0 =
    ap (λ (sections : List (List Row)). length (all_objects (l.collection + 1) sections)) (drop_all l.collection all past) in
    omega (arith, none, l.invariant.0, l.invariant.1)
