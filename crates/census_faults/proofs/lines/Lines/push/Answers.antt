use Rattle.std.proofs.Common.{◌≡◌, ◌++◌, codes, is_ok, ap, ◌∙◌}
use Rattle.std.specs.List.{list_all}
use Rattle.census_bundle.specs.Names.{is_name_byte}
use Rattle.census_faults.specs.Explanations.{told_line}
use Rattle.census_faults.proofs.Adding.{lines_added}
use Rattle.census_faults.proofs.lines.Lines.push.Goals as goal

pub invariant_of-self : goal.invariant_of-self
invariant_of-self c =
    let words = c.as_slice.result.now in
    let told : c.as_slice-2.result.now ≡ told_line words =
    c.as_slice-2.ensures.value ∙ c.in_ok-extend_from_slice-3.ensures.items
    ∙ ap (λ l. l ++ codes "\n") (c.in_ok-extend_from_slice-2.ensures.items ∙ ap (λ l. l ++ words) (c.in_ok-extend_from_slice.ensures.items ∙ ap (λ l. l ++ codes "  ") c.new-line.ensures.items)) in
    lines_added (is_ok c.extend_from_slice-4.result) c.self.inside.bytes.items c.as_slice-2.result.now words c.extend_from_slice-4.new.self.items
    told (ap (list_all is_name_byte) c.as_slice.ensures.value ∙ c.as_slice.ensures.shown) c.self.invariant c.extend_from_slice-4.ensures.items
