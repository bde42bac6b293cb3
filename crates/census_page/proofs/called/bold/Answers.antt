use Rattle.std.proofs.Common.{◌++◌, ◌∙◌, ap, append_assoc}
use Rattle.census_page.specs.Pages.{bold_end_text, bold_text, escaped}
use Rattle.census_page.proofs.called.bold.Goals as goal

pub returns : goal.returns
unfolding bold_text bold_end_text
returns c =
    c.in_ok-extend_from_slice-2.ensures.items
    ∙ ap (λ xs. xs ++ bold_end_text)
    (c.in_ok-extend_from_slice.ensures.items ∙ ap (λ xs. xs ++ c.as_slice.result.now) c.in_ok-made.ensures.items
    ∙ ap (λ xs. bold_text ++ xs) (c.as_slice.ensures.value ∙ c.in_ok-name.ensures))
    ∙ append_assoc bold_text (escaped c.args.name.now) bold_end_text
