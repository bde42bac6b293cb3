use Rattle.std.proofs.Common.{Some, inl, inr, option_map, ap, refl, ◌∙◌}
use Rattle.census_cli.specs.Asking.{is_address}
use Rattle.census_cli.proofs.request.page_of.Goals as goal

pub returns-in-Some-strange_base : goal.returns-in-Some-strange_base
returns-in-Some-strange_base c =
    let arm = c.in-Some-strange_base in
    inr (inl (refl, inr (ap (option_map is_address) (c.text_if_used-base.ensures ∙ arm.ensures.some.0) ∙ ap Some arm.ensures.some.1)))
