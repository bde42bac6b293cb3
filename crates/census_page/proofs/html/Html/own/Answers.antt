use Rattle.census_page.proofs.Steps.{html-pushed, own-html}
use Rattle.census_page.specs.Pages.{own_text}
use Rattle.census_page.proofs.html.Html.own.Goals as goal

pub invariant_of-self : goal.invariant_of-self
invariant_of-self c =
    rw (c.extend_from_slice.ensures.items, c.text_of.ensures)
    (html-pushed c.extend_from_slice.result c.self.inside.bytes.items (own_text c.args.number) c.self.invariant (own-html c.args.number))
