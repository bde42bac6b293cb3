use Rattle.census_page.proofs.Steps.{byte-pushed}
use Rattle.census_page.proofs.html.Html.byte.Goals as goal

pub invariant_of-self : goal.invariant_of-self
invariant_of-self c = byte-pushed c.push_escaped.result c.self.inside.bytes.items c.push_escaped.new.bytes.items c.args.byte c.push_escaped.ensures c.self.invariant
