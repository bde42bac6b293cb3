use Rattle.std.proofs.Common.{◌∙◌}
use Rattle.census_command.proofs.Asked.{base_is}
use Rattle.census_command.proofs.forms.options_asked.Goals as goal

pub returns : goal.returns
returns c =
    let page = c.args.page.now in
    let base =
    base_is (record {
      title = c.bytes_or.result;
      note = c.bytes_or-2.result;
      sort = c.sort_of.result;
      top = c.count_of.result;
      base = c.bytes_of-base.result;
      links = page.links;
      patterns = page.patterns;
    }) c.bytes_of-base.result in
    λ i. record {
      title = c.bytes_or.ensures i;
      note = c.bytes_or-2.ensures i;
      sort = c.sort_of.ensures i;
      top = c.count_of.ensures i;
      base = (base ∙ c.bytes_of-base.ensures) i;
      links = page.links;
      patterns = page.patterns;
    }
