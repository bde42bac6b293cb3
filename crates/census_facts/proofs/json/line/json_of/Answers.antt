use Rattle.std.proofs.Common.{◌∙◌, ap}
use Rattle.std.proofs.lemmas.Result.{IfOk-weaker}
use Rattle.census_facts.specs.Json.Lines.{with_line_ends_escaped}
use Rattle.census_facts.proofs.json.line.json_of.Goals as goal

pub returns : goal.returns
returns c =
    IfOk-weaker c.with_line_ends_escaped.result _ _
    (λ v escaped. escaped ∙ ap with_line_ends_escaped (c.as_slice.ensures.value ∙ c.in_ok-json.ensures.text c.requires)) c.with_line_ends_escaped.ensures
