use Rattle.std.proofs.Common.{◌∙◌, sym, map}
use Rattle.std.proofs.lemmas.List.{length-map}
use Rattle.census_compare.specs.Claims.{no_claim, title_read}
use Rattle.census_compare.proofs.Claiming.{claim-unequal}
use Rattle.census_compare.proofs.claim.claim_of.Goals as goal

pub returns-then-titles-cells : goal.returns-then-titles-cells
returns-then-titles-cells c =
    let cells = map (λ cell. cell.items) c.args.cells.now in
    let titles = map title_read c.args.titles.now in
    sym (claim-unequal no_claim titles cells
    (λ e. c.if-titles-cells.true (sym (length-map c.args.titles.now title_read) ∙ e ∙ length-map c.args.cells.now (λ cell. cell.items))))
