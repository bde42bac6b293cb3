use Rattle.std.proofs.Common.{◌≡◌, drop, map}
use Rattle.census_compare.specs.Claims.{claim_from, claim_read, no_claim, title_read}
use Rattle.census_compare.proofs.claim.claim_of.Given as goal

abbrev pub invariant-loop-index : goal.invariant-loop-index
invariant-loop-index l =
    claim_from (claim_read l.claim) (map title_read (drop l.index l.titles)) (map (λ cell. cell.items) (drop l.index l.cells))
    ≡ claim_from no_claim (map title_read l.titles) (map (λ cell. cell.items) l.cells)
