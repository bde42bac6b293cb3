use Rattle.std.proofs.Common.{◌≡◌, ◌++◌, ◌&&◌, List, length, map}
use Rattle.std.specs.List.{list_all}
use Rattle.watched.specs.Telling.{sheet}
use Rattle.census_compare.specs.Claims.{Claim, claims_left, claims_read, title_read}
use Rattle.census_compare.specs.Index.{AreNoted, IsIndex, patterns_in}
use Rattle.census_compare.specs.Read.{HasLines, rows_left}
use Rattle.census_compare.specs.Reporting.{Reports}
use Rattle.census_compare.specs.Tests.{claim_agrees}
use Rattle.census_compare.proofs.verdict.put_claims.Given as goal

abbrev pub invariant-loop-row : goal.invariant-loop-row
invariant-loop-row g l = record {
  told : Reports l.agree (sheet l.fn.block l.fn.writer) (sheet l.block l.writer);
  lines : HasLines l.rows;
  is : IsIndex l.index;
  patterns : patterns_in l.index ≡ patterns_in l.fn.index;
  agree : (l.agree && list_all (claim_agrees (patterns_in l.fn.index)) (claims_left (map title_read l.claims.titles.items) (rows_left l.rows)))
      ≡ list_all (claim_agrees (patterns_in l.fn.index)) (claims_read l.claims);
  noted : (done : List Claim) × AreNoted done l.index × (done ++ claims_left (map title_read l.claims.titles.items) (rows_left l.rows) ≡ claims_read l.claims);
}

abbrev pub decreases-loop-row : goal.decreases-loop-row
decreases-loop-row g l = length (rows_left l.rows)
