use Rattle.std.proofs.Common.{[], sym}
use Rattle.std.specs.Option.{option_copied}
use Rattle.census_page.proofs.Steps.{no-stray, puts-as, puts-at, puts-none, stray-none, stray-one}
use Rattle.census_page.proofs.fate.put_stray.Goals as goal

pub returns-then-not-has_row : goal.returns-then-not-has_row
returns-then-not-has_row g c =
    let names = option_copied c.args.view.now.names in
    rw c.in-Line.is (puts-as names [] _ _ _ (sym (stray-none c.args.view.now.patterns _ _ _ _ _ c.has_row.ensures c.if-not-has_row.true)) (puts-none names _))

pub returns-else-not-has_row : goal.returns-else-not-has_row
returns-else-not-has_row g c =
    let names = option_copied c.args.view.now.names in
    rw c.in-Line.is (puts-at names c.put_fate.result _ _ _ _ (sym (stray-one c.args.view.now.patterns _ _ _ _ _ c.has_row.ensures c.if-not-has_row.false)) (rw c.in-Line.is at c.put_fate.ensures))

pub returns-in_default : goal.returns-in_default
returns-in_default g c =
    puts-as (option_copied c.args.view.now.names) [] _ _ _
    (sym (no-stray c.args.view.now.patterns c.args.row.now (λ collection pattern outcome name e. c.in_default.not-Line collection pattern outcome name e)))
    (puts-none (option_copied c.args.view.now.names) _)
