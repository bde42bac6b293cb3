use Rattle.std.proofs.Common.{◌≡◌, ◌++◌, length, sym, ap, ◌∙◌}
use Rattle.life_cells.specs.Wechsler.{columns_text}
use Rattle.life_codes.specs.Lengths.Grids.{columns_from, grid_text, strip_of}
use Rattle.life_codes.specs.Least.{with_text}
use Rattle.life_codes.proofs.Firsts.{grid_begun}
use Rattle.life_codes.proofs.least_text.add_text.Goals as goal

pub returns-else-not-is_begun_before : goal.returns-else-not-is_begun_before
returns-else-not-is_begun_before c =
    let grid = c.args.grid.now in
    let least = c.args.least.now in
    let begun = grid_begun grid.values.items grid.wide grid.strips c.args.back c.requires.some in
    let text = c.deref-3.ensures.value ∙ c.in_ok-begin_text.ensures ∙ ap (λ v. columns_text 0 (columns_from c.args.back (strip_of v grid.wide 0))) c.deref-2.ensures.value in
    let all : grid_text grid.values.items grid.wide grid.strips c.args.back ≡ _ ++ begun.0 = begun.1 ∙ ap (λ t. t ++ begun.0) (sym text) in
    sym (ap (with_text least) all ∙ c.is_begun_before.ensures c.if-not-is_begun_before.false begun.0 (ap length (sym all) ∙ sym c.requires.bytes))
