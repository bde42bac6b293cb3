use Rattle.std.proofs.Common.{◌≡◌, ℕ, List, Option, true, false, sym, subst, ap, ◌∙◌}
use Rattle.life_codes.specs.declared.grid.Grid.{Grid}
use Rattle.life_codes.specs.Lengths.Grids.{grid_text}
use Rattle.life_codes.specs.Least.{with_text}
use Rattle.life_codes.proofs.Leasts.{two_again}
use Rattle.life_codes.proofs.least_text.add_second.Goals as goal

pub returns-clause-taken : goal.returns-clause-taken
returns-clause-taken c = λ some.
    let g = c.args.room.now.second in
    let a = grid_text g.values.items g.wide g.strips false in
    let b = grid_text g.values.items g.wide g.strips true in
    let new : Option (List ℕ) = c.add_text-2.new.least in
    let both : new ≡ with_text (with_text c.args.least.now a) b = c.in_ok-add_text-2.ensures ∙ ap (λ l. with_text l b) c.in_ok-add_text.ensures in
    subst (λ (h : Grid). with_text (with_text new (grid_text h.values.items h.wide h.strips false)) (grid_text h.values.items h.wide h.strips true) ≡ new) (sym c.swap.ensures.x_after)
    (subst (λ l. with_text (with_text l a) b ≡ l) (sym both) (two_again c.args.least.now a b))
