use Rattle.std.proofs.Common.{length, sym, subst}
use Rattle.std.proofs.lemmas.Bool.{OnTrue_at}
use Rattle.life_growing.specs.Populations.{ArePopulations}
use Rattle.life_growing.proofs.Refusing.{none_comes_again, none_falls_back}
use Rattle.life_growing.proofs.refusal.are_no_engine.Goals as goal

pub returns-then-branch : goal.returns-then-branch
returns-then-branch g c =
    let found = OnTrue_at c.if-branch.true c.in_ok-come_again_soon.ensures in
    none_comes_again c.args.rule.now c.args.bound c.args.cells.now found.0 found.1 found.2

pub returns-then-keep_falling_back : goal.returns-then-keep_falling_back
returns-then-keep_falling_back g c =
    let R = c.args.rule.now in
    let E = c.args.cells.now in
    none_falls_back R c.args.bound E _ c.as_slice.result.now
    (subst (ArePopulations R E _) (sym c.as_slice.ensures.value) c.in_ok-counts.ensures)
    (OnTrue_at c.if-keep_falling_back.true c.keep_falling_back.ensures)

pub never_come_back-requires-clause-counts : goal.never_come_back-requires-clause-counts
never_come_back-requires-clause-counts g c =
    let R = c.args.rule.now in
    let E = c.args.cells.now in
    subst (λ cs. ArePopulations R E (length cs) cs) (sym c.as_slice-2.ensures.value)
    (subst (λ n. ArePopulations R E n c.in_ok-counts.counts.items) (sym c.in_ok-counts.ensures.count)
    c.in_ok-counts.ensures)
