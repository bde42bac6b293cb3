-- The leap, and what is unchanged where it is refused.
use Rattle.std.proofs.Common.{◌≡◌, ◌+◌, ◌*◌, ◌^◌, ◌%◌, ◌≤◌, ◌∙◌, refl, ap, Result, Ok, Err, OnErr, arith}
use Rattle.life_model.specs.Generation.{from_list}
use Rattle.life_model.specs.Evolution.{generation}
use Rattle.life_advance.specs.Leaps.Planes.{farthest_age}
use Rattle.life_advance.specs.Leaps.Stores.{view}
use Rattle.life_advance.specs.Leaps.Sites.{root_corner, root_level}
use Rattle.life_advance.specs.Leaps.Cells.{cells_of}
use Rattle.life_advance.specs.Leaps.Leapers.{cells_in}
use Rattle.life_advance.proofs.LeapsLemmas.Growth.{grows-trans}
use Rattle.life_advance.proofs.LeapsLemmas.StoreLemmas.{ready-grown}
use Rattle.life_advance.proofs.LeapsLemmas.LeapLemmas.{grown-cells, grown-kept, leapt-cells, leapt-kept, small_exponent, power_fits}
use Rattle.life_advance.proofs.LeapsLemmas.Padded.{no_rule}
use Rattle.life_advance.proofs.leaps.leaping.Leaper.leap.Goals as goal

on_err : {A E P : Type 0} (r : Result A E) → P → OnErr r P
on_err (Ok x) p = tt
on_err (Err e) p = p

pub returns-in_err-wide-clause-kept : goal.returns-in_err-wide-clause-kept
returns-in_err-wide-clause-kept c =
    grown-kept c.prepare.new.self c.prepare.ensures.kept c.padded.new.self (c.in_err-wide.ensures.grows _ _)

pub returns-in_err-wide-clause-unchanged : goal.returns-in_err-wide-clause-unchanged
returns-in_err-wide-clause-unchanged c =
    on_err c.from_residual.result
    (grown-cells c.prepare.new.self c.prepare.ensures.kept c.padded.new.self (c.in_err-wide.ensures.grows no_rule 0).extends ∙ c.prepare.ensures.cells, c.prepare.ensures.age)

pub later-requires-clause-ready : goal.later-requires-clause-ready
later-requires-clause-ready c = ready-grown c.prepare.new.self.step _ _ c.prepare.ensures.kept.ready (c.in_ok-wide.ensures.grows _ _)

pub returns-in_err-root-clause-kept : goal.returns-in_err-root-clause-kept
returns-in_err-root-clause-kept c =
    grown-kept c.prepare.new.self c.prepare.ensures.kept c.later.new.self (grows-trans _ _ _ (view c.padded.new.self) _ (c.in_ok-wide.ensures.grows _ _) c.in_err-root.ensures.grows)

pub returns-in_err-root-clause-unchanged : goal.returns-in_err-root-clause-unchanged
returns-in_err-root-clause-unchanged c =
    let g = grows-trans _ _ (view c.prepare.new.self.store) (view c.padded.new.self) (view c.later.new.self) (c.in_ok-wide.ensures.grows c.prepare.new.self.step.rule c.prepare.new.self.step.exponent) c.in_err-root.ensures.grows in
    on_err c.from_residual-in_err-root.result
    (grown-cells c.prepare.new.self c.prepare.ensures.kept c.later.new.self g.extends ∙ c.prepare.ensures.cells, c.prepare.ensures.age)

pub overflow_shl-self : goal.overflow_shl-self
overflow_shl-self c = let h = small_exponent c.args.exponent c.args.self.now.age c.requires.age in omega (arith, h)

-- the age and the cells after the leap
pub returns-clause-cells : goal.returns-clause-cells
unfolding cells_in
returns-clause-cells c =
    let young : c.prepare.new.self.age + 2 ^ c.args.exponent ≤ farthest_age = (let h = c.requires.age in let e = c.prepare.ensures.age in omega (arith, h, e)) in
    leapt-cells c.prepare.new.self c.prepare.ensures.kept c.padded.new.self c.later.new.self _ c.in_ok-wide.wide c.in_ok-root.root c.args.exponent
    c.in_ok-wide.ensures.shows refl c.in_ok-root.ensures.middle c.prepare.ensures.exponent young
    ∙ (λ i. generation (c.prepare.ensures.rule i) (c.prepare.ensures.cells i) (2 ^ c.args.exponent))

pub returns-clause-kept : goal.returns-clause-kept
returns-clause-kept c =
    let young : c.prepare.new.self.age + 2 ^ c.args.exponent ≤ farthest_age = (let h = c.requires.age in let e = c.prepare.ensures.age in omega (arith, h, e)) in
    let fits : 1 * 2 ^ c.args.exponent % 4294967296 ≡ 2 ^ c.args.exponent = power_fits c.args.exponent c.prepare.new.self.age young in
    let cells : from_list (cells_of (view c.later.new.self) root_level c.in_ok-root.root root_corner) ≡ generation c.prepare.new.self.step.rule (cells_in c.prepare.new.self) (2 ^ c.args.exponent) =
    leapt-cells c.prepare.new.self c.prepare.ensures.kept c.padded.new.self c.later.new.self _ c.in_ok-wide.wide c.in_ok-root.root c.args.exponent
    c.in_ok-wide.ensures.shows refl c.in_ok-root.ensures.middle c.prepare.ensures.exponent young in
    leapt-kept c.prepare.new.self c.prepare.ensures.kept c.later.new.self c.in_ok-root.root (c.prepare.new.self.age + 1 * 2 ^ c.args.exponent % 4294967296) (2 ^ c.args.exponent)
    (grows-trans _ _ _ (view c.padded.new.self) _ (c.in_ok-wide.ensures.grows _ _) c.in_ok-root.ensures.grows) c.in_ok-root.ensures.middle.at cells
    (ap (λ k. c.prepare.new.self.age + k) fits) young
