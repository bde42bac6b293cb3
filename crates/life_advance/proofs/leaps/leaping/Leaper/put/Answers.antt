-- Other cells in squares of the same store.
use Rattle.std.proofs.Common.{refl, Result, Ok, Err, OnErr}
use Rattle.life_advance.specs.Leaps.Stores.{view}
use Rattle.life_advance.specs.Leaps.Sites.{corner}
use Rattle.life_advance.proofs.LeapsLemmas.Begun.{at_root, begun-cells, begun-kept}
use Rattle.life_advance.proofs.LeapsLemmas.StoreLemmas.{ready-grown}
use Rattle.life_advance.proofs.LeapsLemmas.LeapLemmas.{grown-cells, grown-kept}
use Rattle.life_advance.proofs.LeapsLemmas.Padded.{no_rule}
use Rattle.life_advance.proofs.leaps.leaping.Leaper.put.Goals as goal

on_err : {A E P : Type 0} (r : Result A E) → P → OnErr r P
on_err (Ok x) p = tt
on_err (Err e) p = p

pub returns-clause-cells : goal.returns-clause-cells
returns-clause-cells c =
    begun-cells _ c.root-site.result.level (corner c.root-site.result) c.args.list.now c.as_slice.result.now c.root-site.ensures.level c.root-site.ensures.corner c.as_slice.ensures.cells
    c.in_ok-root.ensures.shows c.requires.age c.requires.within

pub returns-clause-kept : goal.returns-clause-kept
returns-clause-kept c =
    begun-kept _ c.args.list.now
    (ready-grown c.args.self.now.step _ _ c.requires.kept.ready (c.in_ok-root.ensures.grows _ _))
    (at_root (view c.build.new.self) c.root-site.result.level c.in_ok-root.root c.root-site.ensures.level c.in_ok-root.ensures.at)
    (begun-cells _ c.root-site.result.level (corner c.root-site.result) c.args.list.now c.as_slice.result.now c.root-site.ensures.level c.root-site.ensures.corner c.as_slice.ensures.cells
    c.in_ok-root.ensures.shows c.requires.age c.requires.within)
    c.requires.age c.requires.within

pub returns-in_err-root-clause-kept : goal.returns-in_err-root-clause-kept
returns-in_err-root-clause-kept c = grown-kept c.args.self.now c.requires.kept c.build.new.self (c.in_err-root.ensures.grows _ _)

pub returns-in_err-root-clause-unchanged : goal.returns-in_err-root-clause-unchanged
returns-in_err-root-clause-unchanged c = on_err c.from_residual.result (grown-cells c.args.self.now c.requires.kept c.build.new.self (c.in_err-root.ensures.grows no_rule 0).extends, refl)
