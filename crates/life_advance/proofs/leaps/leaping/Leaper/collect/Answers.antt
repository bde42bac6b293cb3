-- The same cells in the copied squares.
use Rattle.life_advance.proofs.LeapsLemmas.CopyLemmas.{collected-cells, collected-kept}
use Rattle.life_advance.proofs.leaps.leaping.Leaper.collect.Goals as goal

pub returns-clause-kept : goal.returns-clause-kept
returns-clause-kept c =
    collected-kept c.args.self.now c.requires c.copy.new.self.store c.in_ok-root.root c.in_ok-root.ensures.copier.kept
    ((c.in_ok-root.ensures.grows _ _).right (c.in_ok-copier.ensures.right _ _)) c.in_ok-root.ensures.copy

pub returns-clause-cells : goal.returns-clause-cells
returns-clause-cells c = collected-cells c.args.self.now c.requires c.copy.new.self.store c.in_ok-root.root c.in_ok-root.ensures.copy
