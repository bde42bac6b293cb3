use Rattle.std.proofs.Common.{subst, sym}
use Rattle.life_classes.specs.Labels.{HasOneRoot}
use Rattle.life_classes.proofs.Wholes.{few_by_root, one_root_by_few}
use Rattle.life_classes.proofs.split.are_few.Goals as goal

pub returns : goal.returns
returns c =
    let s = c.args.split.now in
    let l = s.last in
    let same = c.as_slice.ensures.value in
    let decided = c.have_one_root.ensures in (
      λ t. few_by_root l s.forest.items c.requires.last s.first (subst (HasOneRoot l.tags.items) same (decided.0 t)),
      λ few. decided.1 (subst (HasOneRoot l.tags.items) (sym same) (one_root_by_few l s.forest.items c.requires.last s.first few)),
    )
