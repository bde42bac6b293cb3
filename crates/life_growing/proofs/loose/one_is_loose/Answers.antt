use Rattle.std.proofs.Common.{ℕ, ◌<◌, List, get_or, length}
use Rattle.std.specs.List.{All, Contains}
use Rattle.std.proofs.lemmas.Bool.{OnTrue_at}
use Rattle.std.proofs.lemmas.List.Elements.{All-contains, Contains-get_or}
use Rattle.life_model.specs.Generation.{cells}
use Rattle.life_cells.specs.Limits.{IsWithin}
use Rattle.life_classes.specs.Tracking.{first_sets}
use Rattle.life_classes.specs.declared.class.Class.{Class}
use Rattle.life_growth.proofs.MeetingLemmas.Reach.{mapped}
use Rattle.life_growing.proofs.loose.one_is_loose.Goals as goal

-- the set of a class is among theirs
its_set : (classes : List Class) (n : ℕ) (d : Class) → n < length classes →
    Contains (first_sets classes) (get_or classes n d).first
its_set classes n d less = mapped (λ c. c.first) classes (get_or classes n d) (Contains-get_or classes n d less)

pub is_loose-requires-clause-within : goal.is_loose-requires-clause-within
is_loose-requires-clause-within g c =
    let classes = c.args.classes.now in
    let n = c.in-Some.place in
    let d = c.index-classes-place.result in
    All-contains (λ P. All (IsWithin c.args.age) (cells P)) (first_sets classes) (get_or classes n d).first c.requires.within
    (its_set classes n d c.in-Some.ensures)

pub returns-then-branch : goal.returns-then-branch
returns-then-branch g c =
    let classes = c.args.classes.now in
    let n = c.in-Some.place in
    let d = c.index-classes-place.result in (
      (get_or classes n d).first,
      its_set classes n d c.in-Some.ensures,
      OnTrue_at c.if-branch.true c.in_ok-is_loose.ensures,
    )
