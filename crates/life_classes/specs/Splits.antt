-- The classes of a pattern, given by labels.
use Rattle.std.specs.Prelude.{List}
use Rattle.life_classes.specs.declared.class.Class.{Class}
use Rattle.life_classes.specs.declared.split.Split.{Split}
use Rattle.life_classes.specs.Labels.{AreLabelled, classes_by}

abbrev pub classes_of_split : Split → List Class
classes_of_split s = classes_by s.first s.last s.forest.items

-- the labels are numbers of the forest
pub record IsLabelledSplit (s : Split) : Type 0 where
  pub first : AreLabelled s.first s.forest.items
  pub last : AreLabelled s.last s.forest.items
