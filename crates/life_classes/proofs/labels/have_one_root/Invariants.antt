use Rattle.std.proofs.Common.{◌≡◌, ℕ, ◌<◌, length, get_or}
use Rattle.life_classes.specs.declared.tags.Tag.{Tag}
use Rattle.life_classes.specs.Forest.{root}
use Rattle.life_classes.proofs.labels.have_one_root.Given as goal

-- the labels looked at have the root of the first
abbrev pub invariant-loop-n : goal.invariant-loop-n
invariant-loop-n l = (k : ℕ) (d e : Tag) → k < l.n → k < length l.cells.tags.items →
    root l.forest (get_or l.cells.tags.items k d).label ≡ root l.forest (get_or l.cells.tags.items 0 e).label
