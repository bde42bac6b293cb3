use Rattle.std.proofs.Common.{◌≡◌, ◌≤◌, drop, length}
use Rattle.std.specs.Cmp.Lexicographic.{slice_cmp}
use Rattle.life_answer.specs.CountedTales.{part_cmp}
use Rattle.life_answer.proofs.tale.parts_order.Given as goal

-- the parts so far are the same, and what comes after them decides
abbrev pub invariant-loop-n : goal.invariant-loop-n
invariant-loop-n l =
    (slice_cmp part_cmp l.parts l.others ≡ slice_cmp part_cmp (drop l.n l.parts) (drop l.n l.others))
    × (l.n ≤ length l.others)
