-- The elements that a loop has met, and those that are left.
use Rattle.std.proofs.Common.{◌≡◌, List, [], ◌∷◌, ◌++◌, length, sym, ◌∙◌, arith}
use Rattle.std.proofs.lemmas.List.{append-nil}

pub all_in_order : {X : Type 0} (all before rest : List X) → before ++ rest ≡ all → 0 ≡ length rest → before ≡ all
all_in_order all before [] order none = sym (append-nil before) ∙ order
all_in_order all before (x ∷ rest) order none = absurd (omega arith)
