-- The greatest of what cells are given.
use Rattle.std.proofs.Common.{◌≡◌, ℕ, ◌+◌, ◌<◌, true, max, List, [], ◌∷◌, map, inl, inr, sym, ap, true≢false, arith}
use Rattle.std.specs.List.{list_any}
use Rattle.std.proofs.lemmas.Bool.{or_cases}
use Rattle.life_model.specs.Box.{extent}
use Rattle.life_model.specs.Cell.{Cell, same_cell}
use Rattle.life_model.proofs.Cells.{same_cell-is}

below_first : (a b c : ℕ) → a ≡ b → a < max (b + 1) c
below_first a b c h = omega arith

below_others : (a b c : ℕ) → a < c → a < max (b + 1) c
below_others a b c h = omega arith

pub below_extent : (f : Cell → ℕ) (cs : List Cell) (c : Cell) → list_any (same_cell c) cs ≡ true → f c < extent (map f cs)
below_extent f [] c e = absurd (true≢false (sym e))
below_extent f (d ∷ ds) c e =
    elim (or_cases (same_cell c d) _ e) [
      | inl h ↦ below_first _ _ _ (ap f ((same_cell-is c d).0 h))
      | inr h ↦ below_others _ _ _ (below_extent f ds c h)
    ]
