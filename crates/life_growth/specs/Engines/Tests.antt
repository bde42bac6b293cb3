-- Tests of whether a set falls apart within b, and of whether it is unsplit.
use Rattle.std.specs.Prelude.{ℕ, suc, Bool, nat_eq, is_some, length}
use Rattle.life_model.specs.Rule.{Rule}
use Rattle.life_model.specs.Generation.{Generation}
use Rattle.life_model.specs.Evolution.{generation}
use Rattle.life_objects.specs.Decided.Classes.{classes}
use Rattle.life_objects.specs.Decided.Decided.{ash_of}

-- true where generation b of P is ash within b
abbrev pub falls_apart : Rule → ℕ → Generation → Bool
falls_apart R b P = is_some (ash_of R b (generation R P b))

-- true where P has one class, after generation b
abbrev pub is_unsplit : Rule → ℕ → Generation → Bool
is_unsplit R b P = nat_eq (length (classes R P (suc b))) 1
