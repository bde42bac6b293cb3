-- Lists from a place on.
use Rattle.std.proofs.Common.{◌≡◌, ℕ, ◌-◌, List, length, take, drop, arith}
use Rattle.std.proofs.lemmas.List.{length-drop, take_all}

-- all elements from a place on
pub rest-whole : {X : Type 0} (n : ℕ) (xs : List X) → take (length xs - n) (drop n xs) ≡ drop n xs
rest-whole n xs = take_all (length xs - n) (drop n xs) (omega (arith, length-drop n xs))
