use Rattle.std.proofs.Common.{◌≡◌, ℕ, arith}
use Rattle.std.proofs.lemmas.Int.{ints, to_z-of_z}
use Rattle.life_text.proofs.write.place.Goals as goal

pair : {a b c d : ℕ} → a ≡ c → b ≡ d → ◌≡◌ {A = ℕ × ℕ} (a, b) (c, d)
pair p q = λ i. (p i, q i)

pub returns-clause-place : goal.returns-clause-place
returns-clause-place c = pair (grind (arith, ints, to_z-of_z)) (grind (arith, ints, to_z-of_z))
