-- Cells that are near each other, and sets that are apart.
use Rattle.std.proofs.Common.{List, [], ◌∷◌, inl, inr, ◌≡◌, ◌-ℤ◌, arith}
use Rattle.std.specs.List.{All}
use Rattle.std.proofs.lemmas.Int.{ints}
use Rattle.std.proofs.lemmas.List.Elements.{All-head, All-tail}
use Rattle.life_model.specs.Cell.{Cell, IsNear}
use Rattle.life_model.specs.Generation.{Generation}
use Rattle.life_objects.specs.Apart.{AreNear, AreDisjoint, AreApart}
use Rattle.life_objects.specs.Union.{union, union_of}
use Rattle.life_objects.proofs.Unions.{in_empty, in_union}

pub near_itself : (c : Cell) → AreNear c c
near_itself c = record {
  left = omega (arith, ints);
  right = omega (arith, ints);
  above = omega (arith, ints);
  below = omega (arith, ints);
}

pub AreNear-swap : (c d : Cell) → AreNear c d → AreNear d c
AreNear-swap c d h = record {
  left = omega (arith, ints);
  right = omega (arith, ints);
  above = omega (arith, ints);
  below = omega (arith, ints);
}

-- two cells that are as far from each other, and the same way, as two that are near
pub AreNear-alike : (c d e f : Cell) → c.0 -ℤ d.0 ≡ e.0 -ℤ f.0 → c.1 -ℤ d.1 ≡ e.1 -ℤ f.1 → AreNear c d → AreNear e f
AreNear-alike c d e f across along near =
    let left = near.left in
    let right = near.right in
    let above = near.above in
    let below = near.below in
    record {
      left = omega (arith, ints);
      right = omega (arith, ints);
      above = omega (arith, ints);
      below = omega (arith, ints);
    }

-- two cells within one of a third are within two of each other
pub near_through : (c g h : Cell) → IsNear c g → IsNear c h → AreNear g h
near_through c g h x y = record {
  left = omega (arith, ints);
  right = omega (arith, ints);
  above = omega (arith, ints);
  below = omega (arith, ints);
}

pub AreApart-swap : (P Q : Generation) → AreApart P Q → AreApart Q P
AreApart-swap P Q far c d h k near = far d c k h (AreNear-swap c d near)

pub disjoint_from_apart : (P Q : Generation) → AreApart P Q → AreDisjoint P Q
disjoint_from_apart P Q far c h k = far c c h k (near_itself c)

-- a set that is apart from two is apart from their union
pub apart_from_union : (P Q R : Generation) → AreApart P Q → AreApart P R → AreApart P (union Q R)
apart_from_union P Q R far too c d h k near =
    elim (in_union Q R d k) [ inl q ↦ far c d h q near | inr r ↦ too c d h r near ]

pub apart_from_union_of : (P : Generation) (Qs : List Generation) → All (AreApart P) Qs → AreApart P (union_of Qs)
apart_from_union_of P [] far = λ c d h k near. in_empty d k
apart_from_union_of P (Q ∷ Qs) far =
    apart_from_union P Q (union_of Qs) (All-head (AreApart P) Q Qs far)
    (apart_from_union_of P Qs (All-tail (AreApart P) Q Qs far))
