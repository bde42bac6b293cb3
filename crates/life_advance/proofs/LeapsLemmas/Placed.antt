-- Where the cells of sets stand.
use Rattle.std.proofs.Common.{◌≡◌, ℕ, ◌≤◌, true, List, All, sym, ap, ◌∙◌, arith}
use Rattle.std.specs.List.{list_any}
use Rattle.std.proofs.lemmas.Int.{ints}
use Rattle.life_model.specs.Cell.{Cell, same_cell}
use Rattle.life_model.specs.Generation.{Generation, cells, contains, from_list}
use Rattle.life_model.proofs.Members.{of_member}
use Rattle.life_model.proofs.Generations.{contains-cells, contains-from_list, same_members}
use Rattle.life_cells.specs.Limits.{IsPlace, IsWithin}
use Rattle.life_advance.specs.Leaps.Planes.{farthest_age}
use Rattle.life_slots.proofs.Inserted.{all_listed}

pub member_within : (age : ℕ) (G : Generation) → All (IsWithin age) (cells G) → (c : Cell) → contains G c ≡ true → IsWithin age c
member_within age G all c h = of_member (IsWithin age) (cells G) all c (sym (contains-cells G c) ∙ h)

pub all_within : (age : ℕ) (G : Generation) → ((c : Cell) → contains G c ≡ true → IsWithin age c) → All (IsWithin age) (cells G)
all_within age G each = all_listed (IsWithin age) G (cells G) (contains-cells G) each

pub listed_same : (items cs : List Cell) → ((q : Cell) → list_any (same_cell q) items ≡ list_any (same_cell q) cs) → from_list items ≡ from_list cs
listed_same items cs same = same_members (from_list items) (from_list cs) (λ q. contains-from_list items q ∙ same q ∙ sym (contains-from_list cs q))

-- every place of a plane is one of a list of cells
pub place_from_within : (a : ℕ) (c : Cell) → a ≤ farthest_age → IsWithin a c → IsPlace c
place_from_within a c k h = record { left = omega (arith, ints); right = omega (arith, ints); above = omega (arith, ints); below = omega (arith, ints) }

pub all_places : (age : ℕ) (G : Generation) (items : List Cell) → from_list items ≡ G → age ≤ farthest_age → ((c : Cell) → contains G c ≡ true → IsWithin age c) → All IsPlace items
all_places age G items is young each =
    all_listed IsPlace G items (λ q. sym (ap (λ H. contains H q) is) ∙ contains-from_list items q) (λ q live. place_from_within age q young (each q live))
