-- For how long no generation of a set is another set, moved.
use Rattle.std.proofs.Common.{◌≡◌, ℕ, zero, suc, ℤ, pos, ◌+◌, ◌<◌, ◌≤◌, All, true, List, length, slice_index_or, sym, ap, subst, ◌∙◌, arith}
use Rattle.std.specs.List.{Contains}
use Rattle.std.proofs.lemmas.Int.{ints}
use Rattle.std.proofs.lemmas.List.Elements.{All-contains, Contains-get_or}
use Rattle.life_model.specs.Cell.{Cell, IsNear, origin, plus, opposite}
use Rattle.life_model.specs.Rule.{Rule}
use Rattle.life_model.specs.Generation.{Generation, cells, contains}
use Rattle.life_model.specs.Evolution.{generation, next}
use Rattle.life_model.specs.Symmetry.{translate_of, normal}
use Rattle.life_model.proofs.Cells.{plus-opposite}
use Rattle.life_model.proofs.Moves.{normal_decides}
use Rattle.life_model.proofs.Near.{next_near}
use Rattle.life_model.proofs.Recurrences.{generation-add, generation-next, generation-zero}
use Rattle.life_model.proofs.Symmetries.{contains-moved}
use Rattle.life_model.proofs.Members.{from_cells, in_cells}
use Rattle.life_find.specs.Quiet.{IsReachedBy, IsMissed, IsAway, IsQuiet}

-- ---- members and places of a list

of_member : (P : Cell → Type 0) (G : Generation) (cs : List Cell) → cs ≡ cells G → All P cs → (c : Cell) → contains G c ≡ true → P c
of_member P G cs e all c h = All-contains P cs c all (subst (λ (xs : List Cell). Contains xs c) (sym e) (in_cells G c h))

-- ---- where the cells of later generations come from

reached_itself : (c : Cell) → IsReachedBy (pos 0) c c
reached_itself c = record { left = omega (arith, ints); right = omega (arith, ints); above = omega (arith, ints); below = omega (arith, ints) }

reached_further : (n : ℕ) (c g h : Cell) → IsNear c g → IsReachedBy (pos n) g h → IsReachedBy (pos (suc n)) c h
reached_further n c g h near reached = record {
  left = omega (arith, ints);
  right = omega (arith, ints);
  above = omega (arith, ints);
  below = omega (arith, ints);
}

from_before : (R : Rule) (G : Generation) (n : ℕ) (c : Cell) → contains (generation R G n) c ≡ true →
    (g : Cell) × (contains G g ≡ true) × IsReachedBy (pos n) c g
unfolding generation
from_before R G zero c h = (c, h, reached_itself c)
from_before R G (suc n) c h =
    let near = next_near R (generation R G n) c h in
    let before = from_before R G n near.0 near.1 in
    (before.0, before.1, reached_further n c near.0 before.0 near.2 before.2)

-- ---- a set that is away

stands_there : (A H : Generation) (d c : Cell) → H ≡ translate_of A d → contains A c ≡ true → contains H (plus c d) ≡ true
stands_there A H d c e h = ap (λ X. contains X (plus c d)) e ∙ contains-moved A d (plus c d) ∙ ap (contains A) (plus-opposite c d) ∙ h

-- the first cell is moved next to g and the missed one next to h, so h is next to where it would be beside g
reached_there : (n m : ℕ) (r : ℤ) (first c d g h : Cell) → n ≤ m → r ≡ pos (m + m) → IsReachedBy (pos n) (plus first d) g → IsReachedBy (pos n) (plus c d) h
    → IsReachedBy r (plus c (plus g (opposite first))) h
reached_there n m r first c d g h small e one other = record {
  left = omega (arith, ints);
  right = omega (arith, ints);
  above = omega (arith, ints);
  below = omega (arith, ints);
}

module _ (A H : Generation) (list others : List Cell) (e : list ≡ cells A) (f : others ≡ cells H) where
  at_place : (i : ℕ) → i < length list → contains A (slice_index_or list i origin) ≡ true
  at_place i inside = from_cells A _ (subst (λ (xs : List Cell). Contains xs (slice_index_or list i origin)) e (Contains-get_or list i origin inside))

  pub quiet_while_away : (m : ℕ) (r : ℤ) → r ≡ pos (m + m) → 0 < length list → IsAway r list others → (R : Rule) (k : ℕ) → k ≤ m →
      normal A ≡ normal (generation R H k) → ⊥
  quiet_while_away m r twice some away R k small same =
      let offset = (normal_decides A (generation R H k)).0 same in
      let d : Cell = offset.0 in
      let first : Cell = slice_index_or list 0 origin in
      let one = from_before R H k (plus first d) (stands_there A (generation R H k) d first offset.1 (at_place 0 some)) in
      let missed : IsMissed r list others (plus one.0 (opposite first)) =
      of_member (λ b. IsMissed r list others (plus b (opposite first))) H others f away one.0 one.1 in
      let c : Cell = slice_index_or list missed.at origin in
      let other = from_before R H k (plus c d) (stands_there A (generation R H k) d c offset.1 (at_place missed.at missed.inside)) in
      of_member (λ b. IsReachedBy r (plus c (plus one.0 (opposite first))) b → ⊥) H others f missed.far other.0 other.1
      (reached_there k m r first c d one.0 other.0 small twice one.2 other.2)

-- ---- quiet generations

pub quiet_none : (R : Rule) (A H : Generation) (n : ℕ) → n ≡ 0 → IsQuiet R A H n
quiet_none R A H n e = record { none = λ k h same. omega arith }

pub quiet_here : (R : Rule) (A H : Generation) (n : ℕ) → 0 < n → IsQuiet R A H n → normal A ≡ normal H → ⊥
quiet_here R A H n some is same = is.none 0 some (same ∙ ap normal (sym (generation-zero R H)))

later : (R : Rule) (H : Generation) (k : ℕ) → generation R (next R H) k ≡ generation R H (k + 1)
later R H k =
    ap (λ X. generation R X k) (ap (next R) (sym (generation-zero R H)) ∙ sym (generation-next R H 0))
    ∙ generation-add R H (0 + 1) k
    ∙ ap (generation R H) (let e : 0 + 1 + k ≡ k + 1 = omega arith in e)

pub quiet_next : (R : Rule) (A H : Generation) (n m : ℕ) → n ≡ m + 1 → IsQuiet R A H n → IsQuiet R A (next R H) m
quiet_next R A H n m e is = record { none = λ k h same. is.none (k + 1) (omega arith) (same ∙ ap normal (later R H k)) }

pub quiet_after : (R : Rule) (A H : Generation) (n : ℕ) → ((k : ℕ) → 0 < k → k ≤ n → normal A ≡ normal (generation R H k) → ⊥) →
    IsQuiet R A (next R H) n
quiet_after R A H n none = record { none = λ k h same. none (k + 1) (omega arith) (omega arith) (same ∙ ap normal (later R H k)) }
