-- The bands that a change of eight rows touches.
use Rattle.std.proofs.Common.{◌≡◌, ℕ, ◌+◌, ◌*◌, ◌/◌, ◌<◌, ◌≢◌, ⊎_elim, subst, sym, ap, ◌∙◌, arith}
use Rattle.std.specs.Int.{bit_at}
use Rattle.std.proofs.lemmas.Bool.{cases_eq}
use Rattle.std.proofs.lemmas.Nat.Bits.{bit_at-lt}
use Rattle.life_plane.specs.declared.tile.Tile.{Tile}
use Rattle.life_plane.specs.declared.kernel.Change.{Change}
use Rattle.life_plane.specs.Changes.{IsChange, IsSameCell}
use Rattle.life_slots.specs.Rims.{IsEdge, IsSideClear}
use Rattle.life_slots.specs.Work.{IsTouchedBeside}
use Rattle.life_slots.proofs.Splits.{not_one}

-- where a bit is not set, it was not before
pub bit_before : (before after k : ℕ) → (bit_at before k ≡ 1 → bit_at after k ≡ 1) → bit_at after k ≡ 0 → bit_at before k ≡ 0
bit_before before after k kept clear =
    not_one (bit_at before k) (bit_at-lt before k) (λ one. let now : 1 ≡ 0 = sym (kept one) ∙ clear in omega arith)

module _ (change : Change) (old new : Tile) (index side column bits : ℕ) (is : IsChange change old new (8 * index))
    (set : (k : ℕ) → k < 3 → bit_at column (index + 7 + k) ≡ 0 → bit_at bits k ≡ 0)
    (first : bit_at bits 0 ≡ 0 → IsSideClear side change.first) (all : bit_at bits 1 ≡ 0 → IsSideClear side change.all) (last : bit_at bits 2 ≡ 0 → IsSideClear side change.last) where
  -- a cell that changed is not next to a band whose bit is not set
  pub touched_beside : IsTouchedBeside (record { side = side; word = column; index = index; before = old; after = new })
  touched_beside = record {
    same = λ m band x y small on_side b_small wide high near clear.
        let edge : IsEdge side x = subst (λ (n : ℕ). IsEdge n x) on_side near.column in
        let from = near.from in
        let to = near.to in
        ⊎_elim
        (λ (above : 8 * (m / 3) + band ≡ index + 7 + 0).
        let row : 8 * index ≡ 8 * index + y = omega arith in
        subst (IsSameCell old new x) row ((is.first x wide).0 (first (set 0 (omega arith) (ap (bit_at column) (sym above) ∙ clear)) x wide edge)))
        (λ (not_above : 8 * (m / 3) + band ≢ index + 7 + 0).
        ⊎_elim
        (λ (below : 8 * (m / 3) + band ≡ index + 7 + 2).
        let row : 8 * index + 7 ≡ 8 * index + y = omega arith in
        subst (IsSameCell old new x) row ((is.last x wide).0 (last (set 2 (omega arith) (ap (bit_at column) (sym below) ∙ clear)) x wide edge)))
        (λ (not_below : 8 * (m / 3) + band ≢ index + 7 + 2).
        let here : 8 * (m / 3) + band ≡ index + 7 + 1 = omega arith in
        (is.all x wide).0 (all (set 1 (omega arith) (ap (bit_at column) (sym here) ∙ clear)) x wide edge) y high)
        (cases_eq (8 * (m / 3) + band) (index + 7 + 2)))
        (cases_eq (8 * (m / 3) + band) (index + 7 + 0));
  }
