-- Moves and the eight maps keep neighbours, so the next generation commutes with them.
use Rattle.std.proofs.Common.{◌≡◌, ℕ, zero, suc, ℤ, neg_ℤ, Bool, cond, map, count_by, sym, refl, ap, ◌∙◌, arith}
use Rattle.std.proofs.lemmas.Int.{ints}
use Rattle.std.proofs.lemmas.Bool.Decides.{same_from_decides, Decides-like}
use Rattle.life_model.specs.Cell.{Cell, same_cell, plus, opposite, steps}
use Rattle.life_model.specs.Rule.{Rule, born, stays}
use Rattle.life_model.specs.Generation.{Generation, contains, cells}
use Rattle.life_model.specs.Evolution.{count_at, lives, next, generation}
use Rattle.life_model.specs.Symmetry.{image, translate_of, Orientation, Same, FlipX, FlipY, Half, Swap, SwapFlipX, SwapFlipY, SwapHalf, turn, image_under}
use Rattle.life_model.proofs.Cells.{pair, same_cell-is, plus-opposite, plus-opposite_first}
use Rattle.life_model.proofs.Generations.{contains-from_list, contains-cells, same_members}
use Rattle.life_model.proofs.Tests.{list_any-alike, list_any-map}
use Rattle.life_model.proofs.Evolution.{contains-next}

-- back undoes forth, and forth undoes back
pub record AreInverse (forth back : Cell → Cell) : Type 0 where
  pub there : (c : Cell) → back (forth c) ≡ c
  pub here : (c : Cell) → forth (back c) ≡ c

-- forth and back also keep neighbours
pub record KeepNeighbours (forth back : Cell → Cell) : Type 0 where
  pub inverse : AreInverse forth back
  pub neighbours : (live : Cell → Bool) (c : Cell) → count_at (λ q. live (back q)) (forth c) ≡ count_at live c

module _ (forth back : Cell → Cell) (undo : AreInverse forth back) where
  pub same_cell-forth : (c b : Cell) → same_cell c (forth b) ≡ same_cell (back c) b
  same_cell-forth c b =
      same_from_decides _ _ (same_cell-is c (forth b))
      (Decides-like {P = back c ≡ b} {Q = c ≡ forth b} _
      (λ e. sym (undo.here c) ∙ ap forth e)
      (λ e. ap back e ∙ undo.there b)
      (same_cell-is (back c) b))

  pub contains-image : (G : Generation) (c : Cell) → contains (image forth G) c ≡ contains G (back c)
  unfolding image
  contains-image G c =
      contains-from_list (map forth (cells G)) c
      ∙ list_any-map (same_cell c) forth (cells G)
      ∙ list_any-alike (λ b. same_cell c (forth b)) (same_cell (back c)) (same_cell-forth c) (cells G)
      ∙ sym (contains-cells G (back c))

module _ (forth back : Cell → Cell) (keeps : KeepNeighbours forth back) where
  pub lives-back : (R : Rule) (live : Cell → Bool) (c : Cell) → lives R (λ q. live (back q)) c ≡ lives R live (back c)
  unfolding lives
  lives-back R live c =
      let counts : count_at (λ q. live (back q)) c ≡ count_at live (back c) =
      ap (count_at (λ q. live (back q))) (sym (keeps.inverse.here c)) ∙ keeps.neighbours live (back c) in
      λ i. cond (live (back c)) (stays R (counts i)) (born R (counts i))

  pub next-image : (R : Rule) (G : Generation) → next R (image forth G) ≡ image forth (next R G)
  next-image R G = same_members _ _ (λ c.
      contains-next R (image forth G) c
      ∙ ap (λ (live : Cell → Bool). lives R live c) (λ i q. contains-image forth back keeps.inverse G q i)
      ∙ lives-back R (contains G) c
      ∙ sym (contains-next R G (back c))
      ∙ sym (contains-image forth back keeps.inverse (next R G) c))

  pub generation-image : (R : Rule) (G : Generation) (n : ℕ) → generation R (image forth G) n ≡ image forth (generation R G n)
  unfolding generation
  generation-image R G zero = refl
  generation-image R G (suc n) = ap (next R) (generation-image R G n) ∙ next-image R (generation R G n)

-- The cells around forth c go back to those around c, each step of them mapped by linear.
count_at-back : (forth back linear : Cell → Cell) → ((c s : Cell) → back (plus (forth c) s) ≡ plus c (linear s)) → (live : Cell → Bool) (c : Cell) → count_at (λ q. live (back q)) (forth c) ≡ count_by (λ s. live (plus c (linear s))) steps
count_at-back forth back linear goes live c = ap (λ (f : Cell → Cell). count_by (λ s. live (f s)) steps) (λ i s. goes c s i)

-- ---- moves

pub plus_keeps : (d : Cell) → KeepNeighbours (λ c. plus c d) (λ c. plus c (opposite d))
plus_keeps d = record {
  inverse = record { there = λ c. plus-opposite c d; here = λ c. plus-opposite_first c d };
  neighbours = count_at-back (λ c. plus c d) (λ c. plus c (opposite d)) (λ s. s) (λ c s. pair (omega (arith, ints)) (omega (arith, ints)));
}

-- ---- the eight maps

abbrev pub undone : Orientation → Orientation
undone Same = Same
undone FlipX = FlipX
undone FlipY = FlipY
undone Half = Half
undone Swap = Swap
undone SwapFlipX = SwapFlipY
undone SwapFlipY = SwapFlipX
undone SwapHalf = SwapHalf

pub neg-neg : (z : ℤ) → neg_ℤ (neg_ℤ z) ≡ z
neg-neg z = omega (arith, ints)

pub turn-undone : (m : Orientation) (c : Cell) → turn (undone m) (turn m c) ≡ c
turn-undone Same c = refl
turn-undone FlipX c = pair (neg-neg c.0) refl
turn-undone FlipY c = pair refl (neg-neg c.1)
turn-undone Half c = pair (neg-neg c.0) (neg-neg c.1)
turn-undone Swap c = refl
turn-undone SwapFlipX c = pair refl (neg-neg c.1)
turn-undone SwapFlipY c = pair (neg-neg c.0) refl
turn-undone SwapHalf c = pair (neg-neg c.0) (neg-neg c.1)

pub undone-undone : (m : Orientation) → undone (undone m) ≡ m
undone-undone Same = refl
undone-undone FlipX = refl
undone-undone FlipY = refl
undone-undone Half = refl
undone-undone Swap = refl
undone-undone SwapFlipX = refl
undone-undone SwapFlipY = refl
undone-undone SwapHalf = refl

turn_step : (m : Orientation) (c s : Cell) → turn (undone m) (plus (turn m c) s) ≡ plus c (turn (undone m) s)
turn_step Same c s = refl
turn_step FlipX c s = pair (omega (arith, ints)) refl
turn_step FlipY c s = pair refl (omega (arith, ints))
turn_step Half c s = pair (omega (arith, ints)) (omega (arith, ints))
turn_step Swap c s = refl
turn_step SwapFlipX c s = pair refl (omega (arith, ints))
turn_step SwapFlipY c s = pair (omega (arith, ints)) refl
turn_step SwapHalf c s = pair (omega (arith, ints)) (omega (arith, ints))

turned_steps : (m : Orientation) (live : Cell → Bool) (c : Cell) → count_by (λ s. live (plus c (turn m s))) steps ≡ count_at live c
turned_steps Same live c = refl
turned_steps FlipX live c = omega arith
turned_steps FlipY live c = omega arith
turned_steps Half live c = omega arith
turned_steps Swap live c = omega arith
turned_steps SwapFlipX live c = omega arith
turned_steps SwapFlipY live c = omega arith
turned_steps SwapHalf live c = omega arith

pub turn_keeps : (m : Orientation) → KeepNeighbours (turn m) (turn (undone m))
turn_keeps m = record {
  inverse = record {
    there = turn-undone m;
    here = λ c. ap (λ k. turn k (turn (undone m) c)) (sym (undone-undone m)) ∙ turn-undone (undone m) c;
  };
  neighbours = λ live c. count_at-back (turn m) (turn (undone m)) (turn (undone m)) (turn_step m) live c ∙ turned_steps (undone m) live c;
}

-- the next generation commutes with a move, and with each of the eight maps
pub next-moved : (R : Rule) (G : Generation) (d : Cell) → next R (translate_of G d) ≡ translate_of (next R G) d
next-moved R G d = next-image _ _ (plus_keeps d) R G

pub next-turned : (R : Rule) (G : Generation) (m : Orientation) → next R (image_under G m) ≡ image_under (next R G) m
next-turned R G m = next-image _ _ (turn_keeps m) R G

pub generation-moved : (R : Rule) (G : Generation) (d : Cell) (n : ℕ) → generation R (translate_of G d) n ≡ translate_of (generation R G n) d
generation-moved R G d n = generation-image _ _ (plus_keeps d) R G n

pub generation-turned : (R : Rule) (G : Generation) (m : Orientation) (n : ℕ) → generation R (image_under G m) n ≡ image_under (generation R G n) m
generation-turned R G m n = generation-image _ _ (turn_keeps m) R G n

pub contains-moved : (G : Generation) (d c : Cell) → contains (translate_of G d) c ≡ contains G (plus c (opposite d))
contains-moved G d c = contains-image _ _ (plus_keeps d).inverse G c

pub contains-turned : (G : Generation) (m : Orientation) (c : Cell) → contains (image_under G m) c ≡ contains G (turn (undone m) c)
contains-turned G m c = contains-image _ _ (turn_keeps m).inverse G c
