-- The squares before the loop's place have forgotten.
use Rattle.std.proofs.Common.{◌≡◌, ℕ, ◌<◌, ◌≤◌, length, slice_index_or, None}
use Rattle.life_advance.specs.Leaps.Stores.{no_square}
use Rattle.life_advance.proofs.leaps.store.Store.forget.Given as goal

abbrev pub invariant-loop-place : goal.invariant-loop-place
invariant-loop-place l = record {
  leaves : l.self.leaves.items ≡ l.initial.self.leaves.items;
  len : length l.self.squares.items ≡ length l.initial.self.squares.items;
  quarters : (i : ℕ) → (slice_index_or l.self.squares.items i no_square).quarters ≡ (slice_index_or l.initial.self.squares.items i no_square).quarters;
  level : (i : ℕ) → (slice_index_or l.self.squares.items i no_square).level ≡ (slice_index_or l.initial.self.squares.items i no_square).level;
  forgotten : (i : ℕ) → i < l.place → l.level ≤ (slice_index_or l.initial.self.squares.items i no_square).level → (slice_index_or l.self.squares.items i no_square).later ≡ None;
  later : (i : ℕ) → (slice_index_or l.initial.self.squares.items i no_square).level < l.level →
      (slice_index_or l.self.squares.items i no_square).later ≡ (slice_index_or l.initial.self.squares.items i no_square).later;
}
