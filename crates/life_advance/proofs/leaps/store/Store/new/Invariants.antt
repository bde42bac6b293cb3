-- The empty squares of the levels that the loop has come to.
use Rattle.std.proofs.Common.{◌≡◌, ℕ, ◌<◌, length, slice_index_or}
use Rattle.life_advance.specs.Leaps.Stores.{empty_square, no_square}
use Rattle.life_advance.proofs.leaps.store.Store.new.Given as goal

abbrev pub invariant-loop-level : goal.invariant-loop-level
invariant-loop-level l = record {
  leaves : l.store.leaves.items ≡ l.initial.store.leaves.items;
  len : length l.store.squares.items ≡ l.level;
  each : (i : ℕ) → i < l.level → slice_index_or l.store.squares.items i no_square ≡ empty_square i;
}
