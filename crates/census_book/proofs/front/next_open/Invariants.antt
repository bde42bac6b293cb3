use Rattle.std.proofs.Common.{◌≡◌, ℕ, ◌<◌, ◌≤◌, Some, length, slice_get}
use Rattle.census_bundle.specs.declared.bundle.Folder.{Folder}
use Rattle.census_book.specs.Front.{run_at}
use Rattle.census_book.proofs.front.next_open.Given as goal

abbrev pub invariant-loop-k : goal.invariant-loop-k
invariant-loop-k l = (j : ℕ) → l.from ≤ j → j < l.k → (f : Folder) → slice_get l.folders j ≡ Some f → run_at l.runs (record { folder = l.c; run = l.m }) j ≡ length f.entries
