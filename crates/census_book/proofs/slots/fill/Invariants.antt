use Rattle.std.proofs.Common.{◌≡◌, ◌≤◌, ◌-◌, length}
use Rattle.std.specs.Prelude.{vec_capacity}
use Rattle.census_book.specs.Slots.{padded_row}
use Rattle.census_book.proofs.slots.fill.Given as goal

abbrev pub invariant-loop : goal.invariant-loop
invariant-loop l = record {
  items : l.slots.items ≡ padded_row l.counter l.fn.slots.items;
  few : length l.fn.slots.items ≤ l.counter;
  most : l.counter - length l.fn.slots.items ≤ l.len - length l.fn.slots.items;
  capacity : l.all ≤ vec_capacity l.slots;
}
