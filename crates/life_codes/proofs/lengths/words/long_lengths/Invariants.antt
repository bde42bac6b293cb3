use Rattle.std.proofs.Common.{◌≡◌, ◌+◌, ◌-◌, ◌/◌, ◌^◌, ◌<◌, ◌≤◌, drop, length, reverse, take}
use Rattle.life_cells.specs.Wechsler.{columns_text}
use Rattle.life_codes.specs.Lengths.Words.{word_columns}
use Rattle.life_codes.proofs.LengthsLemmas.Measured.{Counted}
use Rattle.life_codes.proofs.lengths.words.long_lengths.Given as goal

-- the columns so far are counted, from either side, but for the gap at the start
abbrev pub invariant-columns : goal.invariant-columns
invariant-columns l = record {
  rest : l.rest ≡ l.word / 2 ^ l.place;
  some : 0 < l.place;
  within : l.place ≤ l.wide;
  forward : l.lead + l.inner + length (columns_text 0 (drop l.place (word_columns l.wide l.word))) ≡ length (columns_text 0 (word_columns l.wide l.word));
  backward : Counted (reverse (take l.place (word_columns l.wide l.word))) l.place 0 l.inner;
  small : l.lead + l.inner ≤ l.place;
}

abbrev pub decreases-columns : goal.decreases-columns
decreases-columns l = l.wide - l.place
