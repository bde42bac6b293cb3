use Rattle.std.proofs.Common.{◌≡◌, ◌+◌, ◌-◌, ◌*◌, ◌/◌, ◌^◌, ◌≤◌, get_or}
use Rattle.life_codes.proofs.LengthsLemmas.WideWorded.{Seen}
use Rattle.life_codes.proofs.lengths.wide_words.strip_lengths.Given as goal

-- the columns of the words so far are counted, from either side
abbrev pub invariant-words : goal.invariant-words
invariant-words l = Seen l.words l.first l.wide l.place (64 * l.index) l.forward l.backward

-- so are those of this word before a column, and what is left of the word gives the others
abbrev pub invariant-columns : goal.invariant-columns
invariant-columns l = record {
  seen : Seen l.words l.first l.wide l.place l.column l.forward l.backward;
  start : 64 * l.index ≤ l.column;
  end : l.column ≤ 64 * l.index + 64;
  rest : l.rest ≡ get_or l.words (l.first + l.index) 0 / 2 ^ (l.column - 64 * l.index);
}

abbrev pub decreases-columns : goal.decreases-columns
decreases-columns l = 64 * l.index + 64 - l.column
