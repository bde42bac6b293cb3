use Rattle.std.proofs.Common.{◌≡◌, ◌≤◌, ◌++◌, drop, map}
use Rattle.life_text.specs.Filled.{filled_lines}
use Rattle.life_text.specs.RleText.{token_text}
use Rattle.life_text.specs.Writer.{places_from, tokens_from, rest_of_text}
use Rattle.life_text.proofs.PlaceLemmas.{IsBehind}
use Rattle.life_text.proofs.write.push_body.Given as goal

abbrev pub invariant-loop-cell : goal.invariant-loop-cell
invariant-loop-cell l = record {
  used : l.nib.used ≤ 70;
  run : l.nib.run ≤ l.nib.x;
  behind : IsBehind l.nib.y l.nib.x (places_from l.corner (drop l.cell-index l.cells));
  all : l.fn.text.items ++ filled_lines 0 (map token_text (tokens_from 0 0 (places_from l.corner l.cells))) ≡ l.text.items ++ rest_of_text l.nib (places_from l.corner (drop l.cell-index l.cells));
}
