use Rattle.std.proofs.Common.{◌≡◌, ℕ, ◌<◌, length, get_or}
use Rattle.life_tracks.specs.Frames.Frames.{classes_at, parents_at}
use Rattle.life_tracks.specs.declared.lines.Line.{Line}
use Rattle.life_tracks.specs.Lines.{IsLine}
use Rattle.life_tracks.proofs.lines.first_lines.Given as goal

abbrev pub invariant-loop-origin : goal.invariant-loop-origin
invariant-loop-origin l = record {
  count : length l.lines.items ≡ l.origin;
  each : (k : ℕ) (d : Line) → k < l.origin → IsLine (classes_at l.film) (parents_at l.film) 0 k (get_or l.lines.items k d);
}
