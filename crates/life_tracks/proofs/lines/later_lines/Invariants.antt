use Rattle.std.proofs.Common.{◌≡◌, ℕ, suc, ◌<◌, length, get_or}
use Rattle.life_tracks.specs.Frames.Frames.{classes_at, parents_at}
use Rattle.life_tracks.specs.declared.lines.Line.{Line}
use Rattle.life_tracks.specs.Lines.{IsLine}
use Rattle.life_tracks.proofs.lines.later_lines.Given as goal

abbrev pub invariant-loop-place : goal.invariant-loop-place
invariant-loop-place l = record {
  count : length l.later.items ≡ l.place;
  each : (k : ℕ) (d : Line) → k < l.place →
      IsLine (classes_at l.film) (parents_at l.film) (suc l.t) k (get_or l.later.items k d);
}
