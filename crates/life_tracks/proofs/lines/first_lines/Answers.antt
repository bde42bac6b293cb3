use Rattle.std.proofs.Common.{false, length, refl, ap, ◌∙◌, arith}
use Rattle.std.proofs.lemmas.List.{length_push}
use Rattle.life_tracks.specs.Frames.Frames.{classes_at, parents_at}
use Rattle.life_tracks.specs.declared.lines.Line.{Line}
use Rattle.life_tracks.specs.Lines.{IsLine}
use Rattle.life_tracks.proofs.GoingOn.{first_line}
use Rattle.life_tracks.proofs.Pushing.{each_more}
use Rattle.life_tracks.proofs.lines.first_lines.Goals as goal

pub loop-origin-preserved : goal.loop-origin-preserved
loop-origin-preserved c =
    let n = c.loop-origin.origin in
    let classes = classes_at c.args.film.now in
    let parents = parents_at c.args.film.now in
    let line : Line = record { origin = n; is_back = false; has_left = false; is_return = false } in
    let old = c.loop-origin.lines.items in
    let long = ap length c.in_ok-push.ensures.items ∙ length_push old line in
    let before = c.loop-origin.invariant.count in
    record {
      count = omega arith;
      each = each_more old c.push.new.self.items line n before c.in_ok-push.ensures.items (IsLine classes parents 0)
          c.loop-origin.invariant.each (first_line classes parents n line refl refl refl refl);
    }
