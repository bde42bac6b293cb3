use Rattle.std.proofs.Common.{◌≡◌, get_or, inl, inr, subst, arith}
use Rattle.std.proofs.lemmas.Bool.{cases_lt}
use Rattle.std.proofs.lemmas.List.{get_or_read}
use Rattle.life_model.specs.Cell.{origin}
use Rattle.life_orbit.specs.Course.{Course}
use Rattle.life_apart.specs.Spans.{HasSpans}
use Rattle.life_apart.proofs.Sweeping.{spans_kept}
use Rattle.life_apart.proofs.span.spans_of.Goals as goal

pub loop-n-preserved : goal.loop-n-preserved
loop-n-preserved c =
    let os = c.args.orbits.now in
    let n = c.loop-n.n in
    let o = c.index-orbits-n.result in
    let now = c.add_spans.new.spans.items in
    record {
      placed = c.add_spans.ensures.placed _ c.loop-n-test.true c.loop-n.invariant.placed;
      each = λ i e within. elim (cases_lt i n) [
        | inl early ↦ λ rests. spans_kept c.loop-n.spans.items now (get_or os i e) i c.add_spans.ensures.kept
            (c.loop-n.invariant.each i e early rests)
        | inr late ↦
            let last : n ≡ i = omega arith in
            subst (λ k. (get_or os k e).displacement ≡ origin → HasSpans now (get_or os k e) k) last
            (subst (λ (w : Course). w.displacement ≡ origin → HasSpans now w n)
            (get_or_read os n o c.loop-n-test.true c.index-orbits-n.is e) c.in_ok-add_spans.ensures.spans)
      ];
    }
