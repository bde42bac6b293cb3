use Rattle.std.proofs.Common.{◌≡◌, suc, ◌+◌, sym, subst, ◌∙◌, arith}
use Rattle.life_tracks.specs.Frames.Frames.{classes_at, parents_at}
use Rattle.life_tracks.specs.Lines.{AreLines}
use Rattle.life_tracks.specs.Returns.{AreReturns, IsWithReturns}
use Rattle.life_tracks.proofs.Adding.{returns_more}
use Rattle.life_tracks.proofs.returns.returns.Goals as goal

pub loop-t-preserved : goal.loop-t-preserved
loop-t-preserved c =
    let frames = classes_at c.args.film.now in
    let borne = parents_at c.args.film.now in
    let t = c.loop-t.t in
    let lines = c.in_ok-lines-2.lines.items in
    let old = c.loop-t.found.items in
    let found = c.add_returns.new.found.items in
    let e : suc c.loop-t.t ≡ c.loop-t.t + 1 = omega arith in
    record {
      lines = subst (λ n. AreLines frames borne n lines) e c.in_ok-lines-2.ensures;
      found = subst (λ n. AreReturns frames borne n found) e
          (returns_more frames borne t lines old found c.loop-t.invariant.found c.in_ok-lines-2.ensures
          (subst (λ n. IsWithReturns lines n old found) (sym e)
          (subst (λ ls. IsWithReturns ls (t + 1) old found) c.as_slice-in-loop-t.ensures.value c.in_ok-add_returns.ensures)));
    }

pub returns : goal.returns
returns c =
    let past = c.loop-t-test.false in
    let low = c.loop-t.auto.t-end in
    let same : c.loop-t.t ≡ c.length-t-end.result = omega arith in
    subst (λ n. AreReturns (classes_at c.args.film.now) (parents_at c.args.film.now) n c.loop-t.found.items)
    (same ∙ c.length-t-end.ensures.count) c.loop-t.invariant.found
