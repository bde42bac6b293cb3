use Rattle.std.proofs.Common.{◌+◌, ◌<◌, ◌++◌, length, take, drop, sym, subst}
use Rattle.std.proofs.lemmas.List.Elements.{All-append, All-drop, All-same, All-take}
use Rattle.life_strays.specs.Strays.{IsIslandNow}
use Rattle.life_strays.proofs.Yielded.{one_more}
use Rattle.life_strays.proofs.choosing.take_largest.Goals as goal

pub loop-preserved : goal.loop-preserved
loop-preserved c =
    let xs = c.loop.islands.items in
    let k = c.largest-place.result in
    let at = c.loop.invariant in
    record {
      left = λ R G all. All-same (IsIslandNow R G) _ (take k xs ++ drop (k + 1) xs) c.remove.ensures.by_index.2
          (All-append (IsIslandNow R G) (take k xs) (drop (k + 1) xs) (All-take (IsIslandNow R G) k xs (at.left R G all))
          (All-drop (IsIslandNow R G) (k + 1) xs (at.left R G all)));
      some = λ R G all before. one_more (IsIslandNow R G) c.loop.some.items c.push.new.self.items c.remove.result
          c.in_ok-push.ensures.items (at.some R G all before)
          (subst (IsIslandNow R G) (sym c.remove.ensures.value)
          (at.left R G all k c.remove.result
          (subst (λ ys. k < length ys) c.as_slice.ensures.value c.largest-place.ensures)));
    }
