use Rattle.std.proofs.Common.{◌≡◌, [], ◌∷◌, ◌++◌, ◌∙◌, ap, sym, refl, Some, None, List, arith}
use Rattle.std.proofs.lemmas.List.{append-nil, with_items_is}
use Rattle.census_readback.specs.Counts.{Object as Counted, Sum, with_more}
use Rattle.census_readback.proofs.sums.Sums.count.Goals as goal

pub returns-then-count_among : goal.returns-then-count_among
returns-then-count_among c =
    let rest : List (Counted × Sum) = elim c.self.inside.rest as (λ _. List (Counted × Sum)) [ None ↦ [] | Some m ↦ m.value.entries ] in
    let kept = with_items_is c.self.inside.first c.count_among.new.counted (omega (arith, c.count_among.auto.counted, c.as_mut_slice.ensures.len)) in
    ap (λ w. w ++ rest) kept ∙ sym (c.if-count_among.ensures.yes refl rest) ∙ ap (λ w. with_more c.args.object c.args.count (w ++ rest)) c.as_mut_slice.ensures.value
    ∙ ap (with_more c.args.object c.args.count) c.self.view_is

pub returns-in_ok-push-in-None : goal.returns-in_ok-push-in-None
returns-in_ok-push-in-None c =
    let k = c.args.object in
    let n = c.args.count in
    let rest : List (Counted × Sum) = elim c.self.inside.rest as (λ _. List (Counted × Sum)) [ None ↦ [] | Some m ↦ m.value.entries ] in
    let none : rest ≡ [] = ap (λ r. elim r as (λ _. List (Counted × Sum)) [ None ↦ [] | Some m ↦ m.value.entries ]) c.in-None.is in
    let whole = c.if-count_among.ensures.no refl [] in
    let kept = with_items_is c.self.inside.first c.count_among.new.counted (omega (arith, c.count_among.auto.counted, c.as_mut_slice.ensures.len)) in
    let pushed = c.in_ok-push-in-None.ensures.items ∙ ap (λ w. w ++ (k, c.sum_with.result) ∷ []) (c.in_ok-reserve_exact-in-None.ensures.items ∙ kept) in
    let sum = ap (λ s. c.count_among.new.counted ++ (k, s) ∷ []) c.sum_with.ensures in
    ap (λ w. c.push.new.self.items ++ w) none ∙ append-nil c.push.new.self.items ∙ pushed ∙ sum ∙ sym whole
    ∙ ap (λ w. with_more k n (w ++ [])) c.as_mut_slice.ensures.value ∙ ap (λ w. with_more k n (c.self.inside.first.items ++ w)) (sym none)
    ∙ ap (with_more k n) c.self.view_is
