use Rattle.std.proofs.Common.{◌≡◌, ℕ, length, sym, ap, ◌∙◌, arith}
use Rattle.std.specs.List.{sum}
use Rattle.life_classes.specs.Forest.{moved, root}
use Rattle.life_classes.proofs.Forests.{joined_already, joined_first, joined_second, told_root}
use Rattle.life_classes.proofs.forest.join.Goals as goal
use Rattle.life_classes.proofs.forest.join.Goals.{then-first-second-2, else-first-second-2}

pub put-requires-clause-high : goal.put-requires-clause-high
put-requires-clause-high c =
    told_root c.args.forest.now.items c.as_slice-2.result.now c.args.other c.root-second.result c.as_slice-2.ensures.value
    c.root-second.ensures.value

pub put-requires-clause-low : goal.put-requires-clause-low
put-requires-clause-low c =
    told_root c.args.forest.now.items c.as_slice.result.now c.args.one c.root-first.result c.as_slice.ensures.value
    c.root-first.ensures.value

pub put-requires-else-first-second-2-clause-high : goal.put-requires-else-first-second-2-clause-high
put-requires-else-first-second-2-clause-high c =
    told_root c.args.forest.now.items c.as_slice.result.now c.args.one c.root-first.result c.as_slice.ensures.value
    c.root-first.ensures.value

pub put-requires-else-first-second-2-clause-low : goal.put-requires-else-first-second-2-clause-low
put-requires-else-first-second-2-clause-low c =
    told_root c.args.forest.now.items c.as_slice-2.result.now c.args.other c.root-second.result c.as_slice-2.ensures.value
    c.root-second.ensures.value

pub returns : goal.returns
returns c =
    let f = c.args.forest.now.items in
    let mid = c.if-first-second-2.forest.items in
    let new = c.shorten-2.new.forest.items in
    let one = c.args.one in
    let other = c.args.other in
    let first : c.root-first.result ≡ root f one = c.root-first.ensures.value ∙ ap (λ h. root h one) c.as_slice.ensures.value in
    let second : c.root-second.result ≡ root f other = c.root-second.ensures.value ∙ ap (λ h. root h other) c.as_slice-2.ensures.value in
    let to : (k : ℕ) → root new k ≡ root mid k = λ k. c.shorten-2.ensures.same k ∙ c.shorten.ensures.same k in
    let long = c.shorten-2.ensures.long ∙ c.shorten.ensures.long in
    let least = c.shorten-2.ensures.less in
    let less = c.shorten.ensures.less in
    elim c.if-first-second-2.branch [
      | then-first-second-2 w ↦
          let is : mid ≡ w.put.new.forest.items = ap (λ v. v.items) w.forest-is in
          let same = ap sum is in
          let fewer = w.put.ensures.less in
          joined_second f new one other (long ∙ ap length is ∙ w.put.ensures.long) (omega arith)
          (λ k. to k ∙ ap (λ l. root l k) is ∙ w.put.ensures.moved k ∙ (λ i. moved (second i) (first i) (root f k)))
          (omega (arith, w.if-first-second-2.true))
      | else-first-second-2 w ↦
          let is : mid ≡ w.put-else-first-second-2.new.forest.items = ap (λ v. v.items) w.forest-is in
          let same = ap sum is in
          let fewer = w.put-else-first-second-2.ensures.less in
          let differ = c.if-first-second.false in
          joined_first f new one other (long ∙ ap length is ∙ w.put-else-first-second-2.ensures.long) (omega arith)
          (λ k. to k ∙ ap (λ l. root l k) is ∙ w.put-else-first-second-2.ensures.moved k ∙ (λ i. moved (first i) (second i) (root f k)))
          (omega (arith, w.if-first-second-2.false))
    ]

pub returns-then-first-second : goal.returns-then-first-second
returns-then-first-second c =
    let f = c.args.forest.now.items in
    joined_already f c.args.one c.args.other
    (sym (c.root-first.ensures.value ∙ ap (λ h. root h c.args.one) c.as_slice.ensures.value) ∙ c.if-first-second.true
    ∙ (c.root-second.ensures.value ∙ ap (λ h. root h c.args.other) c.as_slice-2.ensures.value))
