use Rattle.std.proofs.Common.{◌≡◌, ◌∙◌, ◌≤◌, ◌<◌, length, set, get_or, ap, sym, subst, arith}
use Rattle.std.specs.List.{insert}
use Rattle.life_answer.specs.Parts.{more, objects_in, single, with_code}
use Rattle.life_answer.proofs.Counted.{added_one, count_within}
use Rattle.life_answer.proofs.parts.Parts.add.Goals as goal
use Rattle.life_answer.proofs.parts.Parts.add.Goals.{then-is_there, else-is_there+in_ok-insert}

pub overflow_add-index_mut : goal.overflow_add-index_mut
overflow_add-index_mut c =
    let items = c.self.inside.parts.items in
    let n = c.place_of-place.result.0 in
    let now = c.index_mut.result.now in
    let inside : n < length items =
    subst (λ ps. n < length ps) c.as_slice.ensures.value (c.place_of-place.ensures.inside c.if-is_there.true) in
    let one : (get_or items n now).count ≤ objects_in items = count_within items n now inside in
    let same : now.count ≡ (get_or items n now).count = ap (λ p. p.count) c.index_mut.ensures.value in
    let all : c.self.inside.count ≡ objects_in items = c.self.invariant.0 in
    let few = c.self.invariant.1 in
    omega arith

pub invariant_of-self-2 : goal.invariant_of-self-2
invariant_of-self-2 c =
    let items = c.self.inside.parts.items in
    let n = c.place_of-place.result.0 in
    let all : c.self.inside.count ≡ objects_in items = c.self.invariant.0 in
    let few = c.self.invariant.1 in
    let room = c.if-self-eq-COUNT_LIMIT.false in
    elim c.if-is_there.branch [
      | then-is_there w ↦
          let now = w.index_mut.result.now in
          let there = subst (λ ps. with_code c.as_slice-2.result.now ps ≡ set ps n (more (get_or ps n now)))
          c.as_slice.ensures.value (c.place_of-place.ensures.there w.if-is_there.true now) in
          let counted : with_code c.args.code items ≡ set items n (more (get_or items n now)) =
          subst (λ code. with_code code items ≡ set items n (more (get_or items n now))) c.as_slice-2.ensures there in
          let count : c.if-is_there.self-inside.count ≡ c.self.inside.count = ap (λ s. s.count) w.self-inside-is in
          let new = ap (λ s. s.parts.items) w.self-inside-is ∙ ap (λ p. set items n (more p)) w.index_mut.ensures.value ∙ sym counted in
          (added_one _ items _ c.args.code (count ∙ all) new, omega arith)
      | else-is_there+in_ok-insert w ↦
          let fresh = subst (λ ps. with_code c.as_slice-2.result.now ps ≡ insert ps n (single c.as_slice-2.result.now))
          c.as_slice.ensures.value (c.place_of-place.ensures.new w.if-is_there.false) in
          let counted : with_code c.args.code items ≡ insert items n (single c.args.code) =
          subst (λ code. with_code code items ≡ insert items n (single code)) c.as_slice-2.ensures fresh in
          let count : c.if-is_there.self-inside.count ≡ c.self.inside.count = ap (λ s. s.count) w.self-inside-is in
          let new = ap (λ s. s.parts.items) w.self-inside-is ∙ w.in_ok-insert.ensures.items ∙ sym counted in
          (added_one _ items _ c.args.code (count ∙ all) new, omega arith)
    ]
