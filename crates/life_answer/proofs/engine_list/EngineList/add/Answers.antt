use Rattle.std.proofs.Common.{◌≡◌, ◌∙◌, ◌≤◌, ◌<◌, length, set, get_or, ap, sym, subst, arith}
use Rattle.std.specs.List.{insert}
use Rattle.life_answer.specs.CountedTales.{alone, engines_in, joined_by_one, with_tale}
use Rattle.life_answer.proofs.EngineCounts.{added_one, count_within}
use Rattle.life_answer.proofs.engine_list.EngineList.add.Goals as goal
use Rattle.life_answer.proofs.engine_list.EngineList.add.Goals.{then-is_there, else-is_there+in_ok-insert}

pub overflow_add-index_mut : goal.overflow_add-index_mut
overflow_add-index_mut c =
    let items = c.self.inside.engines.items in
    let n = c.place_of-place.result.0 in
    let now = c.index_mut.result.now in
    let inside : n < length items =
    subst (λ ls. n < length ls) c.as_slice.ensures.value (c.place_of-place.ensures.inside c.if-is_there.true) in
    let one : (get_or items n now).count ≤ engines_in items = count_within items n now inside in
    let same : now.count ≡ (get_or items n now).count = ap (λ l. l.count) c.index_mut.ensures.value in
    let all : c.self.inside.count ≡ engines_in items = c.self.invariant.0 in
    let few = c.self.invariant.1 in
    omega arith

pub invariant_of-self-2 : goal.invariant_of-self-2
invariant_of-self-2 c =
    let items = c.self.inside.engines.items in
    let n = c.place_of-place.result.0 in
    let all : c.self.inside.count ≡ engines_in items = c.self.invariant.0 in
    let few = c.self.invariant.1 in
    let room = c.if-self-eq-COUNT_LIMIT.false in
    elim c.if-is_there.branch [
      | then-is_there w ↦
          let now = w.index_mut.result.now in
          let counted : with_tale c.args.tale items ≡ set items n (joined_by_one (get_or items n now)) =
          subst (λ ls. with_tale c.args.tale ls ≡ set ls n (joined_by_one (get_or ls n now)))
          c.as_slice.ensures.value (c.place_of-place.ensures.there w.if-is_there.true now) in
          let count : c.if-is_there.self-inside.count ≡ c.self.inside.count = ap (λ s. s.count) w.self-inside-is in
          let new = ap (λ s. s.engines.items) w.self-inside-is
          ∙ ap (λ l. set items n (joined_by_one l)) w.index_mut.ensures.value ∙ sym counted in
          (added_one _ items _ c.args.tale (count ∙ all) new, omega arith)
      | else-is_there+in_ok-insert w ↦
          let counted : with_tale c.args.tale items ≡ insert items n (alone c.args.tale) =
          subst (λ ls. with_tale c.args.tale ls ≡ insert ls n (alone c.args.tale)) c.as_slice.ensures.value
          (c.place_of-place.ensures.new w.if-is_there.false) in
          let count : c.if-is_there.self-inside.count ≡ c.self.inside.count = ap (λ s. s.count) w.self-inside-is in
          let new = ap (λ s. s.engines.items) w.self-inside-is ∙ w.in_ok-insert.ensures.items ∙ sym counted in
          (added_one _ items _ c.args.tale (count ∙ all) new, omega arith)
    ]
