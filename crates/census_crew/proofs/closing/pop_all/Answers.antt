use Rattle.std.proofs.Common.{ℕ, ◌<◌, cond, ap, ◌∙◌, sym, length, arith}
use Rattle.std.specs.List.{filter}
use Rattle.std.proofs.lemmas.List.Sums.{length-filter}
use Rattle.std.proofs.lemmas.List.Elements.{filter_passes}
use Rattle.crossbeam_deque.specs.Handles.{worker_view}
use Rattle.census_crew.specs.declared.item.Item.TheVariants.{Work}
use Rattle.census_crew.specs.declared.view.View.{View}
use Rattle.census_crew.specs.Items.{has_item, is_ticket, occurrence_count, mark_count}
use Rattle.census_crew.specs.Rule.{all_items_of}
use Rattle.census_crew.proofs.Counts.{times_tickets, no_tickets}
use Rattle.census_crew.proofs.FeedSteps.{pops, finds_all_out}
use Rattle.census_crew.proofs.closing.pop_all.Goals as goal

pub pop_as-requires-clause-fifo : goal.pop_as-requires-clause-fifo
pop_as-requires-clause-fifo c =
    let s = c.loop-item.invariant.same in
    let h = c.requires.ending.1 in
    let e = ap (λ v. length v.ended) s in
    let m = ap (λ v. mark_count v.filled) s in
    λ _. pops _ _ (ap (λ v. v.role) s ∙ c.requires.ending.0.1) (omega arith) (omega arith)

pub pop_as-requires-clause-empty : goal.pop_as-requires-clause-empty
pop_as-requires-clause-empty c =
    let s = c.loop-item.invariant.same in
    finds_all_out _ _ (ap (λ v. v.role) s ∙ c.requires.ending.0.1) (ap (λ v. v.begun) s ∙ c.requires.ending.1.0 ∙ sym (ap (λ v. length v.ended) s))

pub returns-clause-left : goal.returns-clause-left
returns-clause-left c =
    let taken = (worker_view c.loop-item.owner).taken in
    let same = c.loop-item.invariant.same in
    let out = c.in_default.ensures.rule.1 in (
      filter is_ticket taken,
      length-filter is_ticket taken ∙ sym c.loop-item.invariant.counted,
      (
        filter_passes is_ticket taken,
        λ t.
            let o = out.0 (Work t) in
            let k = times_tickets t taken in
            let e = ap (λ (v : View). occurrence_count (Work t) (all_items_of v.ended)) same in
            let f = ap (λ (v : View). cond {A = ℕ} (has_item v.filled (Work t)) 1 0) same in
            omega arith,
      ),
    )

pub returns-clause-none : goal.returns-clause-none
returns-clause-none c =
    let taken = (worker_view c.loop-item.owner).taken in
    let same = c.loop-item.invariant.same in
    let out = c.in_default.ensures.rule.1 in
    let m = ap (λ (v : View). mark_count (all_items_of v.ended)) same in
    λ (h : 0 < mark_count (all_items_of (worker_view c.args.owner.now).ended)). let n = no_tickets taken (out.1 (omega arith)) in c.loop-item.invariant.counted ∙ n
