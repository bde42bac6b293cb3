use Rattle.std.proofs.Common.{◌≡◌, ℕ, cond, ap, true, arith}
use Rattle.census_crew.specs.declared.item.Item.TheVariants.{Work}
use Rattle.census_crew.specs.declared.view.View.{View}
use Rattle.census_crew.specs.Items.{has_item, occurrence_count, mark_count}
use Rattle.census_crew.specs.Rule.{all_items_of}
use Rattle.census_crew.specs.Feeds.{some_finished}
use Rattle.census_crew.proofs.Closes.{joined_lists, marks_finished}
use Rattle.census_crew.proofs.handles.Feed.close.Goals as goal

pub returns-clause-left : goal.returns-clause-left
returns-clause-left c =
    let r = c.pop_all.ensures.left in
    let e = c.end_all.ensures.ended in (
      r.0,
      r.1,
      (
        r.2.0,
        λ t.
            let o = r.2.1 t in
            let j = ap (occurrence_count (Work t)) (joined_lists c.args.hands.items) in
            let a = ap (λ (v : View). occurrence_count (Work t) (all_items_of v.ended)) e in
            let f = ap (λ (v : View). cond {A = ℕ} (has_item v.filled (Work t)) 1 0) e in
            omega arith,
      ),
    )

pub returns-clause-none : goal.returns-clause-none
returns-clause-none c =
    let e = ap (λ (v : View). mark_count (all_items_of v.ended)) c.end_all.ensures.ended in
    let j = ap mark_count (joined_lists c.args.hands.items) in
    λ (s : some_finished c.args.hands.items ≡ true). let m = marks_finished c.args.hands.items s in c.pop_all.ensures.none (omega arith)
