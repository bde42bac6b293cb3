use Rattle.std.proofs.Common.{◌≡◌, true, ap, ◌∙◌, arith}
use Rattle.crossbeam_deque.specs.Handles.{view}
use Rattle.census_crew.specs.declared.item.Item.TheVariants.{Work}
use Rattle.census_crew.specs.Items.{has_item, ends_with_mark}
use Rattle.census_crew.proofs.Counts.{marks_at_end, marked_at_end, has_last}
use Rattle.census_crew.proofs.Places.{is_ticket_for}
use Rattle.census_crew.proofs.FeedSteps.{none_left, only_later_left}
use Rattle.census_crew.proofs.handles.Hand.take.Goals as goal

pub returns-then-self-clause-none : goal.returns-then-self-clause-none
returns-then-self-clause-none g c =
    let taken = (view c.args.self.now.pass).taken in
    let e : ends_with_mark taken ≡ true = c.args.self.now.marked.1 c.if-self.true in
    (e, none_left _ _ c.args.self.now.holder (marks_at_end taken e))

pub returns-in-Work-clause-least : goal.returns-in-Work-clause-least
returns-in-Work-clause-least g c =
    let e = c.in-Work.ensures.stole.0 in
    let taken = (view c.steal.new.pass).taken in
    let i : has_item taken (Work c.in-Work.ticket) ≡ true = ap (λ v. has_item v.taken (Work c.in-Work.ticket)) e ∙ has_last (view c.args.self.now.pass).taken (Work c.in-Work.ticket) in
    only_later_left _ _ (Work c.in-Work.ticket) (ap (λ v. v.role) e ∙ c.args.self.now.holder) i

pub returns-in-Work-clause-over : goal.returns-in-Work-clause-over
returns-in-Work-clause-over g c =
    let taken = (view c.args.self.now.pass).taken in
    λ (e : ends_with_mark taken ≡ true). absurd (let m = marks_at_end taken e in let n = c.args.self.now.marked.0 c.if-self.false in omega arith)

pub returns-in-Mark-clause-none : goal.returns-in-Mark-clause-none
returns-in-Mark-clause-none g c =
    let e = c.in-Mark.ensures.stole.0 in
    let taken = (view c.steal.new.pass).taken in
    let m : ends_with_mark taken ≡ true = ap (λ v. ends_with_mark v.taken) e ∙ marked_at_end (view c.args.self.now.pass).taken c.in-Mark.field-0 in
    (m, none_left _ _ (ap (λ v. v.role) e ∙ c.args.self.now.holder) (marks_at_end taken m))

pub returns-in-Mark-clause-over : goal.returns-in-Mark-clause-over
returns-in-Mark-clause-over g c =
    let taken = (view c.args.self.now.pass).taken in
    λ (e : ends_with_mark taken ≡ true). absurd (let m = marks_at_end taken e in let n = c.args.self.now.marked.0 c.if-self.false in omega arith)

pub returns-in-Work-clause-bundle : goal.returns-in-Work-clause-bundle
returns-in-Work-clause-bundle g c = is_ticket_for (view c.args.self.now.pass).filled c.in-Work.ticket c.in-Work.ensures.stole.2.0
