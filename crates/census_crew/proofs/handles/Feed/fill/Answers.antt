use Rattle.std.proofs.Common.{◌≡◌, true, ℕ, ◌<◌, ◌^◌, List, ◌++◌, length, ap, ◌∙◌, sym, subst, arith}
use Rattle.crossbeam_deque.specs.Handles.{worker_view}
use Rattle.census_crew.specs.declared.item.Item.{Item}
use Rattle.census_crew.specs.declared.item.Item.TheVariants.{Work}
use Rattle.census_crew.specs.Items.{end_marks, items, has_item, mark_count, Rises}
use Rattle.census_crew.specs.Fillings.{CanFollow}
use Rattle.census_crew.proofs.Orders.{items_rise}
use Rattle.census_crew.proofs.Places.{is_ticket_of, ticket_is_there}
use Rattle.census_crew.proofs.FeedSteps.{begins}
use Rattle.census_crew.proofs.Fills.{marks_follow}
use Rattle.census_crew.proofs.Counts.{marks_items, few_items}
use Rattle.census_crew.proofs.handles.Feed.fill.Goals as goal

pub fifo_as-requires : goal.fifo_as-requires
fifo_as-requires c = begins

pub push_marks-requires-clause-next : goal.push_marks-requires-clause-next
push_marks-requires-clause-next c = subst (λ (l : List Item). CanFollow l (end_marks c.args.workers)) (sym c.in_ok-push_tickets.ensures.pushed) (marks_follow c.args.bundle.now c.args.workers)

pub invariant_of-result : goal.invariant_of-result
invariant_of-result c =
    let bundle = c.args.bundle.now in let n = c.args.workers in
    let all : (worker_view c.deal.new.owner).filled ≡ items bundle n =
    c.in_ok-hands.ensures.same.0 ∙ c.in_ok-push_marks.ensures.pushed ∙ ap (λ l. l ++ end_marks n) c.in_ok-push_tickets.ensures.pushed in
    let m : mark_count (worker_view c.deal.new.owner).filled ≡ n = ap mark_count all ∙ marks_items bundle n in
    let f = c.in_ok-hands.ensures.filling in
    let l : length (worker_view c.deal.new.owner).filled < 2 ^ 62 =
    subst (λ (x : ℕ). x < 2 ^ 62) (sym (ap length all)) (few_items bundle n c.in_ok-push_tickets.ensures.small c.requires.workers.1) in
    record { filled = (f.0, f.1, f.2 ∙ sym m, f.3, f.4); some_hands = omega (arith, m, c.requires.workers.0); small = l }

pub returns-clause-tickets : goal.returns-clause-tickets
returns-clause-tickets c =
    let bundle = c.args.bundle.now in let n = c.args.workers in
    let all : (worker_view c.deal.new.owner).filled ≡ items bundle n =
    c.in_ok-hands.ensures.same.0 ∙ c.in_ok-push_marks.ensures.pushed ∙ ap (λ l. l ++ end_marks n) c.in_ok-push_tickets.ensures.pushed in
    λ t. (
      (λ h. is_ticket_of bundle n t (subst (λ (l : List Item). has_item l (Work t) ≡ true) all h)),
      λ h. subst (λ (l : List Item). has_item l (Work t) ≡ true) (sym all) (ticket_is_there bundle n t h),
    )

pub returns-clause-rising : goal.returns-clause-rising
returns-clause-rising c =
    let bundle = c.args.bundle.now in let n = c.args.workers in
    let all : (worker_view c.deal.new.owner).filled ≡ items bundle n =
    c.in_ok-hands.ensures.same.0 ∙ c.in_ok-push_marks.ensures.pushed ∙ ap (λ l. l ++ end_marks n) c.in_ok-push_tickets.ensures.pushed in
    subst Rises (sym all) (items_rise bundle n)
