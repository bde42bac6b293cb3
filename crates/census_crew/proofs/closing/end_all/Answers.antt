use Rattle.std.proofs.Common.{◌≡◌, ◌∷◌, [], ◌++◌, List, length, ap, ◌∙◌, sym, append_assoc, arith}
use Rattle.std.proofs.lemmas.List.{map-append}
use Rattle.std.specs.Vec.Iter.{into_iter_items}
use Rattle.std.proofs.lemmas.List.Elements.{All-rest, All-weaker}
use Rattle.crossbeam_deque.specs.Handles.{stealer_deque, worker_deque, worker_view}
use Rattle.census_crew.specs.declared.item.Item.{Item}
use Rattle.census_crew.specs.declared.view.View.{View}
use Rattle.census_crew.specs.declared.handles.Hand.{Hand}
use Rattle.census_crew.specs.Feeds.{list_of}
use Rattle.census_crew.proofs.closing.end_all.Goals as goal

pub loop-hand-preserved : goal.loop-hand-preserved
loop-hand-preserved c =
    let at = c.loop-hand in
    let x = c.in-Some.hand in
    let rest = into_iter_items c.next.new.self in
    let steps : into_iter_items at.hand-iterator ≡ x ∷ rest = c.in-Some.ensures.steps.0 in
    let gone = c.in-Some.ensures.steps.1 in
    let short = ap (λ l. length l) steps in
    let same = c.end.ensures.ending.1 in
    record {
      order = append_assoc at.yielded (x ∷ []) rest ∙ rw (← steps) at.invariant.order;
      as_many = let n = at.invariant.as_many in omega arith;
      its = All-weaker (λ (h : Hand). stealer_deque h.stealer ≡ worker_deque at.owner) (λ (h : Hand). stealer_deque h.stealer ≡ worker_deque c.end.new.owner) (λ h e. e ∙ sym same) rest
          (All-rest (λ (h : Hand). stealer_deque h.stealer ≡ worker_deque at.owner) x rest (into_iter_items at.hand-iterator) steps at.invariant.its);
      ending = c.end.ensures.ending.0;
      ended = c.end.ensures.ended ∙ ap (λ (v : View). record v { ended = v.ended ++ list_of x ∷ [] }) at.invariant.ended
          ∙ ap (λ (l : List (List Item)). record (worker_view c.args.owner.now) { ended = l }) (sym (map-append list_of at.yielded (x ∷ [])));
    }
