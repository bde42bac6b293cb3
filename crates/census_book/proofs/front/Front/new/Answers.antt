use Rattle.std.proofs.Common.{length, ap, ◌∙◌, slice_index}
use Rattle.std.proofs.lemmas.List.{get_or-replicate, length-replicate}
use Rattle.census_book.proofs.Fronts.{front_new}
use Rattle.census_book.proofs.front.Front.new.Goals as goal

pub returns : goal.returns
returns c =
    let n = length c.args.folders.now in
    let zeros = c.in_ok-runs.ensures.items_if_clones_equal (λ y e. e) in
    let next = rw c.deref.ensures.value at c.next_open-first_open.ensures in
    front_new c.args.folders.now _ _ (ap length zeros ∙ length-replicate n 0) (λ k lt. ap (λ xs. slice_index xs k) zeros ∙ get_or-replicate n k 0 0 lt) next
