use Rattle.std.proofs.Common.{◌≡◌, ◌++◌, ◌∷◌, [], map, string_bytes, ◌<◌, ◌≤◌, length, sym, ap, ◌∙◌, nat_cmp, arith}
use Rattle.std.specs.Cmp.Lexicographic.{slice_cmp}
use Rattle.std.proofs.lemmas.List.{length-map, map-append}
use Rattle.std.proofs.lemmas.List.Sorted.{IsPermutation-map}
use Rattle.std.proofs.lemmas.Result.{err_from_is_err_and}
use Rattle.census_folders.proofs.Listings.{IsSorted-map}
use Rattle.census_folders.proofs.Walked.{none_walked, one_more_left, one_more_taken, path_at, stops_walk, whole_tree}
use Rattle.census_folders.proofs.walking.folders_below.Goals.{then-branch+in_ok-push-2, else-branch}
use Rattle.census_folders.proofs.walking.folders_below.Goals as goal

pub loop-at-init : goal.loop-at-init
loop-at-init g c =
    let found : map string_bytes c.push.new.self.items ≡ c.args.word.now ∷ [] = ap (map string_bytes) (c.in_ok-push.ensures.items ∙ ap (λ xs. xs ++ c.in_ok-from_str.field-0 ∷ []) c.new-found.ensures.items) ∙ ap (λ p. p ∷ []) c.in_ok-from_str.ensures.ok in
    rw c.new-chosen.ensures.items (none_walked c.args.on_loss (g.S.Shelf.tellings c.args.shelf.now) c.args.word.now _ c.args.lost.now found)

pub loop-at-preserved-then-if-drop : goal.loop-at-preserved-then-if-drop
loop-at-preserved-then-if-drop g c =
    let found = map string_bytes c.loop-at.found.items in
    let chosen = map string_bytes c.loop-at.chosen.items in
    let path = c.as_str.result.now in
    let within : c.loop-at.at < length c.loop-at.found.items = omega (arith, c.len.ensures) in
    let same : path ≡ string_bytes c.in_ok-folder.folder = c.as_str.ensures.value in
    let here = path_at c.loop-at.found.items c.loop-at.at c.index.result.now path within c.index.ensures (same ∙ c.in_ok-folder.ensures.cases) in
    let within_paths : c.loop-at.at < length found = omega (arith, length-map c.loop-at.found.items (λ s. string_bytes s), within) in
    elim c.if-branch.branch [
      | then-branch+in_ok-push-2 w ↦
          (let added : map string_bytes c.if-branch.chosen.items ≡ chosen ++ path ∷ [] = ap (λ v. map string_bytes v.items) w.chosen-is ∙ ap (map string_bytes) w.in_ok-push-2.ensures.items ∙ map-append string_bytes c.loop-at.chosen.items (c.in_ok-folder.folder ∷ []) ∙ ap (λ p. chosen ++ p ∷ []) (sym same) in
          rw added (one_more_taken c.args.on_loss (g.S.Shelf.tellings c.args.shelf.now) c.args.word.now path found (map string_bytes c.visit.new.found.items) chosen c.args.lost.now c.loop-at.lost c.visit.new.lost c.loop-at.at c.in_ok-visit.field-0 w.if-branch.true within_paths here c.loop-at.invariant c.in_ok-visit.ensures))
      | else-branch w ↦
          rw w.chosen-is (one_more_left c.args.on_loss (g.S.Shelf.tellings c.args.shelf.now) c.args.word.now path found (map string_bytes c.visit.new.found.items) chosen c.args.lost.now c.loop-at.lost c.visit.new.lost c.loop-at.at c.in_ok-visit.field-0 w.if-branch.false within_paths here c.loop-at.invariant c.in_ok-visit.ensures)
    ]

pub loop-at-preserved : goal.loop-at-preserved
loop-at-preserved g c =
    let found = map string_bytes c.loop-at.found.items in
    let chosen = map string_bytes c.loop-at.chosen.items in
    let path = c.as_str.result.now in
    let within : c.loop-at.at < length c.loop-at.found.items = omega (arith, c.len.ensures) in
    let same : path ≡ string_bytes c.in_ok-folder.folder = c.as_str.ensures.value in
    let here = path_at c.loop-at.found.items c.loop-at.at c.index.result.now path within c.index.ensures (same ∙ c.in_ok-folder.ensures.cases) in
    let within_paths : c.loop-at.at < length found = omega (arith, length-map c.loop-at.found.items (λ s. string_bytes s), within) in
    elim c.if-branch.branch [
      | then-branch+in_ok-push-2 w ↦
          (let added : map string_bytes c.if-branch.chosen.items ≡ chosen ++ path ∷ [] = ap (λ v. map string_bytes v.items) w.chosen-is ∙ ap (map string_bytes) w.in_ok-push-2.ensures.items ∙ map-append string_bytes c.loop-at.chosen.items (c.in_ok-folder.folder ∷ []) ∙ ap (λ p. chosen ++ p ∷ []) (sym same) in
          rw added (one_more_taken c.args.on_loss (g.S.Shelf.tellings c.args.shelf.now) c.args.word.now path found (map string_bytes c.visit.new.found.items) chosen c.args.lost.now c.loop-at.lost c.visit.new.lost c.loop-at.at c.in_ok-visit.field-0 w.if-branch.true within_paths here c.loop-at.invariant c.in_ok-visit.ensures))
      | else-branch w ↦
          rw w.chosen-is (one_more_left c.args.on_loss (g.S.Shelf.tellings c.args.shelf.now) c.args.word.now path found (map string_bytes c.visit.new.found.items) chosen c.args.lost.now c.loop-at.lost c.visit.new.lost c.loop-at.at c.in_ok-visit.field-0 w.if-branch.false within_paths here c.loop-at.invariant c.in_ok-visit.ensures)
    ]

pub returns-in_err-visit : goal.returns-in_err-visit
returns-in_err-visit g c =
    let p = err_from_is_err_and c.from_residual-in_err-visit.result c.from_residual-in_err-visit.ensures.1 in
    let found = map string_bytes c.loop-at.found.items in
    let path = c.as_str.result.now in
    let within : c.loop-at.at < length c.loop-at.found.items = omega (arith, c.len.ensures) in
    let here = path_at c.loop-at.found.items c.loop-at.at c.index.result.now path within c.index.ensures (c.as_str.ensures.value ∙ c.in_ok-folder.ensures.cases) in
    let within_paths : c.loop-at.at < length found = omega (arith, length-map c.loop-at.found.items (λ s. string_bytes s), within) in
    rw (p.1, p.2) (stops_walk c.args.on_loss (g.S.Shelf.tellings c.args.shelf.now) c.args.word.now path found (map string_bytes c.loop-at.chosen.items) c.args.lost.now c.loop-at.lost c.loop-at.at _ within_paths here c.loop-at.invariant c.in_err-visit.ensures)

pub returns : goal.returns
returns g c =
    let found = map string_bytes c.loop-at.found.items in
    let all : length found ≤ c.loop-at.at = omega (arith, length-map c.loop-at.found.items (λ s. string_bytes s), c.len.ensures) in
    whole_tree _ _ _ found (map string_bytes c.loop-at.chosen.items) _ c.args.lost.now c.loop-at.lost c.loop-at.at all c.loop-at.invariant (IsPermutation-map (λ s. string_bytes s) c.loop-at.chosen.items c.sort.new.self.items c.sort.ensures.permutation) (IsSorted-map (λ s. string_bytes s) (slice_cmp nat_cmp) c.sort.new.self.items c.in_ok-sort.ensures.sorted)
