use Rattle.std.proofs.Common.{◌≡◌, ℕ, suc, ◌+◌, ◌<◌, ◌≤◌, List, Some, ap, arith, drop, drop-cons, get_or, length, slice_get, subst, ◌∙◌}
use Rattle.std.proofs.lemmas.Option.{slice_get-get_or}
use Rattle.census_bundle.specs.declared.bundle.Folder.{Folder}
use Rattle.census_format.specs.Lines.{pattern_count}
use Rattle.census_compare.proofs.starts.patterns_in.Goals as goal

-- the folders from a place on are the one at it and those after it
count_cut : (all : List Folder) (i : ℕ) (d : Folder) → i < length all → pattern_count (drop i all) ≡ length (get_or all i d).entries + pattern_count (drop (i + 1) all)
count_cut all i d less =
    ap pattern_count (drop-cons all i d less)
    ∙ ap (λ k. length (get_or all i d).entries + pattern_count (drop k all)) (let e : suc i ≡ i + 1 = omega arith in e)

pub loop-folder-preserved : goal.loop-folder-preserved
loop-folder-preserved c =
    let all = c.folders-folder-items.result.now in
    let i = c.loop-folder.folder-index in
    let item = c.folder-item.result in
    let less : i < length all = c.loop-folder-test.true in
    let cut : pattern_count (drop i all) ≡ length (get_or all i item).entries + pattern_count (drop (i + 1) all) = count_cut all i item less in
    let here : length c.as_slice.result.now ≡ length (get_or all i item).entries =
    ap length c.as_slice.ensures ∙ ap (λ (f : Folder). length f.entries) c.folder-item.is in
    let small : length (get_or all i item).entries ≤ 65535 =
    c.folders-folder-items.ensures.small.entries i (get_or all i item)
    (subst (λ (b : List Folder). slice_get b i ≡ Some (get_or all i item)) c.folders-folder-items.ensures.value (slice_get-get_or all i item less)) in
    record {
      count = omega (arith, cut, here, c.loop-folder.invariant.count);
      few = omega (arith, here, small, c.loop-folder.invariant.few);
    }
