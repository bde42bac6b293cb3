use Rattle.std.proofs.Common.{◌≡◌, ℕ, suc, ◌+◌, ◌<◌, List, ap, arith, drop, drop-cons, get_or, length, sym, ◌∙◌}
use Rattle.std.specs.Prelude.{min}
use Rattle.std.proofs.lemmas.List.{drop_all}
use Rattle.census_bundle.specs.declared.bundle.Folder.{Folder}
use Rattle.census_format.specs.Lines.{pattern_count}
use Rattle.census_crew.proofs.running.patterns_of.Goals as goal

-- the folders from a place on are the one at it and those after it
count_cut : (all : List Folder) (i : ℕ) (d : Folder) → i < length all → pattern_count (drop i all) ≡ length (get_or all i d).entries + pattern_count (drop (i + 1) all)
count_cut all i d less =
    ap pattern_count (drop-cons all i d less)
    ∙ ap (λ k. length (get_or all i d).entries + pattern_count (drop k all)) (let e : suc i ≡ i + 1 = omega arith in e)

-- what is capped twice is capped once
capped : (so_far here rest total most : ℕ) → min (so_far + (here + rest)) most ≡ total → min (min (so_far + here) most + rest) most ≡ total
capped so_far here rest total most is = omega (arith, is)

pub loop-folder-init : goal.loop-folder-init
loop-folder-init c =
    let same : pattern_count c.folders-folder-items.result.now ≡ pattern_count c.args.bundle.now = ap pattern_count c.folders-folder-items.ensures.value in
    (omega (arith, same), omega arith)

pub loop-folder-preserved : goal.loop-folder-preserved
loop-folder-preserved c =
    let all = c.folders-folder-items.result.now in
    let i = c.loop-folder.folder-index in
    let item = c.folder-item.result in
    let cut : pattern_count (drop i all) ≡ length (get_or all i item).entries + pattern_count (drop (i + 1) all) = count_cut all i item c.loop-folder-test.true in
    let here : length c.as_slice.result.now ≡ length (get_or all i item).entries =
    ap length c.as_slice.ensures ∙ ap (λ (f : Folder). length f.entries) c.folder-item.is in (
      ap (λ n. min (n + pattern_count (drop (i + 1) all)) 18446744073709551615)
          (c.saturating_add-patterns.ensures ∙ ap (λ n. min (c.loop-folder.patterns + n) 18446744073709551615) here)
          ∙ capped c.loop-folder.patterns (length (get_or all i item).entries) (pattern_count (drop (i + 1) all)) (min (pattern_count c.args.bundle.now) 18446744073709551615)
          18446744073709551615 (ap (λ n. min (c.loop-folder.patterns + n) 18446744073709551615) (sym cut) ∙ c.loop-folder.invariant.0),
      omega (arith, c.saturating_add-patterns.ensures),
    )

pub returns : goal.returns
returns c =
    let none : pattern_count (drop c.loop-folder.folder-index c.folders-folder-items.result.now) ≡ 0 =
    ap pattern_count (drop_all c.loop-folder.folder-index c.folders-folder-items.result.now c.loop-folder-test.false) in
    omega (arith, none, c.loop-folder.invariant.0, c.loop-folder.invariant.1)
