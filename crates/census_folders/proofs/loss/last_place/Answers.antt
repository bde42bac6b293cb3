use Rattle.std.proofs.Common.{◌≡◌, ◌-◌, length, sym, ap, ◌∙◌, refl, arith}
use Rattle.census_bundle.specs.declared.bundle.Folder.{Folder}
use Rattle.census_bundle.specs.Growing.{last_entries}
use Rattle.census_bundle.proofs.Growth.{last_entries-get_or}
use Rattle.census_folders.proofs.loss.last_place.Goals as goal

pub returns-in-len1-up : goal.returns-in-len1-up
returns-in-len1-up c =
    let xs = c.folders-folders.result.now in
    let e = last_entries-get_or xs (length xs - 1) c.last-item.result (omega arith) in
    let number : length c.as_slice.result.now ≡ length (last_entries xs) = ap length (c.as_slice.ensures ∙ ap (λ (f : Folder). f.entries) c.last-item.is ∙ sym e) in
    rw (sym c.folders-folders.ensures.value, number) refl
