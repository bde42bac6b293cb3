use Rattle.std.proofs.Common.{◌-◌, length, sym, ap, ◌∙◌, arith}
use Rattle.census_bundle.specs.declared.bundle.Folder.{Folder}
use Rattle.census_bundle.proofs.Growth.{last_entries-get_or}
use Rattle.census_bundle.proofs.last.last_len.Goals as goal

pub returns-in-len1-up : goal.returns-in-len1-up
returns-in-len1-up c =
    let xs = c.args.folders.now in
    let e = last_entries-get_or xs (length xs - 1) c.folder-item.result (omega arith) in
    ap length (c.as_slice.ensures ∙ ap (λ (f : Folder). f.entries) c.folder-item.is ∙ sym e)
