use Rattle.std.proofs.Common.{rules}
use Rattle.census_bundle.proofs.Sections.{folder_section, file_section, blank_section, not_none}
use Rattle.census_bundle.proofs.reading.read_section.Goals as goal

pub returns-in-Ok-clause-read : goal.returns-in-Ok-clause-read
returns-in-Ok-clause-read c =
    let s = c.split_line.ensures in
    folder_section _ _ _ _ _ _ c.in-Folder.name.now s.lines s.whole s.some c.in-Folder.ensures c.in-Ok.ensures.added (λ e. let h = c.in-Ok.ensures.bad_name.1 e in cc) (λ e. let h = c.in-Ok.ensures.too_many.1 e in cc)

pub returns-in-Ok-add_entry-clause-read : goal.returns-in-Ok-add_entry-clause-read
returns-in-Ok-add_entry-clause-read c =
    let s = c.split_line.ensures in
    let t = c.split_text-entry.ensures in
    let here = not_none _ _ _ c.is_empty.ensures c.if-is_empty.false c.folders.ensures.value in
    file_section _ _ _ _ _ _ _ c.in-File.name.now _ _ s.lines s.whole s.some c.in-File.ensures here t.text t.ends t.fits c.in-Ok-add_entry.ensures.added (λ e. let h = c.in-Ok-add_entry.ensures.bad_name.1 e in cc) (λ e. let h = c.in-Ok-add_entry.ensures.too_many.1 e in cc)

pub returns-else-not-is_blank-clause-read : goal.returns-else-not-is_blank-clause-read
returns-else-not-is_blank-clause-read c =
    let s = c.split_line.ensures in
    blank_section _ _ _ _ _ s.lines s.whole s.some c.in-Plain.ensures c.requires.closed (search rules)
