use Rattle.std.proofs.Common.{◌≡◌, ◌++◌, List, Some, ap, sym, subst, ◌∙◌, append_assoc, codes}
use Rattle.census_bundle.specs.Tickets.{element_at, entry_in}
use Rattle.census_bundle.specs.declared.bundle.Folder.{Folder}
use Rattle.census_book.proofs.Texts.{ticket_in}
use Rattle.census_command.specs.Keeps.{name_in, pattern_path_in}
use Rattle.census_command.proofs.keeping.path_of.Goals as goal

pub folder_at-folder-requires : goal.folder_at-folder-requires
folder_at-folder-requires c = rw (c.folders.ensures.value) (ticket_in c.args.bundle.now c.args.ticket c.requires.0 c.requires.1)
