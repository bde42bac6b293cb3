use Rattle.std.proofs.Common.{refl}
use Rattle.std.proofs.lemmas.Result.{err_from_is_err_and}
use Rattle.census_folders.specs.Walks.{names_given}
use Rattle.census_folders.proofs.Walked.{ends_folders, ends_listing, ends_name, goes_on}
use Rattle.census_folders.proofs.walking.visit.Goals as goal

pub add_folders-requires : goal.add_folders-requires
add_folders-requires g c = λ none. goes_on c.args.on_loss ((g.S.Shelf.tellings c.args.shelf.now).inner c.args.folder.now) c.in_ok-folders.folders c.in_ok-folders.ensures none

pub returns-in_err-listing : goal.returns-in_err-listing
returns-in_err-listing g c =
    let p = err_from_is_err_and c.from_residual.result c.from_residual.ensures.1 in
    rw (p.1, p.2) (ends_listing c.args.on_loss (g.S.Shelf.tellings c.args.shelf.now) c.args.folder.now _ c.in_err-listing.ensures)

pub returns-in_err-folders : goal.returns-in_err-folders
returns-in_err-folders g c =
    let p = err_from_is_err_and c.from_residual-in_err-folders.result c.from_residual-in_err-folders.ensures.1 in
    rw (p.1, p.2) (ends_folders c.args.on_loss (g.S.Shelf.tellings c.args.shelf.now) c.args.folder.now (names_given c.in_ok-listing.listing) _ c.in_ok-listing.ensures c.in_err-folders.ensures)

pub returns-in_err-add_folders : goal.returns-in_err-add_folders
returns-in_err-add_folders g c =
    let p = err_from_is_err_and c.from_residual-in_err-add_folders.result c.from_residual-in_err-add_folders.ensures.1 in
    rw (p.1, p.2) (ends_name c.args.on_loss (g.S.Shelf.tellings c.args.shelf.now) c.args.folder.now (names_given c.in_ok-listing.listing) (names_given c.in_ok-folders.folders) _ c.in_ok-listing.ensures c.in_ok-folders.ensures c.in_err-add_folders.ensures.fault)

pub returns : goal.returns
returns g c = record {
  visit = record { path = c.args.folder.now; listing = names_given c.in_ok-listing.listing; inner = names_given c.in_ok-folders.folders };
  at = refl;
  told = record { lists = c.in_ok-listing.ensures; holds = c.in_ok-folders.ensures; allowed = c.in_ok-add_folders.ensures.allowed };
  added = c.in_ok-add_folders.ensures.added;
  losses = c.in_ok-add_folders.ensures.told;
  has = c.in_ok-is_taken.ensures;
}
