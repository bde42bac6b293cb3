use Rattle.std.proofs.Common.{arith, inr}
use Rattle.std.proofs.lemmas.Result.{err_from_is_err_and}
use Rattle.census_folders.specs.Listings.{IsChosen}
use Rattle.census_folders.specs.Told.{GivesTold}
use Rattle.census_folders.proofs.Keeps.{next_kept, still_open, stops_in_folder}
use Rattle.census_folders.proofs.Listings.{bytes_of}
use Rattle.census_folders.proofs.reading.fill_folder.Goals as goal

pub returns-in_err-add_file : goal.returns-in_err-add_file
returns-in_err-add_file g c =
    let p = err_from_is_err_and c.from_residual-in_err-add_file.result c.from_residual-in_err-add_file.ensures.1 in
    let chosen : IsChosen c.as_slice.result.now (bytes_of c.deref-name-items.result.now) = rw c.deref-name-items.ensures.value c.in_ok-names.ensures in
    let lists : GivesTold ((g.S.Shelf.tellings c.args.shelf.now).listed c.args.word.now) c.as_slice.result.now = rw c.as_slice.ensures.value c.in-Ok.ensures.told in
    rw (p.1, p.2) (inr (stops_in_folder c.args.on_loss (g.S.Shelf.tellings c.args.shelf.now) c.args.word.now c.deref-name-items.result.now c.loop-name.name-index c.name-item.result c.as_slice-in-loop-name.result.now c.as_slice.result.now c.args.kept.now c.loop-name.kept _ (omega arith) c.name-item.is c.as_slice-in-loop-name.ensures.value lists chosen c.loop-name.invariant.0 c.in_err-add_file.ensures))

pub loop-name-preserved : goal.loop-name-preserved
loop-name-preserved g c = (
  next_kept _ _ _ _ _ c.name-item.result c.as_slice-in-loop-name.result.now _ c.loop-name.kept c.add_file.new.kept (omega arith) c.name-item.is c.as_slice-in-loop-name.ensures.value c.loop-name.invariant.0 c.in_ok-add_file.ensures,
  still_open c.args.on_loss ((g.S.Shelf.tellings c.args.shelf.now).held c.args.word.now c.as_slice-in-loop-name.result.now) c.args.word.now c.as_slice-in-loop-name.result.now c.loop-name.kept c.add_file.new.kept c.in_ok-add_file.ensures c.loop-name.invariant.1,
)
