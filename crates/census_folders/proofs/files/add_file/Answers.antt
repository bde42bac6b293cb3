use Rattle.std.proofs.Common.{Ok, Err, refl, arith}
use Rattle.census_folders.specs.declared.loss.Cause.TheVariants as cause
use Rattle.census_folders.specs.Reading.{GivesText}
use Rattle.census_folders.proofs.Keeps.{with_text}
use Rattle.census_folders.proofs.Reaches.{never}
use Rattle.census_folders.proofs.files.add_file.Goals as goal

pub returns-in-Ok : goal.returns-in-Ok
returns-in-Ok g c =
    let told = (g.S.Shelf.tellings c.args.shelf.now).held c.args.folder.now c.args.name.now in
    let gives : GivesText told c.args.kept.now.left (Ok c.as_slice.result.now) = (rw c.as_slice.ensures.value c.in-Ok.ensures.told, rw c.as_slice.ensures.len c.in-Ok.ensures.fits, omega (arith, c.as_slice.ensures.len, c.in-Ok.ensures.within)) in
    with_text c.args.on_loss told c.args.folder.now c.args.name.now c.args.kept.now c.add_text.new.kept (Ok c.as_slice.result.now) _ c.add_text.result gives (λ full. (full, λ stop. refl)) c.add_text.ensures

pub returns-in-Err-Unread : goal.returns-in-Err-Unread
returns-in-Err-Unread g c =
    let told = (g.S.Shelf.tellings c.args.shelf.now).held c.args.folder.now c.args.name.now in
    let gives : GivesText told c.args.kept.now.left (Err (cause.Unread c.in-Err-Unread.why)) = rw c.in-Err-Unread.field-0-is at c.in-Err-Unread.ensures.fault in
    with_text c.args.on_loss told c.args.folder.now c.args.name.now c.args.kept.now c.lose_text.new.kept (Err (cause.Unread c.in-Err-Unread.why)) _ c.lose_text.result gives (λ full. (full.1, λ stop. never c.args.on_loss full.0 stop)) c.lose_text.ensures

pub returns-in-Err-TooLong : goal.returns-in-Err-TooLong
returns-in-Err-TooLong g c =
    let told = (g.S.Shelf.tellings c.args.shelf.now).held c.args.folder.now c.args.name.now in
    let gives : GivesText told c.args.kept.now.left (Err cause.TooLong) = rw c.in-Err-TooLong.field-0-is at c.in-Err-TooLong.ensures.fault in
    with_text c.args.on_loss told c.args.folder.now c.args.name.now c.args.kept.now c.lose_text-in-Err-TooLong.new.kept (Err cause.TooLong) _ c.lose_text-in-Err-TooLong.result gives (λ full. (full.1, λ stop. never c.args.on_loss full.0 stop)) c.lose_text-in-Err-TooLong.ensures
