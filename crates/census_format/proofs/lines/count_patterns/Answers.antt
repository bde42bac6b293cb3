use Rattle.std.proofs.Common.{◌≡◌, Some, length, slice_get, refl, ap, arith}
use Rattle.std.proofs.lemmas.Option.{slice_get_read}
use Rattle.census_format.proofs.Closings.{count_at}
use Rattle.census_format.proofs.lines.count_patterns.Goals as goal

pub loop-folder-preserved : goal.loop-folder-preserved
loop-folder-preserved c =
    let fs = c.args.folders.now in
    let i = c.loop-folder.folder-index in
    let f = c.folder-item.result in
    let at : slice_get fs i ≡ Some f = slice_get_read fs (length fs) i f refl c.loop-folder-test.true c.folder-item.is in
    let size : length c.as_slice.result.now ≡ length f.entries = ap length c.as_slice.ensures in
    let few = c.requires.entries i f at in
    let now = count_at i fs f at in
    (omega (arith, c.loop-folder.invariant.0), omega (arith, c.loop-folder.invariant.1))
