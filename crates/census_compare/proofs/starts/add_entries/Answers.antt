use Rattle.std.proofs.Common.{[], ap, map, ◌++◌, ◌∙◌}
use Rattle.std.specs.List.{cons_option}
use Rattle.census_bundle.specs.declared.bundle.Entry.{Entry}
use Rattle.census_compare.specs.Starts.{start_in}
use Rattle.census_compare.specs.StartsRead.{start_read}
use Rattle.census_compare.proofs.Started.{entry-more}
use Rattle.census_compare.proofs.starts.add_entries.Goals as goal

pub loop-entry-preserved : goal.loop-entry-preserved
loop-entry-preserved c =
    let l = c.loop-entry in
    entry-more c.args.collection.now c.args.entries.now l.entry-index c.entry-item.result (map start_read c.args.starts.now.items) (map start_read l.starts.items)
    (map start_read c.add_entry.new.starts.items) c.loop-entry-test.true l.invariant
    (c.in_ok-add_entry.ensures
    ∙ ap (λ (e : Entry). map start_read l.starts.items ++ cons_option (start_in c.args.collection.now e) []) c.entry-item.is)
