use Rattle.std.proofs.Common.{◌∙◌, ap, sym}
use Rattle.census_bundle.specs.Entries.{entry_of, lost_entry}
use Rattle.census_book.specs.Losses.{lose_if}
use Rattle.census_crew.proofs.Lost.{added_as, kept_as_is, lost_as_is}
use Rattle.census_crew.proofs.losing.add_entry.Goals as goal

pub returns-then-is_lost : goal.returns-then-is_lost
returns-then-is_lost c =
    added_as c.add_lost.result _ _ _ _ (ap lost_entry c.as_slice-name.ensures ∙ ap (λ b. lose_if b c.args.entry.now) (sym c.if-is_lost.true)) c.add_lost.ensures.added
