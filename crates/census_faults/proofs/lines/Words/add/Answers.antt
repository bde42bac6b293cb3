use Rattle.std.proofs.Common.{is_ok, ◌∙◌}
use Rattle.census_faults.proofs.Adding.{words_added}
use Rattle.census_faults.proofs.lines.Words.add.Goals as goal

pub invariant_of-self : goal.invariant_of-self
invariant_of-self c =
    words_added (is_ok c.extend_from_slice.result) c.self.inside.bytes.items c.as_slice.result.now c.args.bytes.now c.extend_from_slice.new.self.items
    (c.as_slice.ensures.value ∙ c.in_ok-shown.ensures) c.self.invariant c.extend_from_slice.ensures.items
