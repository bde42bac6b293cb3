use Rattle.std.proofs.Common.{◌∙◌, ap, sym}
use Rattle.std.specs.Ordering.{is_eq}
use Rattle.census_compare.specs.Index.{key_lent}
use Rattle.census_compare.proofs.Spotted.{begins-at}
use Rattle.census_compare.proofs.index.begins_with.Goals as goal

pub returns-in-len1-up : goal.returns-in-len1-up
returns-in-len1-up c =
    c.is_eq.ensures ∙ ap is_eq c.key_order.ensures ∙ sym (begins-at (key_lent c.args.key.now) c.args.spots.now _ c.in-len1-up.len_at_least)
