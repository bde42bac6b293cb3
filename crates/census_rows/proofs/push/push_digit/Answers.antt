use Rattle.std.proofs.Common.{◌∙◌, ◌∷◌, ◌++◌, sym, ap}
use Rattle.std.proofs.lemmas.Fmt.{decimal_digit}
use Rattle.census_rows.proofs.push.push_digit.Goals as goal

pub returns : goal.returns
returns c =
    c.in_ok-extend_from_slice.ensures.items
    ∙ ap (λ digits. c.args.text.now.items ++ 32 ∷ digits) (sym (decimal_digit c.args.digit c.requires))
