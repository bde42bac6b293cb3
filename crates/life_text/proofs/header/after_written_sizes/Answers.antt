use Rattle.std.proofs.Common.{◌≡◌, ℕ, List, ◌∷◌, ◌++◌, Option, Some, None, IfSome, codes, take, sym, ap, ◌∙◌}
use Rattle.std.specs.Borrow.{Bor}
use Rattle.std.specs.Cmp.Lexicographic.{same_text}
use Rattle.std.specs.Option.{option_copied}
use Rattle.std.proofs.lemmas.List.{take-append-drop}
use Rattle.texts.specs.Bytes.{◌>>=◌}
use Rattle.life_text.specs.Rle.{after_size, after_sizes, part}
use Rattle.life_text.specs.Sizes.{after_number}
use Rattle.life_text.proofs.HeadingLemmas.{number_behind}
use Rattle.life_text.proofs.header.after_written_sizes.Goals as goal

-- what was found, if anything was
found : (line height : List ℕ) (o : Option (Bor (List ℕ))) → after_sizes line ≡ after_size (32 ∷ height) → option_copied o ≡ after_number height → IfSome o (λ rest. after_sizes line ≡ Some rest.now)
found line height None h k = tt
found line height (Some rest) h k = h ∙ number_behind height rest.now (sym k)

pub returns : goal.returns
returns c =
    let line = c.args.line.now in
    let width = c.in_ok-width.width.now in
    let comma = c.in_ok-comma.comma.now in
    let height = c.in_ok-height.height.now in
    let line_is : line ≡ codes "x = " ++ width =
    sym (take-append-drop 4 line) ∙ (λ i. same_text (take 4 line) (codes "x = ") (sym c.in_ok-width.ensures.cases.0) i ++ sym c.in_ok-width.ensures.cases.1 i) in
    let comma_is : comma ≡ codes ", y = " ++ height =
    sym (take-append-drop 6 comma) ∙ (λ i. same_text (take 6 comma) (codes ", y = ") (sym c.in_ok-height.ensures.cases.0) i ++ sym c.in_ok-height.ensures.cases.1 i) in
    found line height c.after_number-2.result
    (ap after_sizes line_is
    ∙ ap (λ o. o >>= λ width. part (codes ",") width >>= λ comma. part (codes "yY") comma >>= λ name. part (codes "=") name >>= after_size) (number_behind width comma (sym c.in_ok-comma.ensures))
    ∙ ap (λ s. part (codes ",") s >>= λ comma. part (codes "yY") comma >>= λ name. part (codes "=") name >>= after_size) comma_is)
    c.after_number-2.ensures
