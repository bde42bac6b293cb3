use Rattle.std.proofs.Common.{arith, sym, ap, ◌∙◌}
use Rattle.std.proofs.lemmas.List.{length-map}
use Rattle.census_folders.specs.Listings.{pattern_names_in}
use Rattle.census_folders.specs.Paths.{is_any}
use Rattle.census_folders.specs.Walks.{is_taken, names_given}
use Rattle.census_folders.proofs.Listings.{bytes_of}
use Rattle.census_folders.proofs.Walked.{any_chosen}
use Rattle.census_folders.proofs.walking.is_taken.Goals as goal

pub returns-in_ok-names-in-Ok : goal.returns-in_ok-names-in-Ok
returns-in_ok-names-in-Ok c =
    let names = c.in_ok-names-in-Ok.names.items in
    any_chosen c.as_slice.result.now (bytes_of names) _ c.in_ok-names-in-Ok.ensures (omega (arith, c.len.ensures, length-map names (λ name. name.items)))
    ∙ ap (λ text. is_any (pattern_names_in text)) c.as_slice.ensures.value
    ∙ ap (λ listing. is_taken (names_given listing)) (sym c.in-Ok.is)
