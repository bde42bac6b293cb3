use Rattle.std.proofs.Common.{◌≡◌, ◌++◌, [], ◌∷◌, List, ℕ, ap, ap₂, sym, ◌∙◌, is_none, map}
use Rattle.census_facts.specs.Names.{entry, name_in}
use Rattle.census_facts.specs.Read.{entry_read}
use Rattle.census_facts.proofs.Kept.{kept-more}
use Rattle.census_facts.proofs.names.keep.Goals as goal

pub returns : goal.returns
returns c =
    let kept = c.args.kept.now in
    let code = c.in_ok-from_slice.ensures.items in
    ap (map entry_read) c.in_ok-insert.ensures.entries
    ∙ kept-more kept c.in_ok-from_slice.field-0 c.in_ok-from_slice-2.field-0 (ap (λ (code : List ℕ). is_none (name_in (map entry_read kept.entries) code)) code ∙ c.requires)
    ∙ ap₂ (λ (code name : List ℕ). map entry_read kept.entries ++ entry code name ∷ []) code c.in_ok-from_slice-2.ensures.items
