use Rattle.std.proofs.Common.{List, Some, ap, sym, ◌∙◌}
use Rattle.std.specs.Option.{option_map}
use Rattle.census_facts.specs.Names.{Entry, name_in}
use Rattle.census_facts.proofs.Kept.{looked_up}
use Rattle.census_facts.proofs.names.Names.name_of.Goals as goal

pub returns-in-Some : goal.returns-in-Some
returns-in-Some c =
    ap Some c.as_slice.ensures.value
    ∙ ap (option_map (λ name. name.items)) c.in-Some.ensures.value
    ∙ looked_up c.args.code.now c.self.inside.names.entries
    ∙ ap (λ (entries : List Entry). name_in entries c.args.code.now) c.self.view_is

pub returns-in-None : goal.returns-in-None
returns-in-None c =
    ap (option_map (λ name. name.items)) c.in-None.ensures.value
    ∙ looked_up c.args.code.now c.self.inside.names.entries
    ∙ ap (λ (entries : List Entry). name_in entries c.args.code.now) c.self.view_is
