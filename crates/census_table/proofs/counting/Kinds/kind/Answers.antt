use Rattle.std.proofs.Common.{◌∙◌, ◌<◌, ap, arith, get_or, length, sym}
use Rattle.std.proofs.lemmas.List.{get_or-map, length-map}
use Rattle.census_table.specs.Places.{kind_at}
use Rattle.census_table.proofs.counting.Kinds.kind.Goals as goal

pub index-requires : goal.index-requires
index-requires c =
    let size = length-map c.self.inside.kinds.items (kind_at c.self.inside.nothing c.self.inside.objects) in
    omega (arith, c.requires, c.self.inside.kinds.ok, size, ap length c.self.view_is)

pub returns : goal.returns
returns c =
    let told = kind_at c.self.inside.nothing c.self.inside.objects in
    let kinds = c.self.inside.kinds.items in
    let size = length-map kinds told in
    let less : c.args.index < length kinds = omega (arith, c.requires, size, ap length c.self.view_is) in
    c.kind_at.ensures ∙ ap told c.index.ensures ∙ sym (get_or-map told kinds c.args.index _ c.kind_at.result less)
    ∙ ap (λ w. get_or w c.args.index c.kind_at.result) c.self.view_is
