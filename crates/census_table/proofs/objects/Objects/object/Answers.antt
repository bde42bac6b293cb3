use Rattle.std.proofs.Common.{◌∙◌, ◌<◌, ap, arith, get_or, length, sym}
use Rattle.std.proofs.lemmas.List.{get_or-map, length-map}
use Rattle.census_table.specs.Places.{object_at}
use Rattle.census_table.proofs.objects.Objects.object.Goals as goal

pub index-requires : goal.index-requires
index-requires c =
    let size = length-map c.self.inside.places.items (object_at c.self.inside.nothing c.self.inside.sections) in
    omega (arith, c.requires, c.self.inside.places.ok, size, ap length c.self.view_is)

pub returns : goal.returns
returns c =
    let told = object_at c.self.inside.nothing c.self.inside.sections in
    let places = c.self.inside.places.items in
    let size = length-map places told in
    let less : c.args.index < length places = omega (arith, c.requires, size, ap length c.self.view_is) in
    c.object_at.ensures ∙ ap told c.index.ensures ∙ sym (get_or-map told places c.args.index _ c.object_at.result less)
    ∙ ap (λ w. get_or w c.args.index c.object_at.result) c.self.view_is
