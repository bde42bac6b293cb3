use Rattle.std.proofs.Common.{◌≡◌, None, Option, Some, is_some, IfSome, IsTrue, refl, sym, ap, subst, ◌∙◌}
use Rattle.std.proofs.lemmas.Bool.{false≢true}
use Rattle.life_model.specs.Cell.{Cell}
use Rattle.life_model.specs.Generation.{from_list}
use Rattle.life_model.specs.Symmetry.{translate_of}
use Rattle.life_model.proofs.Generations.{from_list-cells}
use Rattle.life_census.specs.Counted.{CountsAs}
use Rattle.life_census.proofs.MovedCodes.{moved_counts}
use Rattle.life_census.proofs.known_set.KnownSet.is_of.Goals as goal

found : (offset : Option Cell) (P : Cell → Type 0) → IfSome offset P → IsTrue (is_some offset) → (d : Cell) × P d
found (Some d) P holds some = (d, holds)
found None P holds some = absurd (false≢true some)

pub returns : goal.returns
returns c some =
    let known = c.args.self.now in
    let orbit = c.args.orbit.now in
    let from : from_list c.as_slice.result.now ≡ known.set =
    ap from_list c.as_slice.ensures.cells ∙ from_list-cells known.set in
    let to : from_list c.as_slice-2.result.now ≡ orbit.set =
    ap from_list c.as_slice-2.ensures.cells ∙ from_list-cells c.set.result.now ∙ c.set.ensures in
    let offset = found c.offset_between.result _ c.offset_between.ensures.offset (sym c.is_some.ensures ∙ some) in
    let same = c.if-not-evolves_as.ensures in
    moved_counts c.args.near orbit.rule known.set orbit.set offset.0 known.codes.items
    (sym to ∙ offset.1.move ∙ ap (λ G. translate_of G offset.0) from)
    (subst (λ R. CountsAs c.args.near R known.set known.codes.items) (same.rule refl)
    (subst (λ near. CountsAs near known.rule known.set known.codes.items) (same.near refl) known.right))
