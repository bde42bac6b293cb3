-- Sets that are the same up to a move and the eight maps have one least text, and no others have it.
use Rattle.std.proofs.Common.{◌≡◌, ◌↔◌, ℕ, List, inl, refl, sym, ap, subst, ◌∙◌}
use Rattle.life_model.specs.Generation.{Generation}
use Rattle.life_model.specs.Symmetry.{Orientation, Same, image_under, normal}
use Rattle.life_model.proofs.Objects.{then_turned, turned-turned, turned-undone, normal-turned}
use Rattle.life_model.proofs.Symmetries.{undone}
use Rattle.life_cells.specs.Wechsler.{body}
use Rattle.life_cells.proofs.Spelling.{same_bodies}
use Rattle.life_answer.specs.Apgcode.{orientations, turned_bodies}
use Rattle.life_answer.proofs.Codes.{body_by_shape, in_turned}
use Rattle.life_answer.proofs.LeastTexts.{Member, least_member, least_same, member_of_map}
use Rattle.census_compare.specs.Alike.{AreAlike, least_body}

some : (G : Generation) → Member (body (image_under G Same)) (turned_bodies G)
some G = inl refl

-- the way back
back : (G H : Generation) (m : Orientation) → normal (image_under G m) ≡ normal H → normal (image_under H (undone m)) ≡ normal G
back G H m shape = sym (normal-turned (image_under G m) H (undone m) shape) ∙ ap normal (turned-undone G m)

-- each way to turn the first looks like some way to turn the second
among : (G H : Generation) (m : Orientation) → normal (image_under G m) ≡ normal H → (t : List ℕ) → Member t (turned_bodies G) → Member t (turned_bodies H)
among G H m shape t h =
    let at = member_of_map (λ n. body (image_under G n)) t orientations h in
    let n = then_turned (undone m) at.0 in
    let there : normal (image_under G at.0) ≡ normal (image_under H n) =
    sym (normal-turned (image_under H (undone m)) G at.0 (back G H m shape)) ∙ ap normal (turned-turned H (undone m) at.0) in
    subst (λ u. Member u (turned_bodies H)) (sym (at.1 ∙ body_by_shape (image_under G at.0) (image_under H n) there)) (in_turned H n)

told-alike : (G H : Generation) → AreAlike G H → least_body G ≡ least_body H
told-alike G H one =
    least_same (body (image_under G Same)) (turned_bodies G) (turned_bodies H) (some G) (among G H one.map one.shape)
    (among H G (undone one.map) (back G H one.map one.shape))

alike-told : (G H : Generation) → least_body G ≡ least_body H → AreAlike G H
alike-told G H e =
    let one = member_of_map (λ m. body (image_under G m)) (least_body G) orientations (least_member (body (image_under G Same)) (turned_bodies G) (some G)) in
    let other = member_of_map (λ m. body (image_under H m)) (least_body H) orientations (least_member (body (image_under H Same)) (turned_bodies H) (some H)) in
    let shape : normal (image_under G one.0) ≡ normal (image_under H other.0) = (same_bodies (image_under G one.0) (image_under H other.0)).0 (sym one.1 ∙ e ∙ other.1) in
    record {
      map = then_turned one.0 (undone other.0);
      shape = ap normal (sym (turned-turned G one.0 (undone other.0)))
          ∙ normal-turned (image_under G one.0) (image_under H other.0) (undone other.0) shape
          ∙ ap normal (turned-undone H other.0);
    }

pub told_by_texts : (G H : Generation) → (least_body G ≡ least_body H) ↔ AreAlike G H
told_by_texts G H = (alike-told G H, told-alike G H)
