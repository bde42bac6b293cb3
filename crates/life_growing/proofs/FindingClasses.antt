-- What lists of cells say about sets, and what the classes of films say about the cores of a track.
use Rattle.std.proofs.Common.{◌≡◌, ℕ, ◌-◌, ◌<◌, ◌≤◌, Bool, true, List, [], ◌∷◌, get_or, length, sym, ap, subst, ◌∙◌, arith}
use Rattle.std.specs.Cmp.Lexicographic.{pointwise, pointwise_decides}
use Rattle.std.specs.List.{Contains}
use Rattle.std.proofs.lemmas.List.Elements.{Contains-get_or}
use Rattle.life_model.specs.Cell.{Cell}
use Rattle.life_model.specs.Evolution.{generation}
use Rattle.life_model.specs.Generation.{Generation, cells, from_list}
use Rattle.life_model.specs.Rule.{Rule}
use Rattle.life_model.proofs.Generations.{from_list-cells}
use Rattle.life_model.proofs.Recurrences.{generation-zero}
use Rattle.life_objects.proofs.Lists.{Contains-head}
use Rattle.life_objects.proofs.Unions.{union-empty}
use Rattle.life_growth.specs.Unsplit.{AreClasses, IsUnsplit}
use Rattle.life_growth.proofs.Classes.{one_class_by_unsplit}
use Rattle.life_growth.proofs.Endless.{IsUnsplit-wider}
use Rattle.life_tracks.specs.declared.frames.film.Film.{Film}
use Rattle.life_tracks.specs.Frames.Frames.{IsFilm, classes_at}
use Rattle.life_tracks.proofs.Classes.{class_is_unsplit}
use Rattle.life_cells.specs.Alike.{same_places}
use Rattle.life_cells.proofs.Sorted.{same_places-is}

-- sets with equal lists of cells are one
pub same_by_cells : (r : Bool) (cs ds : List Cell) (G H : Generation) → r ≡ pointwise same_places cs ds → r ≡ true →
    cs ≡ cells G → ds ≡ cells H → G ≡ H
same_by_cells r cs ds G H is alike first other =
    sym (from_list-cells G)
    ∙ ap from_list (sym first ∙ (pointwise_decides same_places-is cs ds).0 (sym is ∙ alike) ∙ other)
    ∙ from_list-cells H

-- a set that is the one in a place is in the list
pub there : (Ps : List Generation) (k : ℕ) (P G : Generation) → k < length Ps → P ≡ get_or Ps k P → P ≡ G → Contains Ps G
there Ps k P G h is same = subst (Contains Ps) (sym is ∙ same) (Contains-get_or Ps k P h)

-- a set is unsplit exactly if it is its own only class
pub unsplit_alone : (R : Rule) (b : ℕ) (G : Generation) (Ps : List Generation) → AreClasses R b G Ps → length Ps ≡ 1 →
    IsUnsplit R b G
unsplit_alone R b G [] classes long = absurd (omega arith)
unsplit_alone R b G (P ∷ []) classes long =
    subst (IsUnsplit R b) (sym (union-empty P) ∙ classes.together)
    (class_is_unsplit R b G (P ∷ []) classes P (Contains-head P []))
unsplit_alone R b G (P ∷ (Q ∷ Qs)) classes long = absurd (omega arith)

pub alone_by_unsplit : (R : Rule) (b : ℕ) (G : Generation) (Ps : List Generation) → AreClasses R b G Ps →
    IsUnsplit R b G → length Ps ≡ 1
alone_by_unsplit R b G Ps classes unsplit = ap length (one_class_by_unsplit R b G Ps classes unsplit)

-- a class of a film is unsplit within the film's length
pub told_by_film : (R : Rule) (G : Generation) (T : ℕ) (film : Film) → IsFilm R G T film → (n : ℕ) → n ≤ T →
    (P : Generation) → Contains (classes_at film n) P → IsUnsplit R T P
told_by_film R G T film is n h P one =
    IsUnsplit-wider R (T - n) T P (omega arith)
    (class_is_unsplit R (T - n) (generation R G n) (classes_at film n) (is.classes n h) P one)

-- the classes of a film's first generation
pub film_classes : (R : Rule) (G : Generation) (T : ℕ) (film : Film) → IsFilm R G T film →
    AreClasses R T G (classes_at film 0)
film_classes R G T film is =
    subst (λ H. AreClasses R T H (classes_at film 0)) (generation-zero R G)
    (subst (λ b. AreClasses R b (generation R G 0) (classes_at film 0)) (let e : T - 0 ≡ T = omega arith in e)
    (is.classes 0 (omega arith)))

module _ (R : Rule) (G : Generation) (T : ℕ) (film : Film) (is : IsFilm R G T film) (Ps : List Generation)
    (lent : 0 < length film.frames.items → Ps ≡ classes_at film 0) where
  -- the classes of the film's first generation
  first_classes : AreClasses R T G Ps
  first_classes =
      let count = is.count in
      let some : 0 < length film.frames.items = omega arith in
      subst (AreClasses R T G) (sym (lent some)) (film_classes R G T film is)

  pub film_alone : length Ps ≡ 1 → IsUnsplit R T G
  film_alone = unsplit_alone R T G Ps first_classes

  pub film_by_unsplit : IsUnsplit R T G → length Ps ≡ 1
  film_by_unsplit = alone_by_unsplit R T G Ps first_classes
