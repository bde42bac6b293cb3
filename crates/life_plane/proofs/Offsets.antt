-- When one list in order is another, moved.
use Rattle.std.proofs.Common.{Option, IfSome, IfNone, subst, Bool, true, false, not, ◌&&◌, int_eq, Decides, true≢false, ◌≡◌, ℕ, ◌<◌, ◌≢◌, List, [], ◌∷◌, map, length, get_or, T, sym, refl, ap, ◌∙◌, arith}
use Rattle.std.proofs.lemmas.List.{same_lists, get_or-map, get_or_default, length-map}
use Rattle.std.proofs.lemmas.Bool.Decides.{Decides-and, Decides-int_eq}
use Rattle.life_model.specs.Cell.{Cell, origin, plus, opposite}
use Rattle.life_model.specs.Generation.{Generation, from_list, cells, is_rising}
use Rattle.life_model.specs.Symmetry.{translate_of}
use Rattle.life_model.proofs.Cells.{pair}
use Rattle.life_model.proofs.Generations.{cells-from_list, from_list-cells}
use Rattle.life_model.proofs.Lists.{moved-from_list}
use Rattle.life_model.proofs.Moves.{moved-empty}
use Rattle.life_plane.specs.Offsets.{AreNotTranslates, IsOffset}
use Rattle.std.proofs.lemmas.Int.{ints}
use Rattle.std.proofs.lemmas.Bool.{not-false, not-true}

pub plus_back : (c d : Cell) → plus (plus c d) (opposite c) ≡ d
plus_back c d = pair (omega (arith, ints)) (omega (arith, ints))

pub plus_there : (c d : Cell) → d ≡ plus c (plus d (opposite c))
plus_there c d = pair (omega (arith, ints)) (omega (arith, ints))

module _ (cs ds : List Cell) (h : T (is_rising cs)) (k : T (is_rising ds)) where
  is_map : (d : Cell) → from_list ds ≡ translate_of (from_list cs) d → ds ≡ map (λ c. plus c d) cs
  is_map d e = (moved-from_list cs ds d h k).0 e

  pub apart_by_length : length cs ≢ length ds → (d : Cell) → from_list ds ≡ translate_of (from_list cs) d → ⊥
  apart_by_length differ d e = differ (sym (ap length (is_map d e) ∙ length-map cs (λ c. plus c d)))

  each_moved : (d : Cell) → from_list ds ≡ translate_of (from_list cs) d → (i : ℕ) → i < length cs → plus (get_or ds i origin) (opposite (get_or cs i origin)) ≡ d
  each_moved d e i below =
      ap (λ l. plus (get_or l i origin) (opposite (get_or cs i origin))) (is_map d e)
      ∙ ap (λ c. plus c (opposite (get_or cs i origin))) (get_or-map (λ c. plus c d) cs i origin origin below)
      ∙ plus_back (get_or cs i origin) d

  pub apart_at : (i : ℕ) → i < length cs → plus (get_or ds i origin) (opposite (get_or cs i origin)) ≢ plus (get_or ds 0 origin) (opposite (get_or cs 0 origin)) → (d : Cell) → from_list ds ≡ translate_of (from_list cs) d → ⊥
  apart_at i below differ d e = differ (each_moved d e i below ∙ sym (each_moved d e 0 (omega arith)))

  pub offset_of_each : (d : Cell) → length cs ≢ 0 → length cs ≡ length ds → ((i : ℕ) → i < length cs → get_or ds i origin ≡ plus (get_or cs i origin) d) → IsOffset (from_list cs) (from_list ds) d
  offset_of_each d some same each =
      let moved_to = map (λ c. plus c d) cs in
      let e : ds ≡ moved_to = same_lists ds moved_to (sym same ∙ sym (length-map cs (λ c. plus c d)))
      (λ k e below.
      let inside : k < length cs = omega arith in
      get_or_default ds k e origin below ∙ each k inside ∙ sym (get_or-map (λ c. plus c d) cs k origin e inside)) in
      record {
        move = (moved-from_list cs ds d h k).1 e;
        unmoved = λ none. absurd (some (ap length (sym (cells-from_list cs h) ∙ ap cells none ∙ cells-from_list [] tt)));
      }

pub offset_of_none : (cs ds : List Cell) → length cs ≡ 0 → length ds ≡ 0 → IsOffset (from_list cs) (from_list ds) origin
offset_of_none [] [] e f = record { move = sym (moved-empty origin); unmoved = λ none. refl }
offset_of_none (c ∷ cs) ds e f = absurd (omega arith)
offset_of_none [] (d ∷ ds) e f = absurd (omega arith)

-- ---- the test of two moves

both_tests : (a b : Cell) → Decides (int_eq a.0 b.0 && int_eq a.1 b.1) ((a.0 ≡ b.0) × (a.1 ≡ b.1))
both_tests a b = Decides-and _ _ (Decides-int_eq a.0 b.0) (Decides-int_eq a.1 b.1)

pub differ_by_test : (a b : Cell) (t : Bool) → t ≡ not (int_eq a.0 b.0 && int_eq a.1 b.1) → t ≡ true → a ≢ b
differ_by_test a b t is passed e =
    let unlike : (int_eq a.0 b.0 && int_eq a.1 b.1) ≡ false = not-true _ (sym is ∙ passed) in
    true≢false (sym ((both_tests a b).1 (ap (λ c. c.0) e, ap (λ c. c.1) e)) ∙ unlike)

pub same_by_test : (a b : Cell) (t : Bool) → t ≡ not (int_eq a.0 b.0 && int_eq a.1 b.1) → t ≡ false → a ≡ b
same_by_test a b t is failed =
    let parts = (both_tests a b).0 (not-false _ (sym is ∙ failed)) in
    pair parts.0 parts.1

-- ---- of two sets, by their lists

module _ (G H : Generation) (cs ds : List Cell) (c_is : cs ≡ cells G) (d_is : ds ≡ cells H) where
  first_set : from_list cs ≡ G
  first_set = ap from_list c_is ∙ from_list-cells G

  second_set : from_list ds ≡ H
  second_set = ap from_list d_is ∙ from_list-cells H

  pub offset_of_sets : (r : Option Cell) → IfSome r (λ d. IsOffset (from_list cs) (from_list ds) d) → IfSome r (λ d. IsOffset G H d)
  offset_of_sets r found = subst (λ X. IfSome r (λ d. IsOffset X H d)) first_set (subst (λ X. IfSome r (λ d. IsOffset (from_list cs) X d)) second_set found)

  pub apart_sets : (r : Option Cell) → IfNone r (AreNotTranslates (from_list cs) (from_list ds)) → IfNone r (AreNotTranslates G H)
  apart_sets r found = subst (λ X. IfNone r (AreNotTranslates X H)) first_set (subst (λ X. IfNone r (AreNotTranslates (from_list cs) X)) second_set found)
