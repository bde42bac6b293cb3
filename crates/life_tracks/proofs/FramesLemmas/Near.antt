-- The near pieces of a set, without those that have no cell.
use Rattle.std.proofs.Common.{◌≡◌, ◌≢◌, ◌==◌, Bool, true, false, not, List, [], ◌∷◌, map, cond, inl, inr, sym, refl, ap, ◌∙◌, true≢false, arith, eq-eqb, eqb-true}
use Rattle.std.specs.List.{All}
use Rattle.std.proofs.lemmas.Bool.{cases_Bool}
use Rattle.std.proofs.lemmas.List.Elements.{All-filter, All-map, All-weaker, filter_passes}
use Rattle.std.proofs.lemmas.List.Kept.{AllPairs-filter}
use Rattle.life_model.specs.Cell.{Cell}
use Rattle.life_model.specs.Rule.{Rule}
use Rattle.life_model.specs.Generation.{Generation, cells, empty, size}
use Rattle.life_model.proofs.Generations.{size-cells, size-empty}
use Rattle.life_model.proofs.Moves.{nothing_or_some}
use Rattle.life_objects.specs.Apart.{AreApartFor}
use Rattle.life_objects.specs.Union.{union, union_of}
use Rattle.life_objects.specs.Whole.{StaysWhole}
use Rattle.life_objects.proofs.Unions.{union-comm, union-empty}
use Rattle.life_classes.specs.declared.class.Class.{Class}
use Rattle.life_classes.specs.Tracking.{AreApartNow, AreTracked, LeadTo, class_of_cell, first_sets}
use Rattle.life_classes.proofs.Later.{end_apart, tracked_at_first}
use Rattle.life_growth.specs.Unsplit.{AreClasses}
use Rattle.life_islands.proofs.Labelled.{place_in_list}
use Rattle.life_tracks.specs.Frames.Frames.{with_cells}

abbrev pub some_cell : Generation → Bool
some_cell P = not (size P == 0)

-- a set without a cell is the empty set
pub none_is_empty : (P : Generation) → size P ≡ 0 → P ≡ empty
none_is_empty P none =
    elim (nothing_or_some P) [
      | inl gone ↦ gone
      | inr some ↦
          let at = place_in_list P (cells P) refl some.0 some.1 in
          let within = at.1 in
          absurd (omega (arith, size-cells P))
    ]

pub no_cell : (P : Generation) → some_cell P ≡ false → P ≡ empty
no_cell P e = elim (cases_Bool (size P == 0)) [
  | inl none ↦ none_is_empty P (eqb-true (size P) 0 none)
  | inr some ↦ absurd (true≢false (sym (ap not some) ∙ e))
]

pub has_cell : (P : Generation) → some_cell P ≡ true → P ≢ empty
has_cell P e gone =
    true≢false (sym e ∙ ap not (eq-eqb (size P) 0 (ap size gone ∙ size-empty)))

chosen : (b : Bool) (P : Generation) (Ps : List Generation) → some_cell P ≡ b → with_cells (P ∷ Ps) ≡ cond b (P ∷ with_cells Ps) (with_cells Ps)
chosen b P Ps e = ap (λ t. cond t (P ∷ with_cells Ps) (with_cells Ps)) e

pub union-with_cells : (Ps : List Generation) → union_of (with_cells Ps) ≡ union_of Ps
union-with_cells [] = refl
union-with_cells (P ∷ Ps) = elim (cases_Bool (some_cell P)) [
  | inl some ↦ ap union_of (chosen true P Ps some) ∙ ap (union P) (union-with_cells Ps)
  | inr none ↦
      ap union_of (chosen false P Ps none) ∙ union-with_cells Ps ∙ sym (union-empty (union_of Ps))
      ∙ union-comm (union_of Ps) empty ∙ ap (λ H. union H (union_of Ps)) (sym (no_cell P none))
]

some-with_cells : (Ps : List Generation) → All (λ P. P ≢ empty) (with_cells Ps)
some-with_cells Ps =
    All-weaker (λ P. some_cell P ≡ true) (λ P. P ≢ empty) has_cell (with_cells Ps) (filter_passes some_cell Ps)

-- the pieces that are led to
pub pieces_are : (G : Generation) (cs : List Cell) (ds : List Class) → cs ≡ cells G →
    LeadTo (map class_of_cell cs) ds → AreApartNow ds → (R : Rule) → AreClasses R 0 G (with_cells (first_sets ds))
pieces_are G cs ds is leads apart R =
    let tracked : AreTracked R 0 0 G ds = tracked_at_first R 0 G cs ds is leads in
    record {
      together = union-with_cells (first_sets ds) ∙ tracked.together;
      nonempty = some-with_cells (first_sets ds);
      whole = All-filter some_cell (StaysWhole R 0 G) (first_sets ds) (All-map (StaysWhole R 0 G) (λ d. d.first) ds tracked.whole);
      apart = AllPairs-filter (AreApartFor R 0) some_cell (first_sets ds) (end_apart R 0 0 G ds tracked apart refl);
    }
