-- The cells of a labelled list whose labels have a root other than a given one.
use Rattle.std.proofs.Common.{◌≡◌, ℕ, ◌+◌, ◌<◌, List, length, get_or, ◌∷◌, [], ◌++◌, inl, inr, sym, ap, subst, ◌∙◌, arith}
use Rattle.std.specs.List.{All, Contains}
use Rattle.std.proofs.lemmas.Bool.{cases_lt}
use Rattle.std.proofs.lemmas.List.{get_or_default}
use Rattle.std.proofs.lemmas.List.Elements.{All-push, Contains-append_left, Contains-push}
use Rattle.std.proofs.lemmas.List.Folds.{list_any_at}
use Rattle.life_model.specs.Cell.{Cell, origin, same_cell}
use Rattle.life_model.specs.Generation.{Generation, cells, contains, from_list}
use Rattle.life_model.proofs.Cells.{same_cell-is}
use Rattle.life_model.proofs.Generations.{contains-from_list}
use Rattle.life_cells.specs.Limits.{IsPlace}
use Rattle.life_classes.specs.declared.labels.Labelled.{Labelled}
use Rattle.life_classes.specs.declared.tags.Tag.{Tag}
use Rattle.life_classes.specs.Forest.{root}
use Rattle.life_classes.specs.Labels.{IsTagged}
use Rattle.life_classes.specs.Parted.{AreOthers, IsOther}
use Rattle.life_classes.proofs.Lookups.{has_contains}

module _ (l : Labelled) (f : List ℕ) (m : ℕ) where
  abbrev root_at : ℕ → Tag → ℕ
  root_at k d = root f (get_or l.tags.items k d).label

  -- the cells looked at are listed if they have other roots
  pub record AreListed (n : ℕ) (items : List Cell) : Type 0 where
    pub sound : All (IsOther l f m) items
    pub all : (k : ℕ) (d : Tag) (e : Cell) → k < n → (root_at k d ≡ m → ⊥) → Contains items (get_or (cells l.cells) k e)

  pub one_listed : (n : ℕ) (old new : List Cell) (c : Cell) → new ≡ old ++ (c ∷ []) → AreListed n old →
      n < length (cells l.cells) → c ≡ get_or (cells l.cells) n origin → ((d : Tag) → root_at n d ≡ m → ⊥) → AreListed (n + 1) new
  one_listed n old new c is w h here differs = record {
    sound =
        subst (All (IsOther l f m)) (sym is)
        (All-push (IsOther l f m) old c w.sound
        (record { place = n; inside = h; is = λ e. get_or_default (cells l.cells) n e origin h ∙ sym here; differs = differs }));
    all = λ k d e below other.
        subst (λ xs. Contains xs (get_or (cells l.cells) k e)) (sym is)
        (elim (cases_lt k n) [
          | inl before ↦ Contains-append_left old (c ∷ []) (get_or (cells l.cells) k e) (w.all k d e before other)
          | inr past ↦
              let same : n ≡ k = omega arith in
              subst (Contains (old ++ (c ∷ [])))
              (here ∙ get_or_default (cells l.cells) n origin e h ∙ ap (λ j. get_or (cells l.cells) j e) same)
              (Contains-push old c)
        ]);
  }

  pub one_passed : (n : ℕ) (items : List Cell) (t : Tag) → AreListed n items → n < length l.tags.items → root_at n t ≡ m →
      AreListed (n + 1) items
  one_passed n items t w h same = record {
    sound = w.sound;
    all = λ k d e below other. elim (cases_lt k n) [
      | inl before ↦ w.all k d e before other
      | inr past ↦
          let here : k ≡ n = omega arith in
          absurd (other (ap (λ j. root_at j d) here ∙ ap (λ (u : Tag). root f u.label) (get_or_default l.tags.items n d t h) ∙ same))
    ];
  }

  pub placed_others : (items : List Cell) → IsTagged l → All (IsOther l f m) items → All IsPlace items
  placed_others items tagged all k d h =
      let w = all k d h in
      subst IsPlace (w.is origin) (tagged.placed w.place origin w.inside)

  pub are_others : (n : ℕ) (items : List Cell) (G : Generation) → n ≡ length (cells l.cells) → AreListed n items →
      G ≡ from_list items → AreOthers l f m G
  are_others n items G whole w is = record {
    sound = λ c h.
        let at = has_contains items c (sym (ap (λ H. contains H c) is ∙ contains-from_list items c) ∙ h) in
        subst (IsOther l f m) at.2 (w.sound at.0 c at.1);
    all = λ k d e h other.
        let c = get_or (cells l.cells) k e in
        let at = w.all k d e (omega arith) other in
        ap (λ H. contains H c) is ∙ contains-from_list items c
        ∙ list_any_at (same_cell c) items at.0 c at.1 ((same_cell-is c (get_or items at.0 c)).1 (sym at.2));
  }
