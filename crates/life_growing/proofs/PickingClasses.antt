-- The classes looked at so far, as engines and others.
use Rattle.std.proofs.Common.{◌≡◌, ◌≢◌, ℕ, ◌*◌, ◌<◌, ◌≤◌, List, [], ◌∷◌, ◌++◌, inl, inr, refl, sym, ap, subst, ◌∙◌, arith}
use Rattle.std.specs.List.{All, AllPairs, Contains}
use Rattle.std.proofs.lemmas.List.{map-append}
use Rattle.std.proofs.lemmas.List.Elements.{All-contains, All-nil, All-push, Contains-append_left, Contains-append_right, Contains-push, Contains-push_cases}
use Rattle.life_model.specs.Generation.{Generation, contains, empty}
use Rattle.life_model.specs.Rule.{Rule}
use Rattle.life_model.proofs.Moves.{nothing_or_some}
use Rattle.life_objects.specs.Apart.{AreApartFor}
use Rattle.life_objects.specs.Union.{union}
use Rattle.life_classes.specs.declared.class.Class.{Class}
use Rattle.life_classes.specs.Tracking.{first_sets}
use Rattle.life_objects.proofs.DecidedLemmas.Orders.{pairs_to_front}
use Rattle.life_objects.proofs.Dividing.{AreApartFor-swap}
use Rattle.life_objects.proofs.Lists.{AllPairs-append, AllPairs-head, AllPairs-nil, Contains-head}
use Rattle.life_objects.proofs.Sides.{split_disjoint}
use Rattle.life_growth.specs.Engine.{IsEngineWithin}
use Rattle.life_growing.specs.Emissions.{Emission}
use Rattle.life_growing.specs.Growths.{IsEngineFound, start_of, starts_of}
use Rattle.life_growing.specs.Picking.{ArePicks}
use Rattle.life_tracks.proofs.Adding.{the_only_one}

-- one set alone
alone : {X : Type 0} (S : X → X → Type 0) (x : X) → AllPairs S (x ∷ [])
alone S x i j d less within = absurd (omega arith)

-- an engine has a cell
pub engine_has_cell : (R : Rule) (b : ℕ) (P : Generation) → IsEngineWithin R b P → P ≢ empty
engine_has_cell R b P engine gone =
    (engine.1.whole 0 (omega arith)).nonempty (engine.1.start ∙ gone)

-- a set with a cell differs from those before it, from which it stays apart for some time
before_differs : (R : Rule) (far : ℕ) (Ps : List Generation) (P : Generation) (later : List Generation) →
    AllPairs (AreApartFor R far) (Ps ++ P ∷ later) → P ≢ empty → (Q : Generation) → Contains Ps Q → Q ≢ P
before_differs R far Ps P later apart some Q one same =
    let from_others = AllPairs-head (AreApartFor R far) P (Ps ++ later)
    (pairs_to_front (AreApartFor R far) (AreApartFor-swap R far) P Ps later apart) in
    elim (nothing_or_some P) [
      | inl none ↦ some none
      | inr cell ↦
          split_disjoint R far (union P Q) P Q
          (record {
            together = refl;
            apart = All-contains (AreApartFor R far P) (Ps ++ later) Q from_others (Contains-append_left Ps later Q one);
          }) cell.0 cell.1 (ap (λ H. contains H cell.0) same ∙ cell.1)
    ]

-- the sets of the classes, with one in between
pub first_sets_then : (seen : List Class) (class : Class) (rest : List Class) →
    first_sets (seen ++ class ∷ rest) ≡ first_sets seen ++ class.first ∷ first_sets rest
first_sets_then seen class rest = map-append (λ c. c.first) seen (class ∷ rest)

-- what holds of the sets of all classes holds of that of the next one
pub met_class : (P : Generation → Type 0) (all before rest later : List Class) (class : Class) → All P (first_sets all) →
    before ++ rest ≡ all → rest ≡ class ∷ later → P class.first
met_class P all before rest later class holds order is =
    All-contains P (first_sets before ++ class.first ∷ first_sets later) class.first
    (subst (All P) (ap first_sets (sym order ∙ ap (λ cs. before ++ cs) is) ∙ first_sets_then before class later) holds)
    (Contains-append_right (first_sets before) (class.first ∷ first_sets later) class.first
    (Contains-head class.first (first_sets later)))

module _ (R : Rule) (b far : ℕ) where
  pub none_picked : (engines : List Emission) (others : List Generation) → engines ≡ [] → others ≡ [] →
      ArePicks R b far [] engines others
  none_picked engines others first second =
      subst (λ es. ArePicks R b far [] es others) (sym first)
      (subst (λ os. ArePicks R b far [] [] os) (sym second) (record {
        found = All-nil (IsEngineFound R b);
        either = λ P one. let less : one.0 < 0 = one.1 in absurd (omega arith);
        engines_of = λ P one. one;
        others_of = λ P one. one;
        once = AllPairs-nil (λ P Q. P ≢ Q);
        none = λ long. All-nil (λ P. IsEngineWithin R b P → ⊥);
      }))

  module _ (Ps : List Generation) (P : Generation) (engines : List Emission) (others : List Generation)
      (are : ArePicks R b far Ps engines others) where
    -- one more class, which is an engine
    pub engine_picked : (e : Emission) (more : List Emission) → more ≡ engines ++ e ∷ [] → IsEngineFound R b e →
        start_of e ≡ P → (later : List Generation) → AllPairs (AreApartFor R far) (Ps ++ P ∷ later) →
        ArePicks R b far (Ps ++ P ∷ []) more others
    engine_picked e more is found start later apart =
        let starts : starts_of more ≡ starts_of engines ++ P ∷ [] =
        ap starts_of is ∙ map-append start_of engines (e ∷ []) ∙ ap (λ F. starts_of engines ++ F ∷ []) start in
        let some : P ≢ empty =
        engine_has_cell R b P (subst (IsEngineWithin R b) start (_, found.engine)) in
        record {
          found = subst (All (IsEngineFound R b)) (sym is) (All-push (IsEngineFound R b) engines e are.found found);
          either = λ Q one. elim (Contains-push_cases Ps P Q one) [
            | inl before ↦ elim (are.either Q before) [
              | inl engine ↦ inl (subst (λ Fs. Contains Fs Q) (sym starts) (Contains-append_left (starts_of engines) (P ∷ []) Q engine))
              | inr other ↦ inr other
            ]
            | inr same ↦ inl (subst (λ Fs. Contains Fs Q) (sym starts)
                (subst (Contains (starts_of engines ++ P ∷ [])) same (Contains-push (starts_of engines) P)))
          ];
          engines_of = λ Q one. elim (Contains-push_cases (starts_of engines) P Q (subst (λ Fs. Contains Fs Q) starts one)) [
            | inl before ↦ Contains-append_left Ps (P ∷ []) Q (are.engines_of Q before)
            | inr same ↦ subst (Contains (Ps ++ P ∷ [])) same (Contains-push Ps P)
          ];
          others_of = λ Q one. Contains-append_left Ps (P ∷ []) Q (are.others_of Q one);
          once = subst (AllPairs (λ F H. F ≢ H)) (sym starts)
              (AllPairs-append (λ F H. F ≢ H) (starts_of engines) (P ∷ []) are.once (alone (λ F H. F ≢ H) P)
              (λ F H one two.
              subst (λ K. F ≢ K) (the_only_one P H two) (before_differs R far Ps P later apart some F (are.engines_of F one))));
          none = are.none;
        }

    -- one more class, which is no engine
    pub other_picked : (more : List Generation) → more ≡ others ++ P ∷ [] →
        (2 * b ≤ far → IsEngineWithin R b P → ⊥) → ArePicks R b far (Ps ++ P ∷ []) engines more
    other_picked more is none = subst (ArePicks R b far (Ps ++ P ∷ []) engines) (sym is) (record {
      found = are.found;
      either = λ Q one. elim (Contains-push_cases Ps P Q one) [
        | inl before ↦ elim (are.either Q before) [
          | inl engine ↦ inl engine
          | inr other ↦ inr (Contains-append_left others (P ∷ []) Q other)
        ]
        | inr same ↦ inr (subst (Contains (others ++ P ∷ [])) same (Contains-push others P))
      ];
      engines_of = λ Q one. Contains-append_left Ps (P ∷ []) Q (are.engines_of Q one);
      others_of = λ Q one. elim (Contains-push_cases others P Q one) [
        | inl before ↦ Contains-append_left Ps (P ∷ []) Q (are.others_of Q before)
        | inr same ↦ subst (Contains (Ps ++ P ∷ [])) same (Contains-push Ps P)
      ];
      once = are.once;
      none = λ long. All-push (λ Q. IsEngineWithin R b Q → ⊥) others P (are.none long) (none long);
    })
