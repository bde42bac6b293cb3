-- What is unsplit is one of the sets that no split tears.
use Rattle.std.proofs.Common.{◌≡◌, ◌≢◌, ℕ, List, [], ◌∷◌, inl, inr, sym, refl, ap, subst, ◌∙◌}
use Rattle.std.specs.List.{All, AllPairs, Contains}
use Rattle.std.proofs.lemmas.List.Elements.{All-contains, All-head, Contains-get_or}
use Rattle.life_model.specs.Rule.{Rule}
use Rattle.life_model.specs.Generation.{Generation, contains, empty}
use Rattle.life_model.specs.Evolution.{next}
use Rattle.life_model.proofs.Moves.{nothing_or_some}
use Rattle.life_objects.specs.Apart.{AreApartFor, AreApartForEver, AreDisjoint}
use Rattle.life_objects.specs.Piece.{IsSplit}
use Rattle.life_objects.specs.Union.{IsSubsetOf, union, union_of}
use Rattle.life_objects.specs.Whole.{StaysWhole}
use Rattle.life_objects.proofs.Dividing.{AreApartFor-swap, apart_from_rest}
use Rattle.life_objects.proofs.Lists.{AllPairs-head, AllPairs-tail, Contains-head, Contains-later, head_or_later, related_or_same}
use Rattle.life_objects.proofs.Sides.{first_side, split_disjoint, within_each_other}
use Rattle.life_objects.proofs.Staying.{the_sides}
use Rattle.life_objects.proofs.Unions.{in_empty, in_first, in_second, union-empty}
use Rattle.life_growth.specs.Engine.{IsEngineWithin}
use Rattle.life_growth.specs.Growth.{IsGrowth}
use Rattle.life_growth.specs.Unsplit.{AreClasses, IsUnsplit, Leaves}
use Rattle.life_growth.proofs.Bounds.{not_within_a_bound, what_settles_has_a_bound}
use Rattle.life_growth.proofs.OneGrowth.{IsPart-growth, IsUnsplit-engine, cell_of, engine_has_no_bound, unsplit_of}
use Rattle.life_growth.proofs.Parts.{IsPart, disjoint_now, in_one, part_within}

module _ (R : Rule) (b : ℕ) where
  pub some_in_union : (P Q : Generation) → P ≢ empty → union P Q ≢ empty
  some_in_union P Q some gone =
      elim (nothing_or_some P) [
        | inl none ↦ some none
        | inr cell ↦ in_empty cell.0 (ap (λ H. contains H cell.0) (sym gone) ∙ in_first P Q cell.0 cell.1)
      ]

  -- an unsplit set that some sets make up is the only one of them
  only_one : (A : Generation) (Ps : List Generation) → IsUnsplit R b A → A ≡ union_of Ps → All (λ P. P ≢ empty) Ps →
      AllPairs (AreApartFor R b) Ps → Ps ≡ A ∷ []
  only_one A [] unsplit made some pairs = absurd (unsplit.nonempty made)
  only_one A (P ∷ []) unsplit made some pairs = ap (λ Q. Q ∷ []) (sym (made ∙ union-empty P))
  only_one A (P ∷ (Q ∷ Qs)) unsplit made some pairs =
      absurd (unsplit.whole P (union_of (Q ∷ Qs))
      (record {
        together = sym made;
        apart = apart_from_rest R b P (Q ∷ Qs) (AllPairs-head (AreApartFor R b) P (Q ∷ Qs) pairs)
            (AllPairs-tail (AreApartFor R b) P (Q ∷ Qs) pairs);
      })
      (All-head (λ P. P ≢ empty) P (Q ∷ Qs) some)
      (some_in_union Q (union_of Qs)
      (All-contains (λ P. P ≢ empty) (P ∷ (Q ∷ Qs)) Q some (Contains-later P Q (Q ∷ Qs) (Contains-head Q Qs)))))

  module _ (G : Generation) (Ps : List Generation) (classes : AreClasses R b G Ps) where
    -- a set that is unsplit, and apart from the rest of G, is a class of G
    pub unsplit_is_a_class : (A B : Generation) → IsUnsplit R b A → IsSplit R b G A B → Contains Ps A
    unsplit_is_a_class A B unsplit split =
        let s = the_sides R b G Ps classes.together classes.whole (AreApartFor R b) classes.apart A B split in
        let made = first_side R b G A B split (AreApartFor R b) Ps classes.together s in
        let some : All (λ P. P ≢ empty) s.first =
        λ k d h. All-contains (λ P. P ≢ empty) Ps _ classes.nonempty (s.first_of _ (Contains-get_or s.first k d h)) in
        let one = only_one A s.first unsplit made some s.first_pairs in
        s.first_of A (subst (λ Qs. Contains Qs A) (sym one) (Contains-head A []))

    pub one_class_by_unsplit : IsUnsplit R b G → Ps ≡ G ∷ []
    one_class_by_unsplit unsplit = only_one G Ps unsplit (sym classes.together) classes.nonempty classes.apart

    pub unsplit_by_one_class : Ps ≡ G ∷ [] → IsUnsplit R b G
    unsplit_by_one_class one =
        let here : Contains Ps G = subst (λ Qs. Contains Qs G) (sym one) (Contains-head G []) in
        record {
          nonempty = All-contains (λ P. P ≢ empty) Ps G classes.nonempty here;
          whole = λ A B split some other.
              let disjoint : AreDisjoint A B = split_disjoint R b G A B split in
              elim (All-contains (StaysWhole R b G) Ps G classes.whole here A B split) [
                | inl within ↦ elim (nothing_or_some B) [
                  | inl none ↦ other none
                  | inr cell ↦ disjoint cell.0
                      (within cell.0 (ap (λ H. contains H cell.0) (sym split.together) ∙ in_second A B cell.0 cell.1))
                      cell.1
                ]
                | inr within ↦ elim (nothing_or_some A) [
                  | inl none ↦ some none
                  | inr cell ↦ disjoint cell.0 cell.1
                      (within cell.0 (ap (λ H. contains H cell.0) (sym split.together) ∙ in_first A B cell.0 cell.1))
                ]
              ];
        }

  pub core_is_a_class : (P A L : Generation) (Ps : List Generation) → Leaves R P A L → IsUnsplit R b A →
      AreClasses R b (next R P) Ps → Contains Ps A
  core_is_a_class P A L Ps leaves unsplit classes =
      unsplit_is_a_class (next R P) Ps classes A L unsplit
      (record { together = leaves.together; apart = λ n h. leaves.apart n })

  -- each other class has left
  pub other_classes_leave : (P A L : Generation) (Ps : List Generation) → Leaves R P A L → IsUnsplit R b A →
      AreClasses R b (next R P) Ps → (C : Generation) → Contains Ps C → C ≢ A → IsSubsetOf C L
  other_classes_leave P A L Ps leaves unsplit classes C one other =
      let split : IsSplit R b (next R P) A L = record { together = leaves.together; apart = λ n h. leaves.apart n } in
      elim (All-contains (StaysWhole R b (next R P)) Ps C classes.whole one A L split) [
        | inr within ↦ within
        | inl within ↦ elim (nothing_or_some C) [
          | inl none ↦ absurd (All-contains (λ P. P ≢ empty) Ps C classes.nonempty one none)
          | inr cell ↦
              elim (related_or_same (AreApartFor R b) (AreApartFor-swap R b) Ps C A one
              (core_is_a_class P A L Ps leaves unsplit classes) classes.apart) [
                | inl far ↦ absurd (split_disjoint R b (union C A) C A (record { together = refl; apart = far })
                    cell.0 cell.1 (within cell.0 cell.1))
                | inr same ↦ absurd (other same)
              ]
        ]
      ]

  pub engine_is_a_class : (G : Generation) (Es : List Generation) (S : Generation) (Ps : List Generation) →
      IsGrowth R b G Es S → AreClasses R b G Ps → (E : Generation) → Contains Es E → Contains Ps E
  engine_is_a_class G Es S Ps growth classes E one =
      let part = IsPart-growth R b G Es S growth E (Contains-later S E Es one) in
      unsplit_is_a_class G Ps classes E part.rest (unsplit_of R b G Es S growth E one)
      (record { together = part.together; apart = λ n h. part.apart n })

module _ (R : Rule) where
  -- what is an engine, and apart for ever from the rest, is one of the engines
  pub is_one_of_the_engines : (b c : ℕ) (G C X : Generation) (Es : List Generation) (S : Generation) →
      IsGrowth R b G Es S → IsEngineWithin R c C → AreApartForEver R C X → union C X ≡ G → Contains Es C
  is_one_of_the_engines b c G C X Es S growth engine far together =
      let unsplit = IsUnsplit-engine R c C engine.0 engine.1 in
      let grows = engine_has_no_bound R c C engine.0 engine.1 in
      let part_of_g : IsPart R C G = record { rest = X; together = together; apart = far } in
      elim (nothing_or_some C) [
        | inl none ↦ absurd (unsplit.nonempty none)
        | inr cell ↦
            let Y = cell_of R b G Es S growth cell.0 (part_within R C G part_of_g cell.0 cell.1) in
            let y = IsPart-growth R b G Es S growth Y.0 Y.1 in
            let lies : IsPart R C Y.0 =
            elim (in_one R c C X far unsplit Y.0 y.rest y.apart (together ∙ sym y.together)) [
              | inl part ↦ part
              | inr part ↦ absurd (disjoint_now R Y.0 y.rest y.apart cell.0 Y.2 (part_within R C y.rest part cell.0 cell.1))
            ] in
            elim (head_or_later S Y.0 Es Y.1.0 Y.1.1 Y.1.2) [
              | inl e ↦ absurd (not_within_a_bound R C S (subst (IsPart R C) (sym e) lies)
                  (what_settles_has_a_bound R b S growth.settles) grows)
              | inr one ↦
                  let back : IsSubsetOf Y.0 C =
                  elim (in_one R b Y.0 y.rest y.apart (unsplit_of R b G Es S growth Y.0 one) C X far
                  (y.together ∙ sym together)) [
                    | inl part ↦ part_within R Y.0 C part
                    | inr part ↦ absurd (disjoint_now R C X far cell.0 cell.1 (part_within R Y.0 X part cell.0 Y.2))
                  ] in
                  subst (Contains Es) (within_each_other Y.0 C back (part_within R C Y.0 lies)) one
            ]
      ]
