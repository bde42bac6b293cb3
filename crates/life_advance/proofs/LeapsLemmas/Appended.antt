-- Stores that grow by a leaf, by a square or by what a square remembers.
use Rattle.std.proofs.Common.{◌≡◌, ℕ, zero, suc, ◌+◌, ◌<◌, ◌≤◌, inl, inr, ⊎_elim, List, [], ◌∷◌, ◌++◌, length, slice_index_or, Some, None, sym, refl, subst, ap, ◌∙◌, arith}
use Rattle.std.proofs.lemmas.Grind.{common_steps}
use Rattle.std.proofs.lemmas.Bool.{cases_eq}
use Rattle.std.proofs.Math.ListN.{set}
use Rattle.life_model.specs.Rule.{Rule}
use Rattle.life_slots.specs.declared.leaf.Leaf.{Leaf}
use Rattle.life_slots.specs.Leaves.{leaf_cell}
use Rattle.life_advance.specs.declared.leaps.square.Quarters.{Quarters}
use Rattle.life_advance.specs.declared.leaps.square.Square.{Square}
use Rattle.life_advance.specs.Leaps.Squares.{View, AreAt, jump, IsMiddle, IsKept, Extends, Grows}
use Rattle.life_advance.specs.Leaps.Stores.{listed, no_leaf, no_square}
use Rattle.life_advance.proofs.LeapsLemmas.Growth.{either, are_at-extends, middle-extends, right-grown}

before_end : {A : Type 0} → (xs : List A) (x d : A) (i : ℕ) → i < length xs → slice_index_or (xs ++ x ∷ []) i d ≡ slice_index_or xs i d
before_end [] x d i h = absurd (omega arith)
before_end (y ∷ ys) x d zero h = refl
before_end (y ∷ ys) x d (suc i) h = before_end ys x d i (omega arith)

at_end : {A : Type 0} → (xs : List A) (x d : A) → slice_index_or (xs ++ x ∷ []) (length xs) d ≡ x
at_end [] x d = refl
at_end (y ∷ ys) x d = at_end ys x d

length_more : {A : Type 0} → (xs : List A) (x : A) → length (xs ++ x ∷ []) ≡ length xs + 1
length_more [] x = refl
length_more (y ∷ ys) x = let e : length (ys ++ x ∷ []) ≡ length ys + 1 = length_more ys x in omega arith

pub set_at : {A : Type 0} → (xs : List A) (x d : A) (i : ℕ) → i < length xs → slice_index_or (set xs i x) i d ≡ x
set_at xs x d i h = grind (arith, common_steps)

pub set_else : {A : Type 0} → (xs : List A) (x d : A) (i j : ℕ) → (i ≡ j → ⊥) → slice_index_or (set xs i x) j d ≡ slice_index_or xs j d
set_else xs x d i j h = grind (arith, common_steps)

pub length_set : {A : Type 0} → (xs : List A) (x : A) (i : ℕ) → length (set xs i x) ≡ length xs
length_set xs x i = grind (arith, common_steps)

-- a store is kept where what is new in it is made of squares
pub kept-extends : (v w : View) → IsKept v → Extends v w → ((i : ℕ) → v.squares ≤ i → i < w.squares → AreAt w (w.square i).level (w.square i).quarters) → IsKept w
kept-extends v w kept e fresh =
    let fewer : v.squares ≤ w.squares = e.squares in
    let many : 21 ≤ v.squares = kept.many in
    let some : 0 < v.leaves = kept.some in
    let leaves : v.leaves ≤ w.leaves = e.leaves in
    record {
      leaf = λ x y. ap (λ l. leaf_cell l x y) (e.leaf 0 some) ∙ kept.leaf x y;
      some = omega arith;
      empty = λ n h. e.level n (omega arith) ∙ kept.empty n h;
      none = λ n h. e.quarters n (omega arith) ∙ kept.none n h;
      many = omega arith;
      quarters = λ i h.
          ⊎_elim
          (λ (old : i < v.squares).
          let at : AreAt w (v.square i).level (v.square i).quarters = are_at-extends v w e _ _ (kept.quarters i old) in
          let P : ℕ → Type 0 = λ n. AreAt w n (w.square i).quarters in
          let Q : Quarters → Type 0 = λ q. AreAt w (v.square i).level q in
          subst P (sym (e.level i old)) (subst Q (sym (e.quarters i old)) at))
          (λ (new : v.squares ≤ i). fresh i new h)
          (either i v.squares);
    }

pub leaf-added : (rule : Rule) (e : ℕ) (ls : List Leaf) (qs : List Square) (l : Leaf) → IsKept (listed ls qs) → Grows rule e (listed ls qs) (listed (ls ++ l ∷ []) qs)
leaf-added rule e ls qs l kept =
    let more : length (ls ++ l ∷ []) ≡ length ls + 1 = length_more ls l in
    let ext : Extends (listed ls qs) (listed (ls ++ l ∷ []) qs) =
    record { leaf = λ i h. before_end ls l no_leaf i h; leaves = omega arith; quarters = λ i h. refl; level = λ i h. refl; squares = omega arith } in
    record {
      kept = kept-extends _ _ kept ext (λ i h k. absurd (omega arith));
      extends = ext;
      right = right-grown rule e _ _ kept ext (λ i h later is. inl (h, is));
    }

pub square-added : (rule : Rule) (e : ℕ) (ls : List Leaf) (qs : List Square) (q : Square) → IsKept (listed ls qs) → AreAt (listed ls qs) q.level q.quarters →
    q.later ≡ None → Grows rule e (listed ls qs) (listed ls (qs ++ q ∷ []))
square-added rule e ls qs q kept at none =
    let v : View = listed ls qs in
    let w : View = listed ls (qs ++ q ∷ []) in
    let more : length (qs ++ q ∷ []) ≡ length qs + 1 = length_more qs q in
    let ext : Extends (listed ls qs) (listed ls (qs ++ q ∷ [])) =
    record {
      leaf = λ i h. refl;
      leaves = omega arith;
      quarters = λ i h. ap (λ (s : Square). s.quarters) (before_end qs q no_square i h);
      level = λ i h. ap (λ (s : Square). s.level) (before_end qs q no_square i h);
      squares = omega arith;
    } in
    let last : (i : ℕ) → length qs ≤ i → i < length (qs ++ q ∷ []) → slice_index_or (qs ++ q ∷ []) i no_square ≡ q = λ i h k.
    let same : i ≡ length qs = omega arith in
    ap (λ j. slice_index_or (qs ++ q ∷ []) j no_square) same ∙ at_end qs q no_square in
    record {
      kept = kept-extends _ _ kept ext (λ i h k.
          let P : Square → Type 0 = λ s. AreAt (listed ls (qs ++ q ∷ [])) s.level s.quarters in
          subst P (sym (last i h k)) (are_at-extends _ _ ext q.level q.quarters at));
      extends = ext;
      right = right-grown rule e _ _ kept ext (λ i h later is.
          ⊎_elim
          (λ (old : i < length qs). inl (old, ap (λ (s : Square). s.later) (sym (before_end qs q no_square i old)) ∙ is))
          (λ (new : length qs ≤ i).
          let a : slice_index_or (qs ++ q ∷ []) i no_square ≡ q = last i new h in
          let b : q.later ≡ Some later = ap (λ (s : Square). s.later) (sym a) ∙ is in
          let c : None ≡ Some later = sym none ∙ b in
          absurd cc)
          (either i (length qs)));
    }

pub later-noted : (rule : Rule) (e : ℕ) (ls : List Leaf) (qs : List Square) (place later : ℕ) (q : Square) → IsKept (listed ls qs) → place < length qs →
    q.quarters ≡ ((listed ls qs).square place).quarters → q.level ≡ ((listed ls qs).square place).level → q.later ≡ Some later →
    IsMiddle rule (jump e q.level) (listed ls qs) q.level q.quarters (listed ls qs) later →
    Grows rule e (listed ls qs) (listed ls (set qs place q))
later-noted rule e ls qs place later q kept inside same_quarters same_level noted middle =
    let v : View = listed ls qs in
    let len : length (set qs place q) ≡ length qs = length_set qs q place in
    let here : slice_index_or (set qs place q) place no_square ≡ q = set_at qs q no_square place inside in
    let ext : Extends (listed ls qs) (listed ls (set qs place q)) =
    record {
      leaf = λ i h. refl;
      leaves = omega arith;
      quarters = λ i h.
          ⊎_elim
          (λ (is : place ≡ i). ap (λ j. (slice_index_or (set qs place q) j no_square).quarters) (sym is) ∙ ap (λ (s : Square). s.quarters) here ∙ same_quarters ∙ ap (λ j. (slice_index_or qs j no_square).quarters) is)
          (λ (other : place ≡ i → ⊥). ap (λ (s : Square). s.quarters) (set_else qs q no_square place i other))
          (cases_eq place i);
      level = λ i h.
          ⊎_elim
          (λ (is : place ≡ i). ap (λ j. (slice_index_or (set qs place q) j no_square).level) (sym is) ∙ ap (λ (s : Square). s.level) here ∙ same_level ∙ ap (λ j. (slice_index_or qs j no_square).level) is)
          (λ (other : place ≡ i → ⊥). ap (λ (s : Square). s.level) (set_else qs q no_square place i other))
          (cases_eq place i);
      squares = omega arith;
    } in
    record {
      kept = kept-extends _ _ kept ext (λ i h k. absurd (omega arith));
      extends = ext;
      right = right-grown rule e _ _ kept ext (λ i h l is.
          ⊎_elim
          (λ (same : place ≡ i).
          let a : slice_index_or (set qs place q) i no_square ≡ q = ap (λ j. slice_index_or (set qs place q) j no_square) (sym same) ∙ here in
          let b : q.later ≡ Some l = ap (λ (s : Square). s.later) (sym a) ∙ is in
          let c : later ≡ l = some_is (sym noted ∙ b) in
          let at : AreAt (listed ls qs) q.level q.quarters =
          (let P : ℕ → Type 0 = λ n. AreAt (listed ls qs) n q.quarters in
          let Q : Quarters → Type 0 = λ r. AreAt (listed ls qs) ((listed ls qs).square place).level r in
          subst P (sym same_level) (subst Q (sym same_quarters) (kept.quarters place inside))) in
          let m : IsMiddle rule (jump e q.level) (listed ls (set qs place q)) q.level q.quarters (listed ls (set qs place q)) later =
          middle-extends rule _ (listed ls qs) (listed ls (set qs place q)) q.level q.quarters later kept ext at middle in
          let P : Square → Type 0 = λ s. IsMiddle rule (jump e s.level) (listed ls (set qs place q)) s.level s.quarters (listed ls (set qs place q)) l in
          let Q : ℕ → Type 0 = λ k. IsMiddle rule (jump e q.level) (listed ls (set qs place q)) q.level q.quarters (listed ls (set qs place q)) k in
          inr (subst P (sym a) (subst Q c m)))
          (λ (other : place ≡ i → ⊥). inl (omega arith, ap (λ (s : Square). s.later) (sym (set_else qs q no_square place i other)) ∙ is))
          (cases_eq place i));
    }
  where
    some_is : {a b : ℕ} → Some a ≡ Some b → a ≡ b
    some_is e = cc
