-- Stores that grow.
use Rattle.std.proofs.Common.{◌≡◌, ℕ, zero, suc, pos, ◌<◌, ◌≤◌, List, [], ◌∷◌, ◌++◌, length, slice_index_or, Some, None, sym, refl, subst, ◌∙◌, arith}
use Rattle.std.proofs.Math.ListN.{set}
use Rattle.life_model.specs.Cell.{Cell, plus}
use Rattle.life_model.specs.Rule.{Rule}
use Rattle.life_model.specs.Generation.{Generation}
use Rattle.life_model.specs.Evolution.{generation}
use Rattle.life_slots.specs.declared.leaf.Leaf.{Leaf}
use Rattle.life_slots.specs.Leaves.{ShowsLeaf}
use Rattle.life_advance.specs.declared.leaps.square.Quarters.{Quarters}
use Rattle.life_advance.specs.declared.leaps.rows.Step.{Step}
use Rattle.life_advance.specs.declared.leaps.store.Store.{Store}
use Rattle.life_advance.specs.Leaps.Squares.{View, half, Shows, IsAt, AreAt, jump, IsMiddle, IsKept, AreRight, Grows}
use Rattle.life_advance.specs.Leaps.Stores.{listed, view, no_leaf}
use Rattle.life_advance.specs.Leaps.Rows.{IsReady}
use Rattle.life_advance.proofs.LeapsLemmas.Growth.{quarters_at, middle-after, grows-self}
use Rattle.life_advance.proofs.LeapsLemmas.Appended.{leaf-added, square-added, later-noted}

pub grows-same : (rule : Rule) (e : ℕ) (s t : Store) → IsKept (view s) → t.leaves.items ≡ s.leaves.items → t.squares.items ≡ s.squares.items → Grows rule e (view s) (view t)
grows-same rule e s t kept ls qs =
    let P : View → Type 0 = λ w. Grows rule e (view s) w in
    subst P (sym (λ i. listed (ls i) (qs i))) (grows-self rule e (view s) kept)

pub grows-leaf : (rule : Rule) (e : ℕ) (s t : Store) (l : Leaf) → IsKept (view s) → t.leaves.items ≡ s.leaves.items ++ l ∷ [] → t.squares.items ≡ s.squares.items →
    Grows rule e (view s) (view t)
grows-leaf rule e s t l kept ls qs =
    let P : View → Type 0 = λ w. Grows rule e (view s) w in
    subst P (sym (λ i. listed (ls i) (qs i))) (leaf-added rule e s.leaves.items s.squares.items l kept)

pub grows-square : (rule : Rule) (e : ℕ) (s t : Store) (level : ℕ) (q : Quarters) → IsKept (view s) → AreAt (view s) level q →
    t.leaves.items ≡ s.leaves.items → t.squares.items ≡ s.squares.items ++ (record { quarters = q; level = level; later = None }) ∷ [] →
    Grows rule e (view s) (view t)
grows-square rule e s t level q kept at ls qs =
    let P : View → Type 0 = λ w. Grows rule e (view s) w in
    subst P (sym (λ i. listed (ls i) (qs i))) (square-added rule e s.leaves.items s.squares.items (record { quarters = q; level = level; later = None }) kept at refl)

-- what a square remembers
pub remembered : (rule : Rule) (e : ℕ) (v : View) → AreRight rule e v → (n i later : ℕ) → IsAt v (suc n) i → (v.square i).later ≡ Some later →
    IsMiddle rule (jump e n) v n (v.square i).quarters v later
remembered rule e v right n i later at is =
    let P : ℕ → Type 0 = λ m. IsMiddle rule (jump e m) v m (v.square i).quarters v later in
    subst P at.1 (right i at.0 later is)

-- a store that notes what a square becomes
pub grows-noted : (rule : Rule) (e : ℕ) (s t r : Store) (place n later : ℕ) → IsKept (view s) → IsAt (view s) (suc n) place →
    Grows rule e (view s) (view t) → IsMiddle rule (jump e n) (view s) n ((view s).square place).quarters (view t) later →
    r.leaves.items ≡ t.leaves.items →
    r.squares.items ≡ set t.squares.items place (record ((view t).square place) { later = Some later }) →
    Grows rule e (view t) (view r)
grows-noted rule e s t r place n later kept at grows middle ls qs =
    let u : View = view s in
    let v : View = view t in
    let inside : place < v.squares = (let a : place < (view s).squares = at.0 in let b : (view s).squares ≤ (view t).squares = grows.extends.squares in omega arith) in
    let before : AreAt (view s) n ((view s).square place).quarters = quarters_at (view s) kept n place at in
    let m : IsMiddle rule (jump e n) (view t) n ((view s).square place).quarters (view t) later =
    middle-after rule (jump e n) (view s) (view t) (view t) n _ later kept grows.extends before middle in
    let level : ((view t).square place).level ≡ n = grows.extends.level place at.0 ∙ at.1 in
    let P : Quarters → Type 0 = λ q. IsMiddle rule (jump e n) (view t) n q (view t) later in
    let Q : ℕ → Type 0 = λ k. IsMiddle rule (jump e k) (view t) k ((view t).square place).quarters (view t) later in
    let now : IsMiddle rule (jump e ((view t).square place).level) (view t) ((view t).square place).level ((view t).square place).quarters (view t) later =
    subst Q (sym level) (subst P (sym (grows.extends.quarters place at.0)) m) in
    let R : View → Type 0 = λ w. Grows rule e (view t) w in
    subst R (sym (λ i. listed (ls i) (qs i)))
    (later-noted rule e t.leaves.items t.squares.items place later (record ((view t).square place) { later = Some later }) grows.kept inside refl refl refl now)

-- a step that can be made in a store can be made when it has grown
pub ready-grown : (step : Step) (v w : View) → IsReady step v → Grows step.rule step.exponent v w → IsReady step w
ready-grown step v w ready grows = record { logic = ready.logic; kept = grows.kept; right = grows.right ready.right }

-- the middle of four leaves
pub leaf-middle : (rule : Rule) (t : ℕ) (v w : View) (q : Quarters) (leaf : Leaf) (i : ℕ) → i < w.leaves → w.leaf i ≡ leaf →
    ((G : Generation) (p : Cell) → ShowsLeaf (v.leaf q.north_west) G p → ShowsLeaf (v.leaf q.north_east) G (plus p (pos 32, pos 0)) →
    ShowsLeaf (v.leaf q.south_west) G (plus p (pos 0, pos 32)) → ShowsLeaf (v.leaf q.south_east) G (plus p (pos 32, pos 32)) →
    ShowsLeaf leaf (generation rule G t) (plus p (pos 16, pos 16))) → IsMiddle rule t v 0 q w i
unfolding Shows half
leaf-middle rule t v w q leaf i inside is shows = record {
  at = inside;
  shows = λ G p s.
      let P : Leaf → Type 0 = λ l. ShowsLeaf l (generation rule G t) (plus p (pos 16, pos 16)) in
      subst P (sym is) (shows G p s.north_west s.north_east s.south_west s.south_east);
}

pub any_default : {A : Type 0} → (xs : List A) (i : ℕ) (d e : A) → i < length xs → slice_index_or xs i d ≡ slice_index_or xs i e
any_default [] i d e h = absurd (omega arith)
any_default (x ∷ xs) zero d e h = refl
any_default (x ∷ xs) (suc i) d e h = any_default xs i d e (omega arith)

-- what a leaf of a store shows, by what was read there
pub shown : (s : Store) (i : ℕ) (l : Leaf) (G : Generation) (p : Cell) → i < (view s).leaves → l ≡ slice_index_or s.leaves.items i l → ShowsLeaf ((view s).leaf i) G p → ShowsLeaf l G p
shown s i l G p inside is shows =
    let P : Leaf → Type 0 = λ m. ShowsLeaf m G p in
    subst P (sym (is ∙ any_default s.leaves.items i l no_leaf inside)) shows
