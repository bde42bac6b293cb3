-- Squares that are copied into another store.
use Rattle.std.proofs.Common.{◌≡◌, ◌≢◌, ℕ, zero, suc, ◌-◌, ◌<◌, ⊎_elim, Some, None, length, slice_index_or, sym, refl, subst, ap, ◌∙◌, arith}
use Rattle.std.proofs.lemmas.Bool.{cases_eq}
use Rattle.std.proofs.Math.ListN.{set}
use Rattle.life_model.specs.Generation.{Generation, contains, from_list}
use Rattle.life_slots.specs.declared.leaf.Leaf.{Leaf}
use Rattle.life_slots.specs.Leaves.{ShowsLeaf}
use Rattle.life_advance.specs.declared.leaps.collecting.Copier.{Copier}
use Rattle.life_advance.specs.declared.leaps.square.Quarters.{Quarters}
use Rattle.life_advance.specs.declared.leaps.store.Store.{Store}
use Rattle.life_advance.specs.Leaps.Copies.{IsCopier, IsCopyOf}
use Rattle.life_advance.specs.Leaps.Squares.{View, Shows, ShowsQuarters, IsAt, AreAt, AreRight, IsKept, Extends}
use Rattle.life_advance.specs.Leaps.Stores.{view}
use Rattle.life_advance.specs.declared.leaps.leaping.Leaper.{Leaper}
use Rattle.life_advance.specs.Leaps.Leapers.{IsLeaper, cells_in}
use Rattle.life_advance.specs.Leaps.Cells.{cells_of}
use Rattle.life_advance.specs.Leaps.Sites.{root_corner, root_level}
use Rattle.life_advance.proofs.LeapsLemmas.CellLemmas.{known, shows_cells, cells_inside, to_has}
use Rattle.life_advance.proofs.LeapsLemmas.Appended.{set_at, set_else, length_set}
use Rattle.life_advance.proofs.LeapsLemmas.Growth.{at-extends, forth, quarters_at}
use Rattle.life_advance.proofs.LeapsLemmas.RowLemmas.{as_made, from_made, made}

-- a copy stays one in a store that grows
pub copy-later : (v w x : View) (n i copy : ℕ) → IsKept w → Extends w x → IsCopyOf v n i w copy → IsCopyOf v n i x copy
copy-later v w x n i copy kept grown is = record {
  at = at-extends w x grown n copy is.at;
  shows = λ G p s. forth w x kept grown G n copy is.at p (is.shows G p s);
}

pub copier-grown : (v : View) (c d : Copier) → IsCopier v c → IsKept (view d.store) → Extends (view c.store) (view d.store) → d.places.items ≡ c.places.items → IsCopier v d
copier-grown v c d is kept grown places = record {
  kept = kept;
  many = ap length places ∙ is.many;
  copies = λ i copy h found.
      copy-later v (view c.store) (view d.store) _ i copy is.kept grown (is.copies i copy h (ap (λ xs. slice_index_or xs i None) (sym places) ∙ found));
}

-- a leaf
leaf_copied : (v w : View) (i copy : ℕ) → copy < w.leaves → w.leaf copy ≡ v.leaf i → IsCopyOf v 0 i w copy
unfolding Shows
leaf_copied v w i copy at is = record {
  at = at;
  shows = λ G p s. let P : Leaf → Type 0 = λ l. ShowsLeaf l G p in subst P (sym is) s;
}

pub copied-leaf : (v w : View) (n i copy : ℕ) → n ≡ 0 → copy < w.leaves → w.leaf copy ≡ v.leaf i → IsCopyOf v n i w copy
copied-leaf v w n i copy zero_is at is = let P : ℕ → Type 0 = λ k. IsCopyOf v k i w copy in subst P (sym zero_is) (leaf_copied v w i copy at is)

-- a square of four copies
pub copied-square : (v w : View) (n m i copy a b c d : ℕ) → suc m ≡ n → (q : Quarters) → q ≡ (v.square i).quarters →
    IsCopyOf v m q.north_west w a → IsCopyOf v m q.north_east w b → IsCopyOf v m q.south_west w c → IsCopyOf v m q.south_east w d →
    IsAt w (suc m) copy → (w.square copy).quarters ≡ made a b c d → IsCopyOf v n i w copy
copied-square v w n m i copy a b c d level q q_is nw ne sw se at is = let P : ℕ → Type 0 = λ k. IsCopyOf v k i w copy in subst P level (record {
  at = at;
  shows = λ G p s.
      let Q : Quarters → Type 0 = λ r. ShowsQuarters v m r G p in
      let four : ShowsQuarters v m q G p = subst Q (sym q_is) (as_made v m i G p s) in
      from_made w m copy (made a b c d) G p is (record {
        north_west = nw.shows G _ four.north_west;
        north_east = ne.shows G _ four.north_east;
        south_west = sw.shows G _ four.south_west;
        south_east = se.shows G _ four.south_east;
      });
})

-- a copy that is noted
pub copier-noted : (v : View) (c d : Copier) (n place copy : ℕ) → IsCopier v c → IsAt v n place → n ≢ 0 → IsCopyOf v n place (view c.store) copy →
    d.store ≡ c.store → d.places.items ≡ set c.places.items place (Some copy) → IsCopier v d
copier-noted v c d zero place copy is at some of store places = absurd (some refl)
copier-noted v c d (suc m) place copy is at some of store places = record {
  kept = subst (λ s. IsKept (view s)) (sym store) is.kept;
  many = ap length places ∙ length_set c.places.items (Some copy) place ∙ is.many;
  copies = λ i j h found.
      let P : Store → Type 0 = λ s. IsCopyOf v (suc (v.square i).level) i (view s) j in
      let there : slice_index_or (set c.places.items place (Some copy)) i None ≡ Some j = ap (λ xs. slice_index_or xs i None) (sym places) ∙ found in
      let inside : place < length c.places.items = (let a : place < v.squares = at.0 in let b : length c.places.items ≡ v.squares = is.many in omega arith) in
      subst P (sym store)
      (⊎_elim
      (λ (same : place ≡ i).
      let a : slice_index_or (set c.places.items place (Some copy)) place None ≡ Some copy = set_at c.places.items (Some copy) None place inside in
      let b : Some copy ≡ Some j = sym a ∙ ap (λ k. slice_index_or (set c.places.items place (Some copy)) k None) same ∙ there in
      let e : copy ≡ j = some_is b in
      let Q : ℕ → Type 0 = λ k. IsCopyOf v k place (view c.store) copy in
      let R : ℕ → Type 0 = λ k. IsCopyOf v (suc (v.square k).level) k (view c.store) copy in
      let S : ℕ → Type 0 = λ k. IsCopyOf v (suc (v.square i).level) i (view c.store) k in
      subst S e (subst R same (subst Q (ap suc (sym at.1)) of)))
      (λ (other : place ≡ i → ⊥).
      is.copies i j h (sym (set_else c.places.items (Some copy) None place i other) ∙ there))
      (cases_eq place i));
}
  where
    some_is : {a b : ℕ} → Some a ≡ Some b → a ≡ b
    some_is e = cc

-- the first store, without copies
pub copier-new : (v : View) (c : Copier) → IsKept (view c.store) → length c.places.items ≡ v.squares → ((i : ℕ) → slice_index_or c.places.items i None ≡ None) → IsCopier v c
copier-new v c kept many none = record {
  kept = kept;
  many = many;
  copies = λ i copy h found. let never : None ≡ Some copy = sym (none i) ∙ found in absurd cc;
}

-- the quarters of the other store's square
pub old-quarters : (v : View) → IsKept v → (n place : ℕ) → n ≢ 0 → IsAt v n place → (q : Quarters) → q ≡ (v.square place).quarters → AreAt v (n - 1) q
old-quarters v kept zero place some at q is = absurd (some refl)
old-quarters v kept (suc m) place some at q is =
    let e : suc m - 1 ≡ m = omega arith in
    let P : Quarters → Type 0 = λ r. AreAt v m r in
    let Q : ℕ → Type 0 = λ k. AreAt v k q in
    subst Q (sym e) (subst P (sym is) (quarters_at v kept m place at))

-- a store with the same cells in another square
pub collected-cells : (l : Leaper) → IsLeaper l → (store : Store) (root : ℕ) → IsCopyOf (view l.store) root_level l.root (view store) root →
    cells_in (record l { store = store; root = root }) ≡ cells_in l
unfolding cells_in
collected-cells l kept store root copy =
    let v : View = view l.store in
    sym (known (view store) root_level root (from_list (cells_of (view l.store) root_level l.root root_corner)) root_corner
    (copy.shows _ _ (shows_cells (view l.store) root_level l.root root_corner))
    (λ q live. cells_inside (view l.store) root_level l.root root_corner q (to_has _ q live)))

pub collected-kept : (l : Leaper) → IsLeaper l → (store : Store) (root : ℕ) → IsKept (view store) → AreRight l.step.rule l.step.exponent (view store) →
    IsCopyOf (view l.store) root_level l.root (view store) root → IsLeaper (record l { store = store; root = root })
collected-kept l kept store root store_kept right copy = record {
  ready = record { logic = kept.ready.logic; kept = store_kept; right = right };
  at = copy.at;
  young = kept.young;
  within = λ q live. kept.within q (sym (ap (λ (G : Generation). contains G q) (collected-cells l kept store root copy)) ∙ live);
}

-- the copy that was noted for a square, and where it is noted
pub noted_copy : (v : View) (c : Copier) (n place copy : ℕ) → IsCopier v c → IsAt v n place → n ≢ 0 → slice_index_or c.places.items place None ≡ Some copy →
    IsCopyOf v n place (view c.store) copy
noted_copy v c zero place copy is at some found = absurd (some refl)
noted_copy v c (suc m) place copy is at some found =
    let P : ℕ → Type 0 = λ k. IsCopyOf v (suc k) place (view c.store) copy in
    subst P at.1 (is.copies place copy at.0 found)

pub noted_place : (v : View) (c : Copier) (n place : ℕ) → IsCopier v c → IsAt v n place → n ≢ 0 → place < length c.places.items
noted_place v c zero place is at some = absurd (some refl)
noted_place v c (suc m) place is at some =
    let a : place < v.squares = at.0 in
    let b : length c.places.items ≡ v.squares = is.many in
    omega arith
