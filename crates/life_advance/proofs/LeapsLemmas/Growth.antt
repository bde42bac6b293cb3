-- What a store shows at its places it shows for ever.
use Rattle.std.proofs.Common.{◌≡◌, ℕ, zero, suc, ◌+◌, ◌<◌, ◌≤◌, ◌⊎◌, inl, inr, ⊎_elim, Some, sym, refl, subst, ◌∙◌, arith}
use Rattle.std.proofs.lemmas.Int.{ints}
use Rattle.life_model.specs.Cell.{Cell}
use Rattle.life_model.specs.Rule.{Rule}
use Rattle.life_model.specs.Generation.{Generation}
use Rattle.life_model.specs.Evolution.{generation}
use Rattle.life_model.proofs.Cells.{pair}
use Rattle.life_slots.specs.declared.leaf.Leaf.{Leaf}
use Rattle.life_slots.specs.Leaves.{ShowsLeaf}
use Rattle.life_advance.specs.declared.leaps.square.Quarters.{Quarters}
use Rattle.life_advance.specs.Leaps.Squares.{View, width, beyond, OnQuarters, Shows, ShowsQuarters, IsAt, AreAt, jump, IsMiddle, IsKept, AreRight, Extends, Grows}

pub either : (a b : ℕ) → (a < b) ⊎ (b ≤ a)
either a zero = inr (omega arith)
either zero (suc b) = inl (omega arith)
either (suc a) (suc b) = ⊎_elim (λ (h : a < b). inl (omega arith)) (λ (h : b ≤ a). inr (omega arith)) (either a b)

pub beyond-beyond : (p : Cell) (a b c d : ℕ) → beyond (beyond p a b) c d ≡ beyond p (a + c) (b + d)
beyond-beyond p a b c d = pair (omega (arith, ints)) (omega (arith, ints))

-- ---- growth

pub extends-self : (v : View) → Extends v v
extends-self v = record { leaf = λ i h. refl; leaves = omega arith; quarters = λ i h. refl; level = λ i h. refl; squares = omega arith }

pub extends-trans : (u v w : View) → Extends u v → Extends v w → Extends u w
extends-trans u v w e f = record {
  leaf = λ i h. f.leaf i (let le : u.leaves ≤ v.leaves = e.leaves in omega arith) ∙ e.leaf i h;
  leaves = let a : u.leaves ≤ v.leaves = e.leaves in let b : v.leaves ≤ w.leaves = f.leaves in omega arith;
  quarters = λ i h. f.quarters i (let le : u.squares ≤ v.squares = e.squares in omega arith) ∙ e.quarters i h;
  level = λ i h. f.level i (let le : u.squares ≤ v.squares = e.squares in omega arith) ∙ e.level i h;
  squares = let a : u.squares ≤ v.squares = e.squares in let b : v.squares ≤ w.squares = f.squares in omega arith;
}

pub grows-self : (rule : Rule) (e : ℕ) (v : View) → IsKept v → Grows rule e v v
grows-self rule e v kept = record { kept = kept; extends = extends-self v; right = λ h. h }

pub grows-trans : (rule : Rule) (e : ℕ) (u v w : View) → Grows rule e u v → Grows rule e v w → Grows rule e u w
grows-trans rule e u v w f g = record { kept = g.kept; extends = extends-trans u v w f.extends g.extends; right = λ h. g.right (f.right h) }

pub at-extends : (v w : View) → Extends v w → (n i : ℕ) → IsAt v n i → IsAt w n i
at-extends v w e zero i h = let le : v.leaves ≤ w.leaves = e.leaves in omega arith
at-extends v w e (suc n) i h = (let le : v.squares ≤ w.squares = e.squares in let lt : i < v.squares = h.0 in omega arith, e.level i h.0 ∙ h.1)

pub are_at-extends : (v w : View) → Extends v w → (n : ℕ) (q : Quarters) → AreAt v n q → AreAt w n q
are_at-extends v w e n q h = record {
  north_west = at-extends v w e n q.north_west h.north_west;
  north_east = at-extends v w e n q.north_east h.north_east;
  south_west = at-extends v w e n q.south_west h.south_west;
  south_east = at-extends v w e n q.south_east h.south_east;
}

-- the quarters of a square are squares
pub quarters_at : (v : View) → IsKept v → (n i : ℕ) → IsAt v (suc n) i → AreAt v n (v.square i).quarters
quarters_at v kept n i h = subst (λ m. AreAt v m (v.square i).quarters) h.1 (kept.quarters i h.0)

pub four-from : (k l : ℕ → Cell → Type 0) (wide : ℕ) (q : Quarters) (p : Cell) →
    ((c : Cell) → k q.north_west c → l q.north_west c) → ((c : Cell) → k q.north_east c → l q.north_east c) →
    ((c : Cell) → k q.south_west c → l q.south_west c) → ((c : Cell) → k q.south_east c → l q.south_east c) →
    OnQuarters k wide q p → OnQuarters l wide q p
four-from k l wide q p a b c d f = record {
  north_west = a _ f.north_west;
  north_east = b _ f.north_east;
  south_west = c _ f.south_west;
  south_east = d _ f.south_east;
}

module _ (v w : View) (kept : IsKept v) (extends : Extends v w) (G : Generation) where
  pub forth : (n i : ℕ) → IsAt v n i → (p : Cell) → Shows v n i G p → Shows w n i G p
  unfolding Shows
  forth zero i h p s = let P : Leaf → Type 0 = λ l. ShowsLeaf l G p in subst P (sym (extends.leaf i h)) s
  forth (suc n) i h p s =
      let at : AreAt v n (v.square i).quarters = quarters_at v kept n i h in
      subst (λ q. OnQuarters (λ j c. Shows w n j G c) (width n) q p) (sym (extends.quarters i h.0))
      (four-from (λ j c. Shows v n j G c) (λ j c. Shows w n j G c) (width n) (v.square i).quarters p
      (λ c. forth n _ at.north_west c) (λ c. forth n _ at.north_east c) (λ c. forth n _ at.south_west c) (λ c. forth n _ at.south_east c) s)

  pub back : (n i : ℕ) → IsAt v n i → (p : Cell) → Shows w n i G p → Shows v n i G p
  unfolding Shows
  back zero i h p s = let P : Leaf → Type 0 = λ l. ShowsLeaf l G p in subst P (extends.leaf i h) s
  back (suc n) i h p s =
      let at : AreAt v n (v.square i).quarters = quarters_at v kept n i h in
      four-from (λ j c. Shows w n j G c) (λ j c. Shows v n j G c) (width n) (v.square i).quarters p
      (λ c. back n _ at.north_west c) (λ c. back n _ at.north_east c) (λ c. back n _ at.south_west c) (λ c. back n _ at.south_east c)
      (subst (λ q. OnQuarters (λ j c. Shows w n j G c) (width n) q p) (extends.quarters i h.0) s)

  pub four_forth : (n : ℕ) (q : Quarters) → AreAt v n q → (p : Cell) → ShowsQuarters v n q G p → ShowsQuarters w n q G p
  four_forth n q at p s =
      four-from (λ j c. Shows v n j G c) (λ j c. Shows w n j G c) (width n) q p
      (forth n _ at.north_west) (forth n _ at.north_east) (forth n _ at.south_west) (forth n _ at.south_east) s

  pub four_back : (n : ℕ) (q : Quarters) → AreAt v n q → (p : Cell) → ShowsQuarters w n q G p → ShowsQuarters v n q G p
  four_back n q at p s =
      four-from (λ j c. Shows w n j G c) (λ j c. Shows v n j G c) (width n) q p
      (back n _ at.north_west) (back n _ at.north_east) (back n _ at.south_west) (back n _ at.south_east) s

-- a middle stays one in a store that grows
pub middle-later : (rule : Rule) (t : ℕ) (u v w : View) (n : ℕ) (q : Quarters) (i : ℕ) → IsKept v → Extends v w →
    IsMiddle rule t u n q v i → IsMiddle rule t u n q w i
middle-later rule t u v w n q i kept e m = record {
  at = at-extends v w e n i m.at;
  shows = λ G p s. forth v w kept e (generation rule G t) n i m.at _ (m.shows G p s);
}

-- and a middle of squares that were there before
pub middle-before : (rule : Rule) (t : ℕ) (u v w : View) (n : ℕ) (q : Quarters) (i : ℕ) → IsKept u → Extends u v → AreAt u n q →
    IsMiddle rule t v n q w i → IsMiddle rule t u n q w i
middle-before rule t u v w n q i kept e at m = record {
  at = m.at;
  shows = λ G p s. m.shows G p (four_forth u v kept e G n q at p s);
}

pub middle-after : (rule : Rule) (t : ℕ) (u v w : View) (n : ℕ) (q : Quarters) (i : ℕ) → IsKept u → Extends u v → AreAt u n q →
    IsMiddle rule t u n q w i → IsMiddle rule t v n q w i
middle-after rule t u v w n q i kept e at m = record {
  at = m.at;
  shows = λ G p s. m.shows G p (four_back u v kept e G n q at p s);
}

pub middle-extends : (rule : Rule) (t : ℕ) (v w : View) (n : ℕ) (q : Quarters) (i : ℕ) → IsKept v → Extends v w → AreAt v n q →
    IsMiddle rule t v n q v i → IsMiddle rule t w n q w i
middle-extends rule t v w n q i kept e at m =
    middle-after rule t v w w n q i kept e at (middle-later rule t v v w n q i kept e m)

-- what is remembered at a place was remembered before, or is right now
abbrev pub Remembers : Rule → ℕ → View → View → ℕ → Type 0
Remembers rule exponent v w i = (later : ℕ) → (w.square i).later ≡ Some later →
    ((i < v.squares) × ((v.square i).later ≡ Some later)) ⊎ IsMiddle rule (jump exponent (w.square i).level) w (w.square i).level (w.square i).quarters w later

pub right-grown : (rule : Rule) (e : ℕ) (v w : View) → IsKept v → Extends v w → ((i : ℕ) → i < w.squares → Remembers rule e v w i) →
    AreRight rule e v → AreRight rule e w
right-grown rule e v w kept ext remembers right i h later is =
    ⊎_elim
    (λ (old : (i < v.squares) × ((v.square i).later ≡ Some later)).
    let m : IsMiddle rule (jump e (v.square i).level) w (v.square i).level (v.square i).quarters w later =
    middle-extends rule _ v w _ _ later kept ext (kept.quarters i old.0) (right i old.0 later old.1) in
    let P : ℕ → Quarters → Type 0 = λ n q. IsMiddle rule (jump e n) w n q w later in
    let Q : ℕ → Type 0 = λ n. P n (w.square i).quarters in
    let R : Quarters → Type 0 = λ q. P (v.square i).level q in
    subst Q (sym (ext.level i old.0)) (subst R (sym (ext.quarters i old.0)) m))
    (λ (now : IsMiddle rule (jump e (w.square i).level) w (w.square i).level (w.square i).quarters w later). now)
    (remembers i h later is)
