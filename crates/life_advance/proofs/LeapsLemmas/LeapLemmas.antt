-- Leaps of a set that one square shows.
use Rattle.std.proofs.Common.{◌≡◌, ℕ, zero, suc, ℤ, pos, negsuc, neg_ℤ, ◌+ℤ◌, ◌≤ℤ◌, ◌<ℤ◌, ◌+◌, ◌-◌, ◌*◌, ◌^◌, ◌%◌, ◌<◌, ◌≤◌, ◌⊎◌, inl, inr, ⊎_elim, min, true, false, sym, refl, subst, ap, ◌∙◌, arith}
use Rattle.std.proofs.lemmas.Int.{ints}
use Rattle.life_model.specs.Cell.{Cell}
use Rattle.life_model.specs.Rule.{Rule}
use Rattle.life_model.specs.Generation.{Generation, contains, from_list, cells}
use Rattle.life_model.specs.Evolution.{generation, next}
use Rattle.life_model.proofs.Cells.{pair}
use Rattle.life_cells.specs.Limits.{IsWithin}
use Rattle.life_cells.proofs.Within.{within_next}
use Rattle.life_advance.specs.Leaps.Planes.{farthest_age}
use Rattle.life_slots.proofs.Orders.{true_or_false}
use Rattle.life_advance.specs.declared.leaps.leaping.Leaper.{Leaper}
use Rattle.life_advance.specs.declared.leaps.store.Store.{Store}
use Rattle.life_advance.specs.Leaps.Leapers.{IsLeaper, cells_in}
use Rattle.life_advance.specs.Leaps.Stores.{view}
use Rattle.life_advance.specs.declared.leaps.square.Quarters.{Quarters}
use Rattle.life_advance.specs.Leaps.Places.{empty_at}
use Rattle.life_advance.specs.Leaps.Squares.{View, half, width, beyond, Shows, ShowsQuarters, IsAt, jump, IsMiddle, IsKept, Extends, Forgets, Grows}
use Rattle.life_advance.specs.Leaps.Cells.{cells_of, IsInside}
use Rattle.life_advance.specs.Leaps.Sites.{root_corner, root_level, wide_corner}
use Rattle.std.proofs.lemmas.Nat.{pow-add}
use Rattle.life_advance.proofs.LeapsLemmas.Forgotten.{forgets-extends, forgets-kept, forgets-right}
use Rattle.life_advance.proofs.LeapsLemmas.Growth.{either, forth, at-extends}
use Rattle.life_advance.proofs.LeapsLemmas.RowLemmas.{moved, half-suc, from_made, as_made, made}
use Rattle.life_advance.proofs.LeapsLemmas.CellLemmas.{known, shows_cells, shows_none, cells_inside, to_has}

-- ---- a store that grows

-- a square has the same cells in a store that grows
pub same_cells : (v w : View) → IsKept v → Extends v w → (n i : ℕ) → IsAt v n i → (p : Cell) → from_list (cells_of w n i p) ≡ from_list (cells_of v n i p)
same_cells v w kept extends n i at p =
    sym (known w n i (from_list (cells_of v n i p)) p (forth v w kept extends _ n i at p (shows_cells v n i p)) (λ q live. cells_inside v n i p q (to_has _ q live)))

-- ---- places at an age

pub within_generation : (rule : Rule) (G : Generation) (age t : ℕ) → ((q : Cell) → contains G q ≡ true → IsWithin age q) →
    (q : Cell) → contains (generation rule G t) q ≡ true → IsWithin (t + age) q
unfolding generation
within_generation rule G age zero before q live = let P : ℕ → Type 0 = λ a. IsWithin a q in let e : age ≡ 0 + age = omega arith in subst P e (before q live)
within_generation rule G age (suc t) before q live =
    let P : ℕ → Type 0 = λ a. IsWithin a q in
    let e : t + age + 1 ≡ suc t + age = omega arith in
    subst P e (within_next rule (generation rule G t) (generation rule G (suc t)) (t + age) refl (λ c h. within_generation rule G age t before c h) q live)

offset : (d : ℤ) → pos 0 ≤ℤ d → d <ℤ pos 33554432 → (x : ℕ) × (x < 33554432) × (d ≡ pos x)
offset (pos n) low high = (n, omega (arith, ints), refl)
offset (negsuc n) low high = absurd (omega (arith, ints))

pub root-wide : width root_level ≡ 33554432
unfolding half
root-wide = refl

pub inside_root : (age : ℕ) → age ≤ farthest_age → (q : Cell) → IsWithin age q → IsInside root_level root_corner q
inside_root age young q h =
    let left : neg_ℤ (pos age) ≤ℤ q.0 = h.left in
    let right : q.0 ≤ℤ pos (1048575 + age) = h.right in
    let above : neg_ℤ (pos age) ≤ℤ q.1 = h.above in
    let below : q.1 ≤ℤ pos (1048575 + age) = h.below in
    let x = offset (q.0 +ℤ pos 16777216) (omega (arith, ints)) (omega (arith, ints)) in
    let y = offset (q.1 +ℤ pos 16777216) (omega (arith, ints)) (omega (arith, ints)) in
    let x_is : (q.0 +ℤ pos 16777216) ≡ pos x.0 = x.2 in
    let y_is : (q.1 +ℤ pos 16777216) ≡ pos y.0 = y.2 in
    record {
      x = x.0;
      y = y.0;
      wide = let a : x.0 < 33554432 = x.1 in let e : width root_level ≡ 33554432 = root-wide in omega arith;
      high = let a : y.0 < 33554432 = y.1 in let e : width root_level ≡ 33554432 = root-wide in omega arith;
      is = pair (omega (arith, ints)) (omega (arith, ints));
    }

-- ---- the same cells in a square twice as wide

-- one row or column around the middle
module _ (v : View) (kept : IsKept v) (n : ℕ) (few : suc n ≤ 21) (G : Generation) (w : Cell)
    (inside : (q : Cell) → contains G q ≡ true → IsInside (suc n) (beyond w (width n) (width n)) q) where
  -- a quarter of a quarter in which no cell of the set stands
  pub void : (a b : ℕ) → ((a + width n ≤ width n) ⊎ (3 * width n ≤ a)) ⊎ ((b + width n ≤ width n) ⊎ (3 * width n ≤ b)) → Shows v n (empty_at n) G (beyond w a b)
  void a b far =
      shows_none v kept n (omega arith) G (beyond w a b) (λ q here.
      ⊎_elim
      (λ (live : contains G q ≡ true).
      let k : IsInside (suc n) (beyond w (width n) (width n)) q = inside q live in
      let e : width (suc n) ≡ 2 * width n = ap (λ m. 2 * m) (half-suc n) in
      let k_wide : k.x < width (suc n) = k.wide in
      let k_high : k.y < width (suc n) = k.high in
      let h_wide : here.x < width n = here.wide in
      let h_high : here.y < width n = here.high in
      let same : beyond (beyond w a b) here.x here.y ≡ beyond (beyond w (width n) (width n)) k.x k.y = sym here.is ∙ k.is in
      let x : ((w.0 +ℤ pos a) +ℤ pos here.x) ≡ ((w.0 +ℤ pos (width n)) +ℤ pos k.x) = ap (λ (c : Cell). c.0) same in
      let y : ((w.1 +ℤ pos b) +ℤ pos here.y) ≡ ((w.1 +ℤ pos (width n)) +ℤ pos k.y) = ap (λ (c : Cell). c.1) same in
      let x_is : a + here.x ≡ width n + k.x = omega (arith, ints) in
      let y_is : b + here.y ≡ width n + k.y = omega (arith, ints) in
      absurd (⊎_elim
      (λ (c : (a + width n ≤ width n) ⊎ (3 * width n ≤ a)). ⊎_elim (λ (f : a + width n ≤ width n). omega arith) (λ (f : 3 * width n ≤ a). omega arith) c)
      (λ (r : (b + width n ≤ width n) ⊎ (3 * width n ≤ b)). ⊎_elim (λ (f : b + width n ≤ width n). omega arith) (λ (f : 3 * width n ≤ b). omega arith) r)
      far))
      (λ (dead : contains G q ≡ false). dead)
      (true_or_false (contains G q)))

  module _ (q : Quarters) (s : ShowsQuarters v n q G (beyond w (width n) (width n))) where
    pub north_west-padded : ShowsQuarters v n (made (empty_at n) (empty_at n) (empty_at n) q.north_west) G w
    north_west-padded = record {
      north_west = moved v n _ G _ _ (pair (omega (arith, ints)) (omega (arith, ints))) (void 0 0 (inl (inl (omega arith))));
      north_east = void (width n) 0 (inr (inl (omega arith)));
      south_west = void 0 (width n) (inl (inl (omega arith)));
      south_east = s.north_west;
    }

    pub north_east-padded : ShowsQuarters v n (made (empty_at n) (empty_at n) q.north_east (empty_at n)) G (beyond w (width (suc n)) 0)
    north_east-padded =
        let e : width (suc n) ≡ 2 * width n = ap (λ m. 2 * m) (half-suc n) in
        record {
          north_west = void (width (suc n)) 0 (inr (inl (omega arith)));
          north_east = moved v n _ G _ _ (pair (omega (arith, ints)) (omega (arith, ints))) (void (3 * width n) 0 (inr (inl (omega arith))));
          south_west = moved v n _ G _ _ (pair (omega (arith, ints)) (omega (arith, ints))) s.north_east;
          south_east = moved v n _ G _ _ (pair (omega (arith, ints)) (omega (arith, ints))) (void (3 * width n) (width n) (inl (inr (omega arith))));
        }

    pub south_west-padded : ShowsQuarters v n (made (empty_at n) q.south_west (empty_at n) (empty_at n)) G (beyond w 0 (width (suc n)))
    south_west-padded =
        let e : width (suc n) ≡ 2 * width n = ap (λ m. 2 * m) (half-suc n) in
        record {
          north_west = void 0 (width (suc n)) (inl (inl (omega arith)));
          north_east = moved v n _ G _ _ (pair (omega (arith, ints)) (omega (arith, ints))) s.south_west;
          south_west = moved v n _ G _ _ (pair (omega (arith, ints)) (omega (arith, ints))) (void 0 (3 * width n) (inl (inl (omega arith))));
          south_east = moved v n _ G _ _ (pair (omega (arith, ints)) (omega (arith, ints))) (void (width n) (3 * width n) (inr (inr (omega arith))));
        }

    pub south_east-padded : ShowsQuarters v n (made q.south_east (empty_at n) (empty_at n) (empty_at n)) G (beyond w (width (suc n)) (width (suc n)))
    south_east-padded =
        let e : width (suc n) ≡ 2 * width n = ap (λ m. 2 * m) (half-suc n) in
        record {
          north_west = moved v n _ G _ _ (pair (omega (arith, ints)) (omega (arith, ints))) s.south_east;
          north_east = moved v n _ G _ _ (pair (omega (arith, ints)) (omega (arith, ints))) (void (3 * width n) (2 * width n) (inl (inr (omega arith))));
          south_west = moved v n _ G _ _ (pair (omega (arith, ints)) (omega (arith, ints))) (void (2 * width n) (3 * width n) (inr (inr (omega arith))));
          south_east = moved v n _ G _ _ (pair (omega (arith, ints)) (omega (arith, ints))) (void (3 * width n) (3 * width n) (inr (inr (omega arith))));
        }

    -- the square of these four
    pub all-padded : (a b c d i : ℕ) → (v.square a).quarters ≡ made (empty_at n) (empty_at n) (empty_at n) q.north_west →
        (v.square b).quarters ≡ made (empty_at n) (empty_at n) q.north_east (empty_at n) →
        (v.square c).quarters ≡ made (empty_at n) q.south_west (empty_at n) (empty_at n) →
        (v.square d).quarters ≡ made q.south_east (empty_at n) (empty_at n) (empty_at n) →
        (v.square i).quarters ≡ made a b c d → Shows v (suc (suc n)) i G w
    all-padded a b c d i e f g h all =
        from_made v (suc n) i (made a b c d) G w all (record {
          north_west = from_made v n a _ G _ e north_west-padded;
          north_east = from_made v n b _ G _ f north_east-padded;
          south_west = from_made v n c _ G _ g south_west-padded;
          south_east = from_made v n d _ G _ h south_east-padded;
        })

-- ---- the leap

root-half : half root_level ≡ 16777216
unfolding half
root-half = refl

root-middle : beyond (neg_ℤ (pos 33554432), neg_ℤ (pos 33554432)) (half root_level) (half root_level) ≡ root_corner
root-middle = let h : half root_level ≡ 16777216 = root-half in pair (omega (arith, ints)) (omega (arith, ints))

-- what the middle of the wide square becomes is all that the set becomes
pub leapt : (rule : Rule) (v w : View) (q : Quarters) (wide root : ℕ) (G : Generation) (p : Cell) (t age : ℕ) →
    p ≡ (neg_ℤ (pos 33554432), neg_ℤ (pos 33554432)) → (v.square wide).quarters ≡ q →
    Shows v (suc root_level) wide G p → IsMiddle rule t v root_level q w root →
    ((c : Cell) → contains G c ≡ true → IsWithin age c) → t + age ≤ farthest_age →
    from_list (cells_of w root_level root root_corner) ≡ generation rule G t
leapt rule v w q wide root G p t age place is shows middle within young =
    let P : Quarters → Type 0 = λ r. ShowsQuarters v root_level r G p in
    let s : ShowsQuarters v root_level q G p = subst P is (as_made v root_level wide G p shows) in
    let Q : Cell → Type 0 = λ c. Shows w root_level root (generation rule G t) c in
    let e : beyond p (half root_level) (half root_level) ≡ root_corner = ap (λ c. beyond c (half root_level) (half root_level)) place ∙ root-middle in
    sym (known w root_level root (generation rule G t) root_corner (subst Q e (middle.shows G p s))
    (λ c live. inside_root (t + age) young c (within_generation rule G age t within c live)))

-- ---- what a leaper keeps

pub grown-cells : (l : Leaper) → IsLeaper l → (store : Store) → Extends (view l.store) (view store) → cells_in (record l { store = store }) ≡ cells_in l
unfolding cells_in
grown-cells l kept store extends = same_cells (view l.store) (view store) kept.ready.kept extends root_level l.root kept.at root_corner

pub grown-kept : (l : Leaper) → IsLeaper l → (store : Store) → Grows l.step.rule l.step.exponent (view l.store) (view store) → IsLeaper (record l { store = store })
grown-kept l kept store grows = record {
  ready = record { logic = kept.ready.logic; kept = grows.kept; right = grows.right kept.ready.right };
  at = at-extends (view l.store) (view store) grows.extends root_level l.root kept.at;
  young = kept.young;
  within = λ q live. kept.within q (sym (ap (λ (G : Generation). contains G q) (grown-cells l kept store grows.extends)) ∙ live);
}

-- a power of two that an age allows
pub small_exponent : (n age : ℕ) → age + 2 ^ n ≤ farthest_age → n ≤ 23
small_exponent n age h =
    ⊎_elim
    (λ (low : n < 24). omega arith)
    (λ (high : 24 ≤ n).
    let rest : n ≡ (n - 24) + 24 = omega arith in
    let e : 2 ^ n ≡ 2 ^ (n - 24) * 2 ^ 24 = ap (λ k. 2 ^ k) rest ∙ pow-add 2 (n - 24) 24 in
    let one : 1 ≤ 2 ^ (n - 24) = pow-one (n - 24) in
    absurd (omega arith))
    (either n 24)
  where
    pow-twice : (k : ℕ) → 2 ^ suc k ≡ 2 * 2 ^ k
    pow-twice k = grind arith

    pow-one : (k : ℕ) → 1 ≤ 2 ^ k
    pow-one zero = omega arith
    pow-one (suc k) = let h : 1 ≤ 2 ^ k = pow-one k in let e : 2 ^ suc k ≡ 2 * 2 ^ k = pow-twice k in omega arith

pub prepared-kept : (l : Leaper) → IsLeaper l → (s : Store) (e w least : ℕ) → Forgets least (view l.store) (view s) →
    ((n : ℕ) → n < least → min l.step.exponent (n + 4) ≡ min e (n + 4)) →
    IsLeaper (record l { store = s; step = record l.step { exponent = e; work = w } })
unfolding cells_in
prepared-kept l kept s e w least forgets alike =
    let ext : Extends (view l.store) (view s) = forgets-extends least (view l.store) (view s) forgets in
    record {
      ready = record {
        logic = kept.ready.logic;
        kept = forgets-kept least (view l.store) (view s) kept.ready.kept forgets;
        right = forgets-right l.step.rule l.step.exponent e least (view l.store) (view s) kept.ready.kept forgets kept.ready.right alike;
      };
      at = at-extends (view l.store) (view s) ext root_level l.root kept.at;
      young = kept.young;
      within = λ q live. kept.within q (sym (ap (λ (G : Generation). contains G q) (grown-cells l kept s ext)) ∙ live);
    }

pub prepared-cells : (l : Leaper) → IsLeaper l → (s : Store) (e w least : ℕ) → Forgets least (view l.store) (view s) →
    cells_in (record l { store = s; step = record l.step { exponent = e; work = w } }) ≡ cells_in l
unfolding cells_in
prepared-cells l kept s e w least forgets = grown-cells l kept s (forgets-extends least (view l.store) (view s) forgets)

-- the leap made
pub leapt-cells : (l : Leaper) → IsLeaper l → (s r : Store) (q : Quarters) (wide root exponent : ℕ) →
    ((G : Generation) → Shows (view l.store) root_level l.root G root_corner → ((c : Cell) → contains G c ≡ true → IsInside root_level root_corner c) → Shows (view s) (suc root_level) wide G wide_corner) →
    ((view s).square wide).quarters ≡ q →
    IsMiddle l.step.rule (jump l.step.exponent root_level) (view s) root_level q (view r) root →
    l.step.exponent ≡ exponent → l.age + 2 ^ exponent ≤ farthest_age →
    from_list (cells_of (view r) root_level root root_corner) ≡ generation l.step.rule (cells_in l) (2 ^ exponent)
unfolding cells_in
leapt-cells l kept s r q wide root exponent shows is middle e young =
    let small : exponent ≤ 23 = small_exponent exponent l.age young in
    let least : min l.step.exponent (root_level + 4) ≡ exponent = omega arith in
    let t : jump l.step.exponent root_level ≡ 2 ^ exponent = ap (λ k. 2 ^ k) least in
    let P : ℕ → Type 0 = λ k. IsMiddle l.step.rule k (view s) root_level q (view r) root in
    leapt l.step.rule (view s) (view r) q wide root (cells_in l) wide_corner (2 ^ exponent) l.age refl is
    (shows (cells_in l) (shows_cells (view l.store) root_level l.root root_corner) (λ c live. cells_inside (view l.store) root_level l.root root_corner c (to_has _ c live)))
    (subst P t middle) kept.within (omega arith)

pub power_fits : (n age : ℕ) → age + 2 ^ n ≤ farthest_age → 1 * 2 ^ n % 4294967296 ≡ 2 ^ n
power_fits n age h = omega arith

-- a leaper after a leap
pub leapt-kept : (l : Leaper) → IsLeaper l → (r : Store) (root age t : ℕ) → Grows l.step.rule l.step.exponent (view l.store) (view r) → IsAt (view r) root_level root →
    from_list (cells_of (view r) root_level root root_corner) ≡ generation l.step.rule (cells_in l) t → age ≡ l.age + t → l.age + t ≤ farthest_age →
    IsLeaper (record l { store = r; root = root; age = age })
unfolding cells_in
leapt-kept l kept r root age t grows at cells is young = record {
  ready = record { logic = kept.ready.logic; kept = grows.kept; right = grows.right kept.ready.right };
  at = at;
  young = omega arith;
  within = λ q live.
      let P : ℕ → Type 0 = λ a. IsWithin a q in
      let e : t + l.age ≡ age = omega arith in
      subst P e (within_generation l.step.rule (cells_in l) l.age t kept.within q (sym (ap (λ (G : Generation). contains G q) cells) ∙ live));
}
