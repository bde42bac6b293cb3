-- Cells of lists put into squares.
use Rattle.std.proofs.Common.{◌≡◌, ◌≢◌, ℕ, zero, suc, pos, ◌+ℤ◌, ◌+◌, ◌<◌, ◌≤◌, ◌⊎◌, inl, inr, ⊎_elim, true, false, ◌==◌, eqb-true, ◌||◌, List, [], ◌∷◌, ◌++◌, length, take, get_or, sym, refl, subst, ap, ◌∙◌, arith}
use Rattle.std.proofs.lemmas.Bool.{cases_eq}
use Rattle.std.proofs.lemmas.Int.{ints}
use Rattle.std.proofs.lemmas.List.{take_more}
use Rattle.std.specs.Cmp.{both_ways}
use Rattle.life_model.specs.Cell.{Cell}
use Rattle.life_model.specs.Generation.{Generation, contains, from_list, insert}
use Rattle.life_model.proofs.Cells.{cells_differ, pair}
use Rattle.life_model.proofs.Generations.{contains-insert, contains-empty}
use Rattle.life_plane.specs.Flags.{as_bit}
use Rattle.life_slots.specs.Kernels.Rows.{state}
use Rattle.life_slots.proofs.Members.{Has, has_head, has_none, has_front, has_back, has_parts, has_cases}
use Rattle.life_slots.proofs.Inserted.{list_more}
use Rattle.life_slots.proofs.Orders.{true_or_false}
use Rattle.life_slots.specs.declared.leaf.Leaf.{Leaf}
use Rattle.life_slots.specs.Leaves.{leaf_cell, ShowsLeaf}
use Rattle.life_advance.specs.declared.leaps.site.Site.{Site}
use Rattle.life_advance.specs.Leaps.Squares.{View, half, width, beyond, Shows, IsAt, IsKept, Extends}
use Rattle.life_advance.specs.Leaps.Cells.{IsInside, IsListed}
use Rattle.life_advance.specs.Leaps.Sites.{AreInside, IsPartOf, IsQuarterOf, corner}
use Rattle.life_advance.proofs.LeapsLemmas.RowLemmas.{moved, made, from_made}
use Rattle.life_advance.proofs.LeapsLemmas.CellLemmas.{Overlap, agree, from_has, overlap, shows_none, to_has}
use Rattle.life_advance.proofs.LeapsLemmas.Growth.{forth}
use Rattle.life_advance.specs.Leaps.Places.{empty_at}
use Rattle.life_board.proofs.Puts.{inserted_here}

pub listed_has : (cs : List Cell) (q : Cell) → IsListed cs q → Has cs q
unfolding Has
listed_has cs q h = h

pub has_listed : (cs : List Cell) (q : Cell) → Has cs q → IsListed cs q
unfolding Has
has_listed cs q h = h

-- ---- a leaf

inserted_else : (G : Generation) (c q : Cell) → (q ≡ c → ⊥) → contains (insert G c) q ≡ contains G q
inserted_else G c q other = contains-insert G c q ∙ ap (λ b. b || contains G q) (cells_differ q c other)

pub leaf_none : (leaf : Leaf) (p : Cell) → ((x y : ℕ) → leaf_cell leaf x y ≡ 0) → ShowsLeaf leaf (from_list []) p
leaf_none leaf p none = λ x y wide high. none x y ∙ sym (ap as_bit (contains-empty (beyond p x y)))

-- one cell made live
pub leaf_put : (before after : Leaf) (G : Generation) (p c : Cell) (x y : ℕ) → c ≡ beyond p x y → leaf_cell after x y ≡ 1 →
    ((a b : ℕ) → a < 32 → (a ≢ x) ⊎ (b ≢ y) → leaf_cell after a b ≡ leaf_cell before a b) →
    ShowsLeaf before G p → ShowsLeaf after (insert G c) p
leaf_put before after G p c x y is here others shows = λ a b wide high.
    ⊎_elim
    (λ (same_x : a ≡ x).
    ⊎_elim
    (λ (same_y : b ≡ y).
    (λ i. leaf_cell after (same_x i) (same_y i)) ∙ here
    ∙ sym (ap as_bit (ap (contains (insert G c)) ((λ i. beyond p (same_x i) (same_y i)) ∙ sym is) ∙ inserted_here G c)))
    (λ (other : b ≢ y). elsewhere a b wide high (inr other))
    (cases_eq b y))
    (λ (other : a ≢ x). elsewhere a b wide high (inl other))
    (cases_eq a x)
  where
    elsewhere : (a b : ℕ) → a < 32 → b < 32 → (a ≢ x) ⊎ (b ≢ y) → leaf_cell after a b ≡ state (insert G c) (beyond p a b)
    elsewhere a b wide high other =
        others a b wide other ∙ shows a b wide high
        ∙ sym (ap as_bit (inserted_else G c (beyond p a b) (λ e.
        let same : beyond p a b ≡ beyond p x y = e ∙ is in
        let across : (p.0 +ℤ pos a) ≡ (p.0 +ℤ pos x) = ap (λ (q : Cell). q.0) same in
        let down : (p.1 +ℤ pos b) ≡ (p.1 +ℤ pos y) = ap (λ (q : Cell). q.1) same in
        ⊎_elim (λ (o : a ≢ x). o (omega (arith, ints))) (λ (o : b ≢ y). o (omega (arith, ints))) other)))

-- a cell that is not in the leaf
pub leaf_passed : (leaf : Leaf) (G : Generation) (p c : Cell) → (IsInside 0 p c → ⊥) → ShowsLeaf leaf G p → ShowsLeaf leaf (insert G c) p
unfolding half
leaf_passed leaf G p c outside shows = λ x y wide high.
    shows x y wide high ∙ sym (ap as_bit (inserted_else G c (beyond p x y) (λ e. outside (record { x = x; y = y; wide = wide; high = high; is = sym e }))))

-- the loop's next set
pub next_set : (cs : List Cell) (i : ℕ) (d : Cell) → i < length cs → from_list (take (i + 1) cs) ≡ insert (from_list (take i cs)) (get_or cs i d)
next_set cs i d h = sym (list_more cs i d (get_or cs i d) (from_list (take i cs)) (insert (from_list (take i cs)) (get_or cs i d)) h refl refl refl)

-- ---- a part of a list

pub part_none : (cs : List Cell) (site : Site) → IsPartOf (take 0 cs) site []
part_none cs site = record { listed = λ q h. absurd (has_none q (listed_has [] q h)); all = λ q h inside. nothing cs q h }
  where
    nothing : (cs : List Cell) (q : Cell) → IsListed (take 0 cs) q → IsListed [] q
    nothing [] q h = h
    nothing (c ∷ cs) q h = h

last_is : (cs : List Cell) (c q : Cell) → Has (cs ++ c ∷ []) q → Has cs q ⊎ (q ≡ c)
last_is cs c q h =
    ⊎_elim (λ a. inl a) (λ b. ⊎_elim (λ (e : q ≡ c). inr e) (λ n. absurd (has_none q n)) (has_cases c q [] b)) (has_parts q cs (c ∷ []) h)

-- one cell more, which is taken
pub part_taken : (cs part : List Cell) (site : Site) (i : ℕ) (d : Cell) → i < length cs → IsPartOf (take i cs) site part →
    IsPartOf (take (i + 1) cs) site (part ++ get_or cs i d ∷ [])
part_taken cs part site i d h before =
    let c : Cell = get_or cs i d in
    let e : take (i + 1) cs ≡ take i cs ++ get_or cs i d ∷ [] = take_more cs i d h in
    let P : List Cell → Type 0 = λ l. IsPartOf l site (part ++ get_or cs i d ∷ []) in
    subst P (sym e) (record {
      listed = λ q l. has_listed _ q (⊎_elim
          (λ a. has_front q (take i cs) _ (listed_has _ q (before.listed q (has_listed _ q a))))
          (λ (f : q ≡ get_or cs i d). has_back q (take i cs) (get_or cs i d ∷ []) (let Q : Cell → Type 0 = λ x. Has (x ∷ []) q in subst Q f (has_head q [])))
          (last_is part (get_or cs i d) q (listed_has _ q l)));
      all = λ q l inside. has_listed _ q (⊎_elim
          (λ a. has_front q part _ (listed_has _ q (before.all q (has_listed _ q a) inside)))
          (λ (f : q ≡ get_or cs i d). has_back q part (get_or cs i d ∷ []) (let Q : Cell → Type 0 = λ x. Has (x ∷ []) q in subst Q f (has_head q [])))
          (last_is (take i cs) (get_or cs i d) q (listed_has _ q l)));
    })

-- one that is not in the square
pub part_passed : (cs part : List Cell) (site : Site) (i : ℕ) (d : Cell) → i < length cs → (IsInside site.level (corner site) (get_or cs i d) → ⊥) →
    IsPartOf (take i cs) site part → IsPartOf (take (i + 1) cs) site part
part_passed cs part site i d h outside before =
    let e : take (i + 1) cs ≡ take i cs ++ get_or cs i d ∷ [] = take_more cs i d h in
    let P : List Cell → Type 0 = λ l. IsPartOf l site part in
    subst P (sym e) (record {
      listed = λ q l. has_listed _ q (has_front q (take i cs) _ (listed_has _ q (before.listed q l)));
      all = λ q l inside. ⊎_elim
          (λ a. before.all q (has_listed _ q a) inside)
          (λ (f : q ≡ get_or cs i d). absurd (outside (let Q : Cell → Type 0 = λ x. IsInside site.level (corner site) x in subst Q f inside)))
          (last_is (take i cs) (get_or cs i d) q (listed_has _ q l));
    })

-- ---- a square of four parts

pub at_level : (v : View) (n m i : ℕ) → n ≡ m → IsAt v n i → IsAt v m i
at_level v n m i e h = let P : ℕ → Type 0 = λ k. IsAt v k i in subst P e h

pub part_shows : (v : View) (n i : ℕ) (cs part : List Cell) (site : Site) → site.level ≡ n → IsPartOf cs site part → Shows v n i (from_list part) (corner site) → Shows v n i (from_list cs) (corner site)
part_shows v n i cs part site e of shows =
    agree v n i (from_list part) (from_list cs) (corner site)
    (λ q inside. both_ways _ _
    (λ live. from_has cs q (listed_has cs q (of.listed q (has_listed part q (to_has part q live)))))
    (λ live. from_has part q (listed_has part q (of.all q (has_listed cs q (to_has cs q live)) (let P : ℕ → Type 0 = λ k. IsInside k (corner site) q in subst P (sym e) inside))))) shows

pub quarter_here : (v w : View) → IsKept v → Extends v w → (n i : ℕ) (cs : List Cell) (site quarter : Site) (x y a b : ℕ) → IsQuarterOf site quarter x y →
    quarter.level ≡ n → IsAt v quarter.level i → Shows v quarter.level i (from_list cs) (corner quarter) → x ≡ a → y ≡ b → Shows w n i (from_list cs) (beyond (corner site) a b)
quarter_here v w kept ext n i cs site quarter x y a b is level at shows e f =
    let s : Shows v quarter.level i (from_list cs) (beyond (corner site) x y) = moved v quarter.level i (from_list cs) _ _ is.corner shows in
    let t : Shows w quarter.level i (from_list cs) (beyond (corner site) x y) = forth v w kept ext (from_list cs) quarter.level i at (beyond (corner site) x y) s in
    let P : ℕ → Type 0 = λ k. Shows w k i (from_list cs) (beyond (corner site) x y) in
    let Q : Cell → Type 0 = λ p. Shows w n i (from_list cs) p in
    subst Q (λ j. beyond (corner site) (e j) (f j)) (subst P level t)

pub four_here : (w : View) (n m i : ℕ) (cs : List Cell) (site : Site) (a b c d : ℕ) → suc n ≡ m → (w.square i).quarters ≡ made a b c d →
    Shows w n a (from_list cs) (beyond (corner site) 0 0) → Shows w n b (from_list cs) (beyond (corner site) (width n) 0) →
    Shows w n c (from_list cs) (beyond (corner site) 0 (width n)) → Shows w n d (from_list cs) (beyond (corner site) (width n) (width n)) →
    Shows w m i (from_list cs) (corner site)
four_here w n m i cs site a b c d e is one two three four =
    let P : ℕ → Type 0 = λ k. Shows w k i (from_list cs) (corner site) in
    subst P e (from_made w n i (made a b c d) (from_list cs) (corner site) is (record {
      north_west = moved w n a (from_list cs) _ _ (pair (omega (arith, ints)) (omega (arith, ints))) one;
      north_east = two;
      south_west = three;
      south_east = four;
    }))

-- no cell
pub nothing_shown : (v : View) → IsKept v → (n i : ℕ) → n ≤ 21 → i ≡ empty_at n → (cs : List Cell) → cs ≡ [] → (p : Cell) → Shows v n i (from_list cs) p
nothing_shown v kept n i few is cs none p =
    let P : ℕ → Type 0 = λ k. Shows v n k (from_list cs) p in
    let Q : List Cell → Type 0 = λ l. Shows v n (empty_at n) (from_list l) p in
    subst P (sym is) (subst Q (sym none) (shows_none v kept n few (from_list []) p (λ q h. contains-empty q)))

pub empty_is_at : (v : View) → IsKept v → (n i : ℕ) → n ≤ 21 → i ≡ empty_at n → IsAt v n i
empty_is_at v kept zero i few is =
    let some : 0 < v.leaves = kept.some in
    omega arith
empty_is_at v kept (suc n) i few is =
    let many : 21 ≤ v.squares = kept.many in
    let e : i ≡ n = omega arith in
    let P : ℕ → Type 0 = λ k. IsAt v (suc n) k in
    subst P (sym e) (omega arith, kept.empty n (omega arith))

-- a leaf
pub leaf_here : (v : View) (n i : ℕ) (leaf : Leaf) (G : Generation) (p : Cell) → n ≡ 0 → i < v.leaves → v.leaf i ≡ leaf → ShowsLeaf leaf G p → (IsAt v n i) × Shows v n i G p
unfolding Shows
leaf_here v n i leaf G p e inside is shows =
    let P : ℕ → Type 0 = λ k. IsAt v k i × Shows v k i G p in
    let Q : Leaf → Type 0 = λ l. ShowsLeaf l G p in
    let R : Shows v 0 i G p = subst Q (sym is) shows in
    subst P (sym e) (inside, R)

pub empty_list : (cs : List Cell) → true ≡ (length cs == 0) → cs ≡ []
empty_list [] h = refl
empty_list (c ∷ cs) h = let e : length (c ∷ cs) ≡ 0 = eqb-true (length (c ∷ cs)) 0 (sym h) in absurd (omega arith)

-- ---- all cells in one quarter

pub inside_so_far : (cs : List Cell) (site : Site) → AreInside site (take 0 cs)
inside_so_far [] site q h = absurd (has_none q (listed_has [] q h))
inside_so_far (c ∷ cs) site q h = absurd (has_none q (listed_has [] q h))

pub inside_more : (cs : List Cell) (site : Site) (i : ℕ) (d : Cell) → i < length cs → AreInside site (take i cs) → IsInside site.level (corner site) (get_or cs i d) → AreInside site (take (i + 1) cs)
inside_more cs site i d h before here =
    let e : take (i + 1) cs ≡ take i cs ++ get_or cs i d ∷ [] = take_more cs i d h in
    let P : List Cell → Type 0 = λ l. AreInside site l in
    subst P (sym e) (λ q l. ⊎_elim
    (λ a. before q (has_listed _ q a))
    (λ (f : q ≡ get_or cs i d). let Q : Cell → Type 0 = λ x. IsInside site.level (corner site) x in subst Q (sym f) here)
    (last_is (take i cs) (get_or cs i d) q (listed_has _ q l)))

-- a square of the level beside it has none of them
pub none_beside : (v : View) → IsKept v → (n i : ℕ) → n ≤ 21 → i ≡ empty_at n → (cs : List Cell) (p : Cell) (a b : ℕ) → (width n ≤ a) ⊎ (width n ≤ b) →
    ((q : Cell) → IsListed cs q → IsInside n (beyond p 0 0) q) → Shows v n i (from_list cs) (beyond p a b)
none_beside v kept n i few is cs p a b beside first =
    let P : ℕ → Type 0 = λ k. Shows v n k (from_list cs) (beyond p a b) in
    subst P (sym is) (shows_none v kept n few (from_list cs) (beyond p a b) (λ q inside.
    ⊎_elim
    (λ (live : contains (from_list cs) q ≡ true).
    let both : Overlap n 0 0 a b = overlap n p q 0 0 a b (first q (has_listed cs q (to_has cs q live))) inside in
    ⊎_elim (λ (h : width n ≤ a). absurd (omega (arith, both.east))) (λ (h : width n ≤ b). absurd (omega (arith, both.south))) beside)
    (λ (dead : contains (from_list cs) q ≡ false). dead)
    (true_or_false (contains (from_list cs) q))))
