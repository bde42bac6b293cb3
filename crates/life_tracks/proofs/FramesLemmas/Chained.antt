-- Cells that are near each other, by their numbers, and forests that join their places.
use Rattle.std.proofs.Common.{◌≡◌, ℕ, zero, suc, ◌+◌, ◌-◌, ◌^◌, ◌<◌, ◌≤◌, ℤ, pos, ◌+ℤ◌, ◌-ℤ◌, ◌≤ℤ◌, int_lt, true, false, T, List, length, get_or, inl, inr, sym, refl, ap, subst, ◌∙◌, arith}
use Rattle.std.specs.List.{All}
use Rattle.std.proofs.lemmas.Bool.{cases_lt}
use Rattle.std.proofs.lemmas.Int.{ints}
use Rattle.life_model.specs.Cell.{Cell, origin}
use Rattle.life_model.specs.Generation.{Generation, cells, is_rising}
use Rattle.life_objects.specs.Apart.{AreNear}
use Rattle.life_objects.proofs.Distances.{AreNear-swap}
use Rattle.life_objects.proofs.Ring.{near_itself}
use Rattle.life_cells.specs.Limits.{IsPlace}
use Rattle.life_classes.specs.Forest.{root}
use Rattle.life_classes.specs.Tags.{place_number}
use Rattle.life_classes.proofs.Lookups.{either}
use Rattle.life_classes.proofs.RowsRise.{Rise, numbers_rise}
use Rattle.life_islands.proofs.Labelled.{listed_cell}
use Rattle.life_tracks.specs.Frames.Bearers.{IsBearer}
use Rattle.life_tracks.specs.Frames.Nearby.{AreJoinedByNear, IsAbove, IsJoinedAround, IsJoinedAt, IsJoinedNear, number_at}
use Rattle.life_tracks.specs.Frames.Ties.{IsUnited}
use Rattle.life_tracks.proofs.FramesLemmas.Tying.{further_itself, further_through, further_united, tied_more}

-- ---- which cells are near

module _ (c d : Cell) (p : IsPlace c) (q : IsPlace d) where
  pub near_in_row : place_number c ≤ℤ place_number d → (place_number d -ℤ pos 2) ≤ℤ place_number c → AreNear c d
  near_in_row less close =
      let a = p.left in
      let b = p.right in
      let e = q.left in
      let f = q.right in
      record { left = omega (arith, ints); right = omega (arith, ints); above = omega (arith, ints); below = omega (arith, ints) }

  near_one_above : (number : ℤ) → number ≡ (place_number d -ℤ pos (2 ^ 31)) → (number -ℤ pos 2) ≤ℤ place_number c →
      place_number c ≤ℤ (number +ℤ pos 2) → AreNear c d
  near_one_above number is from to =
      let a = p.left in
      let b = p.right in
      let e = q.left in
      let f = q.right in
      record { left = omega (arith, ints); right = omega (arith, ints); above = omega (arith, ints); below = omega (arith, ints) }

  near_two_above : (number : ℤ) → number ≡ (place_number d -ℤ pos (2 ^ 32)) → (number -ℤ pos 2) ≤ℤ place_number c →
      place_number c ≤ℤ (number +ℤ pos 2) → AreNear c d
  near_two_above number is from to =
      let a = p.left in
      let b = p.right in
      let e = q.left in
      let f = q.right in
      record { left = omega (arith, ints); right = omega (arith, ints); above = omega (arith, ints); below = omega (arith, ints) }

pub less_by_test : (x t : ℤ) → int_lt x t ≡ true → x ≤ℤ t
less_by_test x t e = grind (arith, ints)

pub least_by_test : (x t : ℤ) → int_lt x t ≡ false → t ≤ℤ x
least_by_test x t e = grind (arith, ints)

module _ (G : Generation) (placed : All IsPlace (cells G)) where
  abbrev cell : ℕ → Cell
  cell n = get_or (cells G) n origin

  pub near_by_number : (n at : ℕ) (number : ℤ) → n < length (cells G) → at < length (cells G) → IsAbove G n number →
      (number -ℤ pos 2) ≤ℤ number_at G at → number_at G at ≤ℤ (number +ℤ pos 2) → AreNear (cell at) (cell n)
  near_by_number n at number h k above from to = elim above.rows [
    | inl one ↦
        near_one_above (cell at) (cell n) (placed at origin k) (placed n origin h) number
        (above.is ∙ ap (λ r. number_at G n -ℤ r) one) from to
    | inr two ↦
        near_two_above (cell at) (cell n) (placed at origin k) (placed n origin h) number
        (above.is ∙ ap (λ r. number_at G n -ℤ r) two) from to
  ]

-- ---- what is joined because it is near

module _ (G : Generation) where
  pub nearer_itself : (f : List ℕ) → AreJoinedByNear G f f
  nearer_itself f = record { further = further_itself f; tied = λ Ss holds tied. tied }

  pub nearer_through : (f g h : List ℕ) → AreJoinedByNear G f g → AreJoinedByNear G g h → AreJoinedByNear G f h
  nearer_through f g h a b = record {
    further = further_through f g h a.further b.further;
    tied = λ Ss holds tied. b.tied Ss holds (a.tied Ss holds tied);
  }

  itself_bears : (n : ℕ) → n < length (cells G) → IsBearer G (get_or (cells G) n origin) n
  itself_bears n h = record { within = h; near = near_itself (get_or (cells G) n origin); own = λ k. refl }

  pub nearer_united : (f g : List ℕ) (one other : ℕ) → one < length (cells G) → other < length (cells G) →
      AreNear (get_or (cells G) one origin) (get_or (cells G) other origin) → IsUnited f g one other → AreJoinedByNear G f g
  nearer_united f g one other h k near united =
      let c = get_or (cells G) one origin in
      let d = get_or (cells G) other origin in
      record {
        further = further_united f g one other united;
        tied = λ Ss holds tied.
            let S = holds c d (listed_cell G (cells G) one refl h) (listed_cell G (cells G) other refl k) near in
            tied_more G Ss f g one other S.0 c d S.1 S.2 S.3 (itself_bears one h) (itself_bears other k) united tied;
      }

  -- ---- what was joined stays so

  around_still : (f g : List ℕ) (n : ℕ) (number : ℤ) → AreJoinedByNear G f g → IsJoinedAround G f n number →
      IsJoinedAround G g n number
  around_still f g n number a at = record {
    place = at.place;
    parts = at.parts;
    next = λ h k. a.further.coarser at.place n (at.next h k);
    last = λ h k. a.further.coarser (at.place - 1) n (at.last h k);
  }

  at_still : (f g : List ℕ) (n : ℕ) → AreJoinedByNear G f g → IsJoinedAt G f n → IsJoinedAt G g n
  at_still f g n a at = record {
    before = λ h k. a.further.coarser (n - 1) n (at.before h k);
    above = around_still f g n (number_at G n -ℤ pos (2 ^ 31)) a at.above;
    further = around_still f g n (number_at G n -ℤ pos (2 ^ 32)) a at.further;
  }

  pub one_above : (cs : List Cell) (n : ℕ) (number : ℤ) → cs ≡ cells G →
      number ≡ (place_number (get_or cs n origin) -ℤ pos (2 ^ 31)) → IsAbove G n number
  one_above cs n number is here = record {
    row = pos (2 ^ 31);
    rows = inl refl;
    is = here ∙ ap (λ xs. place_number (get_or xs n origin) -ℤ pos (2 ^ 31)) is;
  }

  pub two_above : (cs : List Cell) (n : ℕ) (number : ℤ) → cs ≡ cells G →
      number ≡ (place_number (get_or cs n origin) -ℤ pos (2 ^ 32)) → IsAbove G n number
  two_above cs n number is here = record {
    row = pos (2 ^ 32);
    rows = inr refl;
    is = here ∙ ap (λ xs. place_number (get_or xs n origin) -ℤ pos (2 ^ 32)) is;
  }

  -- one join after another
  pub joined_at : (f g h : List ℕ) (cs : List Cell) (n : ℕ) (a b : ℤ) → cs ≡ cells G → AreJoinedByNear G f g →
      AreJoinedByNear G g h →
      (0 < n → (number_at G n -ℤ pos 2) ≤ℤ number_at G (n - 1) → root f (n - 1) ≡ root f n) → IsJoinedAround G g n a →
      IsJoinedAround G h n b → a ≡ (place_number (get_or cs n origin) -ℤ pos (2 ^ 31)) →
      b ≡ (place_number (get_or cs n origin) -ℤ pos (2 ^ 32)) → IsJoinedAt G h n
  joined_at f g h cs n a b is first second before above further one two = record {
    before = λ some close. second.further.coarser (n - 1) n (first.further.coarser (n - 1) n (before some close));
    above = around_still g h n (number_at G n -ℤ pos (2 ^ 31)) second
        (subst (IsJoinedAround G g n) (one ∙ ap (λ xs. place_number (get_or xs n origin) -ℤ pos (2 ^ 31)) is) above);
    further = subst (IsJoinedAround G h n) (two ∙ ap (λ xs. place_number (get_or xs n origin) -ℤ pos (2 ^ 32)) is) further;
  }

  pub one_more_at : (f g : List ℕ) (n : ℕ) → AreJoinedByNear G f g → IsJoinedAt G g n →
      ((k : ℕ) → k < n → IsJoinedAt G f k) → (k : ℕ) → k < n + 1 → IsJoinedAt G g k
  one_more_at f g n a here all k below = elim (cases_lt k n) [
    | inl before ↦ at_still f g k a (all k before)
    | inr past ↦
        let same : n ≡ k = omega arith in
        subst (IsJoinedAt G g) same here
  ]

  -- ---- all that are near each other are joined

  module _ (placed : All IsPlace (cells G)) (rise : Rise place_number (cells G)) (f : List ℕ)
      (all : (k : ℕ) → k < length (cells G) → IsJoinedAt G f k) where
    -- cells at most two apart in a row, joined through those between them
    chained : (k m : ℕ) → m ≤ k → k < length (cells G) → (number_at G k -ℤ pos 2) ≤ℤ number_at G m → root f m ≡ root f k
    chained zero m low inside close =
        let same : m ≡ 0 = omega arith in
        ap (root f) same
    chained (suc k) m low inside close = elim (cases_lt m (suc k)) [
      | inl before ↦
          let up = rise m k origin (omega arith) (omega arith) in
          let more = rise k (suc k) origin (omega arith) inside in
          let less : suc k - 1 ≡ k = omega arith in
          chained k m (omega arith) (omega arith) (omega (arith, ints))
          ∙ subst (λ j. (number_at G (suc k) -ℤ pos 2) ≤ℤ number_at G j → root f j ≡ root f (suc k)) less
          ((all (suc k) inside).before (omega arith)) (omega (arith, ints))
      | inr past ↦
          let same : m ≡ suc k = omega arith in
          ap (root f) same
    ]

    around_joined : (n m : ℕ) (number : ℤ) → IsJoinedAround G f n number → m < length (cells G) →
        (number -ℤ pos 2) ≤ℤ number_at G m → number_at G m ≤ℤ (number +ℤ pos 2) → root f m ≡ root f n
    around_joined n m number at inside from to = elim (cases_lt m at.place) [
      | inl before ↦
          let within = at.parts.within in
          let up = rise m (at.place - 1) origin (omega arith) (omega arith) in
          let less : number_at G (at.place - 1) ≤ℤ number = less_by_test _ _ (at.parts.before (at.place - 1) origin (omega arith)) in
          chained (at.place - 1) m (omega arith) (omega arith) (omega (arith, ints)) ∙ at.last (omega arith) (omega (arith, ints))
      | inr past ↦
          let up = rise at.place m origin (omega arith) inside in
          let least : number ≤ℤ number_at G at.place = least_by_test _ _ (at.parts.after at.place origin (omega arith) (omega arith)) in
          sym (chained m at.place (omega arith) inside (omega (arith, ints))) ∙ at.next (omega arith) (omega (arith, ints))
    ]

    in_order : (m k : ℕ) → m ≤ k → k < length (cells G) →
        AreNear (get_or (cells G) m origin) (get_or (cells G) k origin) → root f m ≡ root f k
    in_order m k low inside near =
        let c = get_or (cells G) m origin in
        let d = get_or (cells G) k origin in
        let up = rise m k origin low inside in
        let p = placed m origin (omega arith) in
        let q = placed k origin inside in
        let cl = p.left in
        let cr = p.right in
        let dl = q.left in
        let dr = q.right in
        let left = near.left in
        let right = near.right in
        let above = near.above in
        let below = near.below in
        elim (either d.1 c.1) [
          | inl level ↦ chained k m low inside (omega (arith, ints))
          | inr higher ↦ elim (either d.1 (c.1 +ℤ pos 1)) [
            | inl one ↦
                around_joined k m (number_at G k -ℤ pos (2 ^ 31)) (all k inside).above (omega arith) (omega (arith, ints)) (omega (arith, ints))
            | inr two ↦
                around_joined k m (number_at G k -ℤ pos (2 ^ 32)) (all k inside).further (omega arith) (omega (arith, ints)) (omega (arith, ints))
          ]
        ]

    near_joined : IsJoinedNear G f
    near_joined m k h l near = elim (cases_lt k m) [
      | inl before ↦
          sym (in_order k m (omega arith) h (AreNear-swap (get_or (cells G) m origin) (get_or (cells G) k origin) near))
      | inr past ↦ in_order m k (omega arith) l near
    ]

pub near_joined_by : (G : Generation) (cs : List Cell) (f : List ℕ) (n : ℕ) → cs ≡ cells G → T (is_rising cs) →
    All IsPlace cs → length cs ≤ n → ((k : ℕ) → k < n → IsJoinedAt G f k) → IsJoinedNear G f
near_joined_by G cs f n is rising placed past all =
    let long = ap length is in
    near_joined G (subst (All IsPlace) is placed) (subst (Rise place_number) is (numbers_rise cs rising placed)) f
    (λ k h. all k (omega arith))
