-- Which labels the cells of the next generation have.
use Rattle.std.proofs.Common.{◌≡◌, ℕ, suc, ◌<◌, ◌≤◌, ◌==◌, true, false, ◌&&◌, List, length, get_or, inl, inr, sym, refl, ap, subst, ◌∙◌, arith, eqb-true, eq-eqb}
use Rattle.std.specs.Cmp as cmp
use Rattle.std.specs.List.{All}
use Rattle.std.proofs.lemmas.Int.{ints}
use Rattle.std.proofs.lemmas.Bool.{and_from, and_parts, both_ways, cases_lt, false_from_ne_true}
use Rattle.std.proofs.lemmas.List.{get_or_default}
use Rattle.life_model.specs.Cell.{Cell, IsNear, origin, plus}
use Rattle.life_model.specs.Rule.{Rule, born, stays}
use Rattle.life_model.specs.Generation.{Generation, cells, contains, empty}
use Rattle.life_model.specs.Evolution.{count_at, generation, next}
use Rattle.life_model.proofs.Near.{next_near}
use Rattle.life_cells.specs.Limits.{IsPlace}
use Rattle.life_parts.specs.Parts.Apart.{AreHeldApart, HaveBoth}
use Rattle.life_parts.specs.Parts.Groups.{ColoursIslands, IsAround, IsFair, bears, in_group}
use Rattle.life_parts.specs.Parts.Ties.{AreTied, bearing, staying}
use Rattle.life_parts.proofs.PartsLemmas.Around.{count_at-alike, next-born, next-stays}
use Rattle.life_parts.proofs.PartsLemmas.Classed.{of_bearing, of_group, one_group_is_fair, to_group}
use Rattle.life_islands.specs.declared.colours.Seat.{Seat}
use Rattle.life_islands.specs.declared.labels.Labels.{Labels}
use Rattle.life_classes.specs.Forest.{root}
use Rattle.life_islands.specs.Heirs.{IsBorneBy, IsHeir}
use Rattle.life_islands.specs.Labels.{Fits, label_of, mark_of, sets_of}
use Rattle.life_islands.specs.Reach.{IsInReach}
use Rattle.life_islands.specs.Seats.{AreSeats, bears_at, cell_at, count_colour, listed, seat, set_at}
use Rattle.life_islands.specs.Splits.{AreTiedWithin}
use Rattle.life_islands.proofs.Colouring.{count_to-alike}
use Rattle.life_classes.proofs.Forests.{root-root}
use Rattle.life_islands.proofs.Labelled.{contains-set, in_its_set, in_set, its_set_listed, length-sets, listed_cell, mark-at, mark_by_whole, marked, of_set, place_in_list, whole_by_mark}
use Rattle.life_islands.proofs.Linked.{seat_around, seat_of_cell}
use Rattle.life_islands.proofs.Seated.{count-numbered}

-- ---- what is near a list of cells

-- a cell near a place of a list of cells is in reach
reach_near : (g c : Cell) → IsPlace g → IsNear c g → IsInReach c
reach_near g c at near =
    let left = at.left in
    let right = at.right in
    let above = at.above in
    let below = at.below in
    let n_left = near.left in
    let n_right = near.right in
    let n_above = near.above in
    let n_below = near.below in
    record { left = omega (arith, ints); right = omega (arith, ints); above = omega (arith, ints); below = omega (arith, ints) }

-- a cell of the next generation of a list of cells is in reach
pub next_in_reach : (R : Rule) (G : Generation) (items : List Cell) → items ≡ cells G → All IsPlace items → (x : Cell) →
    contains (next R G) x ≡ true → IsInReach x
next_in_reach R G items is placed x h =
    let g = next_near R G x h in
    let at = place_in_list G items is g.0 g.1 in
    reach_near g.0 x (subst IsPlace at.2 (placed at.0 origin at.1)) g.2

-- what is live in the next generation once moved, for each cell of another list
pub moved_live : (R : Rule) (G H : Generation) (by : Cell) → ((c : Cell) → contains H c ≡ true → contains (next R G) (plus c by) ≡ true) →
    (items : List Cell) → items ≡ cells H → (m : ℕ) → m < length items → contains (next R G) (plus (get_or items m origin) by) ≡ true
moved_live R G H by live items is m h = live (get_or items m origin) (listed_cell H items m is h)

-- ---- ties of a generation that is known by another name

module _ (R : Rule) (P : Generation) (n : ℕ) (G : Generation) (same : generation R P n ≡ G) (x : Cell) where
  stays_tied : contains G x ≡ true → contains (next R G) x ≡ true → AreTied R P n x (suc n) x
  unfolding generation
  stays_tied here then =
      staying n x (ap (λ F. contains F x) same ∙ here) (ap (λ F. contains (next R F) x) same ∙ then)

  borne_tied : (colour : Cell → ℕ) → contains G x ≡ false → ColoursIslands G colour →
      ((c d : Cell) → IsAround G x c → IsAround G x d → colour c ≡ colour d → AreTied R P n c n d) → IsFair R G colour x →
      (c : Cell) → IsAround G x c → bears R G colour (colour c) x ≡ true → AreTied R P n c (suc n) x
  borne_tied colour =
      subst (λ F. contains F x ≡ false → ColoursIslands F colour →
      ((c d : Cell) → IsAround F x c → IsAround F x d → colour c ≡ colour d → AreTied R P n c n d) → IsFair R F colour x →
      (c : Cell) → IsAround F x c → bears R F colour (colour c) x ≡ true → AreTied R P n c (suc n) x) same (bearing n x colour)

-- ---- sets that are held apart

module _ (R : Rule) (G : Generation) (L : Labels) (fits : Fits G L) (held : AreHeldApart R G (sets_of G L)) (x : Cell)
    (live : contains (next R G) x ≡ true) where
  abbrev labels : List ℕ
  labels = L.labels.items

  abbrev forest : List ℕ
  forest = L.forest.items

  abbrev Hs : List Generation
  Hs = sets_of G L

  abbrev mark : Cell → ℕ
  mark = mark_of G labels forest

  abbrev own : ℕ → Generation
  own k = get_or Hs k empty

  heir_of : (label k : ℕ) → label < length forest → root forest label ≡ k → contains (next R (own k)) x ≡ true →
      ((P : Generation) (n : ℕ) → generation R P n ≡ G → AreTiedWithin R P n Hs → IsBorneBy R G (own k) P n x) →
      IsHeir R G L x label
  heir_of label k within is lives tied = record {
    within = within;
    lives = subst (λ j. contains (next R (own j)) x ≡ true) (sym is) lives;
    tied = λ P n same ties. subst (λ j. IsBorneBy R G (own j) P n x) (sym is) (tied P n same ties);
  }

  islands : ColoursIslands G mark
  islands c d h k near = mark_by_whole G L fits c d h (held.islands c d h k near)

  -- a cell that is there stays in its set
  module _ (here : contains G x ≡ true) where
    stays_in_set : contains (next R (own (mark x))) x ≡ true
    stays_in_set =
        let H = own (mark x) in
        let within = marked G L fits x here in
        next-stays R H x (in_set G labels forest (mark x) empty x within here refl)
        ∙ ap (stays R) (count_at-alike (contains H) (contains G) x (λ y near.
        cmp.both_ways (contains H y) (contains G y)
        (λ h. (of_set G labels forest (mark x) empty y within h).0)
        (λ h. in_set G labels forest (mark x) empty y within h (islands y x h here near))))
        ∙ sym (next-stays R G x here) ∙ live

  pub heir_here : (at label d : ℕ) → at < length (cells G) → get_or (cells G) at origin ≡ x → label ≡ get_or labels at d →
      IsHeir R G L x label
  heir_here at label d inside is as_read =
      let long = fits.long in
      let told : label ≡ get_or labels at 0 = as_read ∙ get_or_default labels at d 0 (omega arith) in
      let here : contains G x ≡ true = ap (contains G) (sym is) ∙ listed_cell G (cells G) at refl inside in
      let same : root forest label ≡ mark x = ap (root forest) told ∙ sym (mark-at G labels forest fits.long at origin inside) ∙ ap mark is in
      let inside_forest : get_or labels at 0 < length forest = fits.below at 0 (omega arith) in
      heir_of label (mark x) (subst (λ l. l < length forest) (sym told) inside_forest) same (stays_in_set here) (λ P n is_G ties. record {
        cell = x;
        has = in_set G labels forest (mark x) empty x (marked G L fits x here) here refl;
        tied = stays_tied R P n G is_G x here live;
      })

  -- a cell that is born is born of the set whose group bears it
  module _ (place : contains G x ≡ false) (seats : List Seat) (are : AreSeats G Hs Hs x seats) where
    both_around : (c d : Cell) → IsAround G x c → IsAround G x d → mark c ≡ mark d → HaveBoth Hs c d
    both_around c d at too same = whole_by_mark G L fits c d too.live same

    fair : IsFair R G mark x
    fair =
        elim (held.places x place) [
          | inl whole ↦ one_group_is_fair R G mark x place (λ c d at too. mark_by_whole G L fits c d at.live (whole c d at too))
          | inr each ↦ (each mark islands both_around).0
        ]

    -- the set that bears has the cell next
    born_of_set : (k : ℕ) → k < length forest → bears R G mark k x ≡ true → contains (next R (own k)) x ≡ true
    born_of_set k h e =
        let H = own k in
        next-born R H x (false_from_ne_true (contains H x) (λ a. both_ways (contains G x) place (of_set G labels forest k empty x h a).0))
        ∙ ap (born R) (count_at-alike (contains H) (in_group G mark k) x (λ y near. contains-set G labels forest k empty y h))
        ∙ e

    -- the set of a seat is the mark of its cell
    seat_within : (m : ℕ) → m < 8 → (seat seats m).live ≡ true → (seat seats m).set < length forest
    seat_within m h a =
        let long = length-sets G labels forest in
        let inside = (are.each m h).set_within a in
        omega arith

    mark-seat : (m : ℕ) → m < 8 → (seat seats m).live ≡ true → mark (cell_at x m) ≡ (seat seats m).set
    mark-seat m h a = (of_set G labels forest (seat seats m).set empty (cell_at x m) (seat_within m h a) ((are.each m h).set a)).1

    module _ (colours : List ℕ) (as_sets : (m : ℕ) → m < 8 → listed colours m ≡ set_at seats m) where
      colour-mark : (m : ℕ) → m < 8 → (seat seats m).live ≡ true → listed colours m ≡ mark (cell_at x m)
      colour-mark m h a = as_sets m h ∙ sym (mark-seat m h a)

      group_by_seats : (v : ℕ) → count_colour seats (listed colours) v ≡ count_at (in_group G mark v) x
      group_by_seats v =
          count_to-alike 8 (λ k. (seat seats k).live && (listed colours k == v)) (λ k. in_group G mark v (cell_at x k))
          (λ k l.
          cmp.both_ways ((seat seats k).live && (listed colours k == v)) (in_group G mark v (cell_at x k))
          (λ e.
          let b = and_parts (seat seats k).live (listed colours k == v) e in
          to_group G mark v (cell_at x k) (sym ((are.each k l).live) ∙ b.0)
          (sym (colour-mark k l b.0) ∙ eqb-true (listed colours k) v b.1))
          (λ e.
          let b = of_group G mark v (cell_at x k) e in
          let a = (are.each k l).live ∙ b.0 in
          and_from (seat seats k).live (listed colours k == v) a (eq-eqb (listed colours k) v (colour-mark k l a ∙ b.1))))
          ∙ sym (count-numbered (in_group G mark v) x)

      -- a seat bears
      some_seat : (m : ℕ) × (m < 8) × (bears_at R seats (listed colours) m ≡ true)
      some_seat =
          let k = fair.borne live in
          let s = of_bearing R G mark x k.0 k.1 in
          let m = seat_of_cell Hs Hs G x seats are place s.0 s.1 in
          let is : listed colours m.0 ≡ k.0 = colour-mark m.0 m.1 m.3 ∙ ap mark m.2 ∙ s.2 in (
            m.0,
            m.1,
            and_from (seat seats m.0).live (born R (count_colour seats (listed colours) (listed colours m.0))) m.3
                (ap (born R) (group_by_seats (listed colours m.0)) ∙ ap (λ l. bears R G mark l x) is ∙ k.1),
          )

      pub bearing_below : (found : ℕ) → found ≤ 8 →
          ((k : ℕ) → k < found → bears_at R seats (listed colours) k ≡ false) → found < 8
      bearing_below found within none =
          let m = some_seat in
          let inside : m.0 < 8 = m.1 in
          elim (cases_lt found 8) [
            | inl less ↦ less
            | inr most ↦ absurd (both_ways (bears_at R seats (listed colours) m.0) (none m.0 (omega arith)) m.2)
          ]

      pub heir_born : (m label : ℕ) → m < 8 → bears_at R seats (listed colours) m ≡ true → label ≡ (seat seats m).set →
          IsHeir R G L x label
      heir_born m label h e told =
          let both = and_parts (seat seats m).live (born R (count_colour seats (listed colours) (listed colours m))) e in
          let a = both.0 in
          let c = cell_at x m in
          let k = mark c in
          let at = seat_around Hs Hs G x seats are m h a in
          let within = marked G L fits c at.live in
          let bears_k : bears R G mark k x ≡ true =
          ap (λ l. bears R G mark l x) (sym (colour-mark m h a)) ∙ ap (born R) (sym (group_by_seats (listed colours m))) ∙ both.1 in
          let is : label ≡ k = told ∙ sym (mark-seat m h a) in
          heir_of label k (subst (λ l. l < length forest) (sym is) within)
          (ap (root forest) is ∙ root-root forest (label_of (cells G) labels c)) (born_of_set k within bears_k) (λ P n same ties. record {
            cell = c;
            has = in_its_set G labels forest (marked G L fits) c at.live;
            tied = borne_tied R P n G same x mark place islands
                (λ f g first second alike.
                ties (own (mark f)) (its_set_listed G labels forest (marked G L fits) f first.live) f g
                (in_its_set G labels forest (marked G L fits) f first.live)
                (in_set G labels forest (mark f) empty g (marked G L fits f first.live) second.live (sym alike)))
                fair c at bears_k;
          })

-- ---- labels of a later list

-- labels within the same forest fit
pub heirs_fit : (R : Rule) (G H : Generation) (L M : Labels) (by : Cell) (items : List Cell) → items ≡ cells H →
    length M.labels.items ≡ length items → M.forest.items ≡ L.forest.items →
    ((m : ℕ) → m < length items → IsHeir R G L (plus (get_or items m origin) by) (get_or M.labels.items m 0)) → Fits H M
heirs_fit R G H L M by items is long same heirs = record {
  long = long ∙ ap length is;
  below = λ m d h.
      let inside : m < length items = omega arith in
      subst (λ l. l < length M.forest.items) (get_or_default M.labels.items m 0 d h)
      (subst (λ (f : List ℕ). get_or M.labels.items m 0 < length f) (sym same) (heirs m inside).within);
}
