-- What a flaw of colours shows about the cells around a place.
use Rattle.std.proofs.Common.{◌≡◌, ◌⊎◌, ℕ, suc, ◌<◌, ◌==◌, Bool, true, false, ◌&&◌, List, length, get_or, inl, inr, sym, refl, ap, subst, ◌∙◌, arith, eqb-true, eq-eqb}
use Rattle.std.specs.Cmp as cmp
use Rattle.std.proofs.lemmas.Bool.{and_from, and_parts, both_ways, cases_lt}
use Rattle.std.proofs.lemmas.List.Elements.{Contains-get_or}
use Rattle.life_model.specs.Cell.{Cell, IsNear}
use Rattle.life_model.specs.Rule.{Rule, born}
use Rattle.life_model.specs.Generation.{Generation, contains, empty}
use Rattle.life_model.specs.Evolution.{count_at, generation, next}
use Rattle.life_model.proofs.Near.{near_itself}
use Rattle.life_parts.specs.Parts.Groups.{ColoursIslands, IsAround, IsFair, bears, in_group}
use Rattle.life_parts.specs.Parts.Ties.{AreTied, bearing, meeting, swapped, through}
use Rattle.life_parts.proofs.PartsLemmas.Around.{near_swapped, next-born}
use Rattle.life_parts.proofs.PartsLemmas.Classed.{of_bearing, of_group, to_group}
use Rattle.life_islands.specs.declared.colours.Seat.{Seat}
use Rattle.life_islands.specs.Seats.{AreAllSound, AreOfOne, AreSeats, IsBorneBy, IsColouring, IsFairAround, IsOf, IsSeatLink, bears_at, cell_at, count_colour, is_born_by, seat, set_at}
use Rattle.life_islands.specs.Splits.{AreLaidOut, AreTiedWithin, IsLink, IsSettled}
use Rattle.life_islands.proofs.Colouring.{count_to-alike}
use Rattle.life_islands.proofs.Neighbours.{seated}
use Rattle.life_islands.proofs.Placing.{both_in_place, placed}
use Rattle.life_islands.proofs.Seated.{count-numbered, each_fair, first-found, first_below, near_cell, set_by_islands}

module _ (isles sets : List Generation) (G : Generation) (x : Cell) (seats : List Seat) (are : AreSeats G isles sets x seats) where
  pub set_inside : (i n : ℕ) → IsOf seats i n → i < length sets
  set_inside i n its = subst (λ j. j < length sets) its.is ((are.each n its.within).set_within its.live)

  pub cell_inside : (i n : ℕ) → IsOf seats i n → contains (get_or sets i empty) (cell_at x n) ≡ true
  cell_inside i n its = subst (λ j. contains (get_or sets j empty) (cell_at x n) ≡ true) its.is ((are.each n its.within).set its.live)

  -- a cell around the place has a seat
  pub seat_of_cell : contains G x ≡ false → (c : Cell) → IsAround G x c →
      (n : ℕ) × (n < 8) × (cell_at x n ≡ c) × ((seat seats n).live ≡ true)
  seat_of_cell place c at =
      let s = seated x c at.near (λ e. both_ways (contains G x) place (ap (contains G) (sym e) ∙ at.live)) in
      (s.0, s.1, s.2, (are.each s.0 s.1).live ∙ ap (contains G) s.2 ∙ at.live)

  pub seat_around : (n : ℕ) → n < 8 → (seat seats n).live ≡ true → IsAround G x (cell_at x n)
  seat_around n h a = record { live = sym ((are.each n h).live) ∙ a; near = near_cell x n h }

  pub born_is : (R : Rule) → contains G x ≡ false → is_born_by R seats ≡ contains (next R G) x
  born_is R place =
      ap (born R) (count_to-alike 8 (λ n. (seat seats n).live) (λ n. contains G (cell_at x n)) (λ n h. (are.each n h).live)
      ∙ sym (count-numbered (contains G) x))
      ∙ sym (next-born R G x place)

module _ (R : Rule) (P : Generation) (n : ℕ) (isles sets : List Generation) (x : Cell) (seats : List Seat)
    (are : AreSeats (generation R P n) isles sets x seats) (laid : AreLaidOut (generation R P n) isles sets)
    (place : contains (generation R P n) x ≡ false) (within : AreTiedWithin R P n sets) where
  abbrev G : Generation
  G = generation R P n

  one_isle : (c e : Cell) (i j : ℕ) → i < length isles → j < length isles → contains (get_or isles i empty) c ≡ true →
      contains (get_or isles j empty) e ≡ true → IsNear c e → IsNear e c → i ≡ j
  one_isle c e i j h k a b near back =
      elim (cases_lt i j) [
        | inl less ↦ absurd (laid.islands.apart i j empty less k c e a b near)
        | inr no_less ↦ elim (cases_lt j i) [
          | inl more ↦ absurd (laid.islands.apart j i empty more h e c b a back)
          | inr no_more ↦ omega arith
        ]
      ]

  isle : Cell → ℕ
  isle c = first_below (λ i. contains (get_or isles i empty) c) (length isles)

  isle_of : (c : Cell) (i : ℕ) → i < length isles → contains (get_or isles i empty) c ≡ true → isle c ≡ i
  unfolding isle
  isle_of c i h a =
      let f = first-found (length isles) (λ j. contains (get_or isles j empty) c) i h a in
      one_isle c c (isle c) i f.0 h f.1 a (near_itself c) (near_itself c)

  -- cells that touch are of one island
  isle_joined : (c e : Cell) → contains G c ≡ true → contains G e ≡ true → IsNear c e → isle c ≡ isle e
  isle_joined c e h k near =
      let i = placed isles G c laid.islands.together h in
      let j = placed isles G e laid.islands.together k in
      isle_of c i.0 i.1 i.2 ∙ one_isle c e i.0 j.0 i.1 j.1 i.2 j.2 near (near_swapped c e near) ∙ sym (isle_of e j.0 j.1 j.2)

  -- cells of two seats of one set are tied
  tied_seats : (i l m : ℕ) → IsOf seats i l → IsOf seats i m → AreTied R P n (cell_at x l) n (cell_at x m)
  tied_seats i l m a b =
      within (get_or sets i empty) (Contains-get_or sets i empty (set_inside isles sets G x seats are i l a)) (cell_at x l) (cell_at x m)
      (cell_inside isles sets G x seats are i l a) (cell_inside isles sets G x seats are i m b)

  abbrev sits : ℕ → ℕ → Bool
  sits i m = (seat seats m).live && ((seat seats m).island == i)

  module _ (given : ℕ → ℕ) (colouring : IsColouring seats given) where
    -- the colour that the seats have, for each cell
    given_to : Cell → ℕ
    given_to c = given (first_below (sits (isle c)) 8)

    agree : (l m : ℕ) → l < 8 → m < 8 → (seat seats l).live ≡ true → (seat seats m).live ≡ true →
        (seat seats l).island ≡ (seat seats m).island → given l ≡ given m
    agree l m h k a b same =
        elim (cases_lt l m) [
          | inl less ↦ (colouring l m less k a b).islands same
          | inr no_less ↦ elim (cases_lt m l) [
            | inl more ↦ sym ((colouring m l more h b a).islands (sym same))
            | inr no_more ↦ ap given (let e : l ≡ m = omega arith in e)
          ]
        ]

    -- seats of one colour are of one set
    one_set : (l m : ℕ) → l < 8 → m < 8 → (seat seats l).live ≡ true → (seat seats m).live ≡ true →
        given l ≡ given m → (seat seats l).set ≡ (seat seats m).set
    one_set l m h k a b same =
        elim (cases_lt l m) [
          | inl less ↦ (colouring l m less k a b).sets same
          | inr no_less ↦ elim (cases_lt m l) [
            | inl more ↦ sym ((colouring m l more h b a).sets (sym same))
            | inr no_more ↦ ap (λ q. (seat seats q).set) (let e : l ≡ m = omega arith in e)
          ]
        ]

    given_at : (m : ℕ) → m < 8 → (seat seats m).live ≡ true → given_to (cell_at x m) ≡ given m
    unfolding given_to
    given_at m h a =
        let i = (seat seats m).island in
        let is = isle_of (cell_at x m) i ((are.each m h).island_within a) ((are.each m h).island a) in
        let f = first-found 8 (sits i) m h (and_from (seat seats m).live (i == i) a (eq-eqb i i refl)) in
        let l = first_below (sits i) 8 in
        let both = and_parts (seat seats l).live ((seat seats l).island == i) f.1 in
        ap (λ j. given (first_below (sits j) 8)) is
        ∙ agree l m f.0 h both.0 a (eqb-true (seat seats l).island i both.1)

    given_whole : ColoursIslands G given_to
    unfolding given_to
    given_whole c e h k near = ap (λ i. given (first_below (sits i) 8)) (isle_joined c e h k near)

    -- the group of a colour
    group_count : (v : ℕ) → count_colour seats given v ≡ count_at (in_group G given_to v) x
    group_count v =
        count_to-alike 8 (λ k. (seat seats k).live && (given k == v)) (λ k. in_group G given_to v (cell_at x k))
        (λ k l.
        cmp.both_ways ((seat seats k).live && (given k == v)) (in_group G given_to v (cell_at x k))
        (λ e.
        let b = and_parts (seat seats k).live (given k == v) e in
        to_group G given_to v (cell_at x k) (sym ((are.each k l).live) ∙ b.0) (given_at k l b.0 ∙ eqb-true (given k) v b.1))
        (λ e.
        let b = of_group G given_to v (cell_at x k) e in
        let live = (are.each k l).live ∙ b.0 in
        and_from (seat seats k).live (given k == v) live (eq-eqb (given k) v (sym (given_at k l live) ∙ b.1))))
        ∙ sym (count-numbered (in_group G given_to v) x)

    live_bearing : (m : ℕ) → bears_at R seats given m ≡ true → (seat seats m).live ≡ true
    live_bearing m e = (and_parts (seat seats m).live (born R (count_colour seats given (given m))) e).0

    bears_of_seat : (m : ℕ) → bears_at R seats given m ≡ true → bears R G given_to (given m) x ≡ true
    bears_of_seat m e =
        ap (born R) (sym (group_count (given m))) ∙ (and_parts (seat seats m).live (born R (count_colour seats given (given m))) e).1

    seat_bears : (m : ℕ) → (seat seats m).live ≡ true → bears R G given_to (given m) x ≡ true → bears_at R seats given m ≡ true
    seat_bears m a e =
        and_from (seat seats m).live (born R (count_colour seats given (given m))) a (ap (born R) (group_count (given m)) ∙ e)

    -- a seat of a group that bears
    bearing_seat : (k : ℕ) → bears R G given_to k x ≡ true → (m : ℕ) × (m < 8) × (given m ≡ k) × (bears_at R seats given m ≡ true)
    bearing_seat k e =
        let s = of_bearing R G given_to x k e in
        let m = seat_of_cell isles sets G x seats are place s.0 s.1 in
        let same : given m.0 ≡ k = sym (given_at m.0 m.1 m.3) ∙ ap given_to m.2 ∙ s.2 in
        (m.0, m.1, same, seat_bears m.0 m.3 (ap (λ l. bears R G given_to l x) same ∙ e))

    to_fair : IsFairAround R seats (is_born_by R seats) given → IsFair R G given_to x
    to_fair fair = record {
      borne = λ h.
          let m = fair.borne (born_is isles sets G x seats are R place ∙ h) in
          (given m.0, bears_of_seat m.0 m.2);
      born = λ k h.
          let m = bearing_seat k h in
          sym (born_is isles sets G x seats are R place) ∙ fair.only m.0 m.1 m.3;
      one = λ k l h g.
          let m = bearing_seat k h in
          let q = bearing_seat l g in
          sym m.2 ∙ fair.one m.0 q.0 m.1 q.1 m.3 q.3 ∙ q.2;
    }

    from_fair : IsFair R G given_to x → IsFairAround R seats (is_born_by R seats) given
    from_fair fair = record {
      only = λ m h e. born_is isles sets G x seats are R place ∙ fair.born (given m) (bears_of_seat m e);
      one = λ m q h k d e. fair.one (given m) (given q) (bears_of_seat m d) (bears_of_seat q e);
      borne = λ e.
          let k = fair.borne (sym (born_is isles sets G x seats are R place) ∙ e) in
          let m = bearing_seat k.0 k.1 in
          (m.0, m.1, m.3);
    }

    -- cells of one colour are tied
    tied_groups : (c d : Cell) → IsAround G x c → IsAround G x d → given_to c ≡ given_to d → AreTied R P n c n d
    tied_groups c d at too same =
        let l = seat_of_cell isles sets G x seats are place c at in
        let m = seat_of_cell isles sets G x seats are place d too in
        let alike : given l.0 ≡ given m.0 =
        sym (given_at l.0 l.1 l.3) ∙ ap given_to l.2 ∙ same ∙ sym (ap given_to m.2) ∙ given_at m.0 m.1 m.3 in
        subst (λ y. AreTied R P n y n d) l.2
        (subst (λ y. AreTied R P n (cell_at x l.0) n y) m.2
        (tied_seats (seat seats m.0).set l.0 m.0
        (record { within = l.1; live = l.3; is = one_set l.0 m.0 l.1 m.1 l.3 m.3 alike })
        (record { within = m.1; live = m.3; is = refl })))

    -- what is born is tied to the cell of a seat that bears
    borne_tied : IsFairAround R seats (is_born_by R seats) given → (m : ℕ) → m < 8 → bears_at R seats given m ≡ true →
        AreTied R P n (cell_at x m) (suc n) x
    borne_tied fair m h e =
        let live = live_bearing m e in
        bearing n x given_to place given_whole tied_groups (to_fair fair) (cell_at x m)
        (seat_around isles sets G x seats are m h live)
        (ap (λ l. bears R G given_to l x) (given_at m h live) ∙ bears_of_seat m e)

    unfair_tied : (IsFairAround R seats (is_born_by R seats) given → ⊥) → (c d : Cell) → IsAround G x c → IsAround G x d →
        AreTied R P n c n d
    unfair_tied unfair c d at too =
        meeting n x given_to place given_whole tied_groups (λ fair. unfair (from_fair fair)) c d at too

  -- the cell of a seat of a set is tied to what is born of the set
  tied_to_born : (i m : ℕ) → IsOf seats i m → IsBorneBy R seats (is_born_by R seats) i → AreTied R P n (cell_at x m) (suc n) x
  tied_to_born i m its by =
      let live = live_bearing by.colour by.colouring by.by by.bears in
      through n n (suc n) (cell_at x m) (cell_at x by.by) x
      (tied_seats i m by.by its (record { within = by.within; live = live; is = by.is }))
      (borne_tied by.colour by.colouring by.fair by.by by.within by.bears)

  pub tied_by_link : (link : ℕ × ℕ) (is : IsSeatLink R seats link) → AreTied R P n (cell_at x is.first) n (cell_at x is.second)
  tied_by_link link is =
      elim is.tied [
        | inl u ↦ unfair_tied u.colour u.colouring u.unfair (cell_at x is.first) (cell_at x is.second)
            (seat_around isles sets G x seats are is.first is.of_first.within is.of_first.live)
            (seat_around isles sets G x seats are is.second is.of_second.within is.of_second.live)
        | inr both ↦ through n (suc n) n (cell_at x is.first) x (cell_at x is.second)
            (tied_to_born link.0 is.first is.of_first both.0)
            (swapped n (suc n) (cell_at x is.second) x (tied_to_born link.1 is.second is.of_second both.1))
      ]

pub link_of_seats : (R : Rule) (G : Generation) (isles sets : List Generation) (x : Cell) (seats : List Seat) →
    AreSeats G isles sets x seats → AreLaidOut G isles sets → contains G x ≡ false → (link : ℕ × ℕ) → IsSeatLink R seats link →
    IsLink R G sets link
link_of_seats R G isles sets x seats are laid place link is = record {
  cell = cell_at x is.first;
  other = cell_at x is.second;
  two = record {
    first = set_inside isles sets G x seats are link.0 is.first is.of_first;
    second = set_inside isles sets G x seats are link.1 is.second is.of_second;
    differ = is.differ;
    in_first = cell_inside isles sets G x seats are link.0 is.first is.of_first;
    in_second = cell_inside isles sets G x seats are link.1 is.second is.of_second;
  };
  tied = λ P n same within.
      tied_by_link R P n isles sets x seats (subst (λ H. AreSeats H isles sets x seats) (sym same) are)
      (subst (λ H. AreLaidOut H isles sets) (sym same) laid) (ap (λ H. contains H x) same ∙ place) within link is;
}

-- ---- where nothing is joined

pub settled_by_seats : (R : Rule) (G : Generation) (isles sets : List Generation) (x : Cell) (seats : List Seat) →
    AreSeats G isles sets x seats → AreLaidOut G isles sets → contains G x ≡ false →
    AreOfOne seats ⊎ ((bearer : ℕ) × AreAllSound R seats (is_born_by R seats) bearer) → IsSettled R G sets x
settled_by_seats R G isles sets x seats are laid place found =
    elim found [
      | inl one ↦ inl (λ c d at too.
          let l = seat_of_cell isles sets G x seats are place c at in
          let m = seat_of_cell isles sets G x seats are place d too in
          let i = (seat seats m.0).set in
          let first : IsOf seats i l.0 = record { within = l.1; live = l.3; is = one l.0 m.0 l.1 m.1 l.3 m.3 } in
          let second : IsOf seats i m.0 = record { within = m.1; live = m.3; is = refl } in
          both_in_place sets laid.make_up.once c d i (set_inside isles sets G x seats are i l.0 first)
          (ap (contains (get_or sets i empty)) (sym l.2) ∙ cell_inside isles sets G x seats are i l.0 first)
          (ap (contains (get_or sets i empty)) (sym m.2) ∙ cell_inside isles sets G x seats are i m.0 second))
      | inr all ↦ inr (each_fair R G isles sets x seats are laid.islands laid.make_up laid.whole place (is_born_by R seats)
          (born_is isles sets G x seats are R place) all.0 all.1.sound)
    ]

-- the sets of seats are colours, where each set has whole islands
pub sets_are_colours : (G : Generation) (isles sets : List Generation) (x : Cell) (seats : List Seat) →
    AreSeats G isles sets x seats → AreLaidOut G isles sets → contains G x ≡ false → (R : Rule) → IsColouring seats (set_at seats)
sets_are_colours G isles sets x seats are laid place R l m less h a b = record {
  islands = λ same.
      set_by_islands R G isles sets x seats are laid.islands laid.make_up laid.whole place l m (omega arith) h a b same;
  sets = λ same. same;
}
