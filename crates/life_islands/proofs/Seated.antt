-- What the seats around a place show about the cells there.
use Rattle.std.proofs.Common.{◌≡◌, ℕ, zero, suc, pred, ◌+◌, ◌<◌, ◌≤◌, ◌==◌, Bool, true, false, ◌&&◌, cond, List, length, get_or, inl, inr, sym, refl, ap, subst, ◌∙◌, arith, eqb-true, eq-eqb}
use Rattle.std.specs.Cmp as cmp
use Rattle.std.specs.List.{Contains}
use Rattle.std.proofs.lemmas.Bool.{and_from, and_parts, both_ways, cases_Bool, cases_lt, false_from_ne_true}
use Rattle.std.proofs.lemmas.List.Elements.{Contains-get_or, at_from_Contains}
use Rattle.std.proofs.lemmas.List.{get_or_default}
use Rattle.std.proofs.lemmas.List.Folds.{Any-from_list_any, list_any_at}
use Rattle.std.specs.List.{list_any}
use Rattle.std.proofs.lemmas.Bool.{or_right}
use Rattle.life_model.specs.Cell.{same_cell}
use Rattle.life_model.proofs.Cells.{same_cell-is}
use Rattle.life_model.proofs.Near.{near_live}
use Rattle.life_objects.proofs.Members.{in_list_now}
use Rattle.life_objects.proofs.Unions.{contains-union_of}
use Rattle.life_parts.proofs.PartsLemmas.Around.{any_around, count_at-alike, near_swapped, next-born}
use Rattle.life_model.specs.Cell.{Cell, IsNear, around, origin}
use Rattle.life_model.specs.Rule.{Rule, born}
use Rattle.life_model.specs.Generation.{Generation, contains, empty}
use Rattle.life_model.specs.Evolution.{count_at, next}
use Rattle.life_parts.specs.Parts.Apart.{HaveBoth, IsEachFair}
use Rattle.life_parts.specs.Parts.Groups.{ColoursIslands, IsAround, IsFair, bears, in_group}
use Rattle.life_parts.proofs.PartsLemmas.Classed.{of_group, to_group}
use Rattle.life_islands.specs.declared.colours.Seat.{Seat}
use Rattle.life_islands.specs.Seats.{AreSeats, AreTried, IsSound, bears_at, cell_at, count_colour, count_to, seat}
use Rattle.life_islands.specs.Splits.{AreIslands, MakeUp}
use Rattle.life_islands.proofs.Colouring.{count_to-alike}
use Rattle.life_islands.proofs.Joining.{one_colour}

-- the eight cells around a place are counted by their numbers
pub count-numbered : (p : Cell → Bool) (x : Cell) → count_at p x ≡ count_to 8 (λ n. p (cell_at x n))
count-numbered p x = omega arith

-- ---- the first number that passes

abbrev pub first_below : (ℕ → Bool) → ℕ → ℕ
first_below p zero = 0
first_below p (suc n) = cond (p 0) 0 (suc (first_below (λ k. p (suc k)) n))

pub first-alike : (n : ℕ) (p q : ℕ → Bool) → ((k : ℕ) → k < n → p k ≡ q k) → first_below p n ≡ first_below q n
first-alike zero p q h = refl
first-alike (suc n) p q h =
    λ i. cond (h 0 (omega arith) i) 0 (suc (first-alike n (λ k. p (suc k)) (λ k. q (suc k)) (λ k l. h (suc k) (omega arith)) i))

at_once : (n : ℕ) (p : ℕ → Bool) → p 0 ≡ true → (first_below p (suc n) < suc n) × (p (first_below p (suc n)) ≡ true)
at_once n p here =
    subst (λ b. (cond b 0 (suc (first_below (λ k. p (suc k)) n)) < suc n) × (p (cond b 0 (suc (first_below (λ k. p (suc k)) n))) ≡ true))
    (sym here) (omega arith, here)

later : (n : ℕ) (p : ℕ → Bool) → p 0 ≡ false →
    (first_below (λ k. p (suc k)) n < n) × (p (suc (first_below (λ k. p (suc k)) n)) ≡ true) →
    (first_below p (suc n) < suc n) × (p (first_below p (suc n)) ≡ true)
later n p none rest =
    let h : first_below (λ k. p (suc k)) n < n = rest.0 in
    subst (λ b. (cond b 0 (suc (first_below (λ k. p (suc k)) n)) < suc n) × (p (cond b 0 (suc (first_below (λ k. p (suc k)) n))) ≡ true))
    (sym none) (omega arith, rest.1)

beyond : (k : ℕ) (p : ℕ → Bool) → p 0 ≡ false → p k ≡ true → suc (pred k) ≡ k
beyond zero p none e = absurd (both_ways (p 0) none e)
beyond (suc k) p none e = refl

below : (k n : ℕ) (p : ℕ → Bool) → p 0 ≡ false → k < suc n → p k ≡ true → pred k < n
below zero n p none h e = absurd (both_ways (p 0) none e)
below (suc k) n p none h e = omega arith

pub first-found : (n : ℕ) (p : ℕ → Bool) (k : ℕ) → k < n → p k ≡ true → (first_below p n < n) × (p (first_below p n) ≡ true)
first-found zero p k h e = absurd (omega arith)
first-found (suc n) p k h e =
    elim (cases_Bool (p 0)) [
      | inl here ↦ at_once n p here
      | inr none ↦ later n p none (first-found n (λ j. p (suc j)) (pred k) (below k n p none h e) (ap p (beyond k p none e) ∙ e))
    ]

-- none before it passes
first-least : (n : ℕ) (p : ℕ → Bool) (k : ℕ) → p k ≡ true → first_below p n ≤ k
first-least zero p k e = omega arith
first-least (suc n) p k e =
    elim (cases_Bool (p 0)) [
      | inl here ↦ subst (λ b. cond b 0 (suc (first_below (λ j. p (suc j)) n)) ≤ k) (sym here) (omega arith)
      | inr none ↦
          let one = beyond k p none e in
          let rest = first-least n (λ j. p (suc j)) (pred k) (ap p one ∙ e) in
          subst (λ b. cond b 0 (suc (first_below (λ j. p (suc j)) n)) ≤ k) (sym none) (omega arith)
    ]

-- a seat's cell is near the place
pub near_cell : (x : Cell) (n : ℕ) → n < 8 → IsNear (cell_at x n) x
near_cell x n h =
    let y = cell_at x n in
    let g = near_live (same_cell y) x (or_right (same_cell y x) (list_any (same_cell y) (around x))
    (list_any_at (same_cell y) (around x) n origin h ((same_cell-is y y).1 refl))) in
    let same : y ≡ g.0 = (same_cell-is y g.0).0 g.1 in
    near_swapped x y (subst (IsNear x) (sym same) g.2)

module _ (R : Rule) (G : Generation) (isles sets : List Generation) (x : Cell) (seats : List Seat) (are : AreSeats G isles sets x seats)
    (islands : AreIslands G isles) where
  -- two seats of one island have one colour
  pub same_island : (colour : Cell → ℕ) → ColoursIslands G colour → (m n : ℕ) → m < 8 → n < 8 → (seat seats m).live ≡ true →
      (seat seats n).live ≡ true → (seat seats m).island ≡ (seat seats n).island → colour (cell_at x m) ≡ colour (cell_at x n)
  same_island colour whole m n h k a b same =
      let i = (seat seats n).island in
      let A = get_or isles i empty in
      let piece = islands.pieces i empty ((are.each n k).island_within b) in
      one_colour G colour whole (cell_at x m) (cell_at x n) (piece.joined (cell_at x m) (cell_at x n)
      (ap (λ j. contains (get_or isles j empty) (cell_at x m)) (sym same) ∙ (are.each m h).island a) ((are.each n k).island b))

  -- the colours of cells as they are tried: the first seat of each colour
  module _ (colour : Cell → ℕ) (whole : ColoursIslands G colour) where
    abbrev like : ℕ → ℕ → Bool
    like n m = (seat seats m).live && (colour (cell_at x m) == colour (cell_at x n))

    pub tried : ℕ → ℕ
    tried n = cond (seat seats n).live (first_below (like n) 8) 0

    like_itself : (n : ℕ) → (seat seats n).live ≡ true → like n n ≡ true
    like_itself n a = and_from (seat seats n).live (colour (cell_at x n) == colour (cell_at x n)) a (eq-eqb (colour (cell_at x n)) (colour (cell_at x n)) refl)

    first_like : (n : ℕ) → n < 8 → (seat seats n).live ≡ true → (tried n < 8) × (like n (tried n) ≡ true)
    unfolding tried
    first_like n h a =
        subst (λ b. (cond b (first_below (like n) 8) 0 < 8) × (like n (cond b (first_below (like n) 8) 0) ≡ true)) (sym a)
        (first-found 8 (like n) n h (like_itself n a))

    tried_of : (n : ℕ) → (seat seats n).live ≡ true → tried n ≡ first_below (like n) 8
    unfolding tried
    tried_of n a = ap (λ b. cond b (first_below (like n) 8) 0) a

    -- one colour is tried where there was one
    pub one_tried : (m n : ℕ) → (seat seats m).live ≡ true → (seat seats n).live ≡ true →
        colour (cell_at x m) ≡ colour (cell_at x n) → tried m ≡ tried n
    one_tried m n a b same =
        tried_of m a ∙ first-alike 8 (like m) (like n) (λ k h. λ i. (seat seats k).live && (colour (cell_at x k) == same i))
        ∙ sym (tried_of n b)

    pub one_before : (m n : ℕ) → m < 8 → n < 8 → (seat seats m).live ≡ true → (seat seats n).live ≡ true → tried m ≡ tried n →
        colour (cell_at x m) ≡ colour (cell_at x n)
    one_before m n h k a b same =
        let l = (first_like m h a).1 in
        let r = (first_like n k b).1 in
        let of_m = eqb-true (colour (cell_at x (tried m))) (colour (cell_at x m)) (and_parts (seat seats (tried m)).live _ l).1 in
        let of_n = eqb-true (colour (cell_at x (tried n))) (colour (cell_at x n)) (and_parts (seat seats (tried n)).live _ r).1 in
        sym of_m ∙ ap (λ j. colour (cell_at x j)) same ∙ of_n

    pub few_tried : (n : ℕ) → n < 8 → tried n < n + 1
    unfolding tried
    few_tried n h =
        elim (cases_Bool (seat seats n).live) [
          | inl a ↦
              let least = first-least 8 (like n) n (like_itself n a) in
              subst (λ b. cond b (first_below (like n) 8) 0 < n + 1) (sym a) (omega arith)
          | inr a ↦ subst (λ b. cond b (first_below (like n) 8) 0 < n + 1) (sym a) (omega arith)
        ]

    pub none_tried : (n : ℕ) → (seat seats n).live ≡ false → tried n ≡ 0
    unfolding tried
    none_tried n a = ap (λ b. cond b (first_below (like n) 8) 0) a

    -- the group of a seat is that of its cell
    pub same_count : (n : ℕ) → n < 8 → (seat seats n).live ≡ true →
        count_colour seats tried (tried n) ≡ count_at (in_group G colour (colour (cell_at x n))) x
    same_count n h a =
        count_to-alike 8 (λ k. (seat seats k).live && (tried k == tried n)) (λ k. in_group G colour (colour (cell_at x n)) (cell_at x k))
        (λ k l.
        cmp.both_ways ((seat seats k).live && (tried k == tried n)) (in_group G colour (colour (cell_at x n)) (cell_at x k))
        (λ e.
        let b = and_parts (seat seats k).live (tried k == tried n) e in
        to_group G colour (colour (cell_at x n)) (cell_at x k) (sym ((are.each k l).live) ∙ b.0)
        (one_before k n l h b.0 a (eqb-true (tried k) (tried n) b.1)))
        (λ e.
        let b = of_group G colour (colour (cell_at x n)) (cell_at x k) e in
        let live = (are.each k l).live ∙ b.0 in
        and_from (seat seats k).live (tried k == tried n) live (eq-eqb (tried k) (tried n) (one_tried k n live a b.1))))
        ∙ sym (count-numbered (in_group G colour (colour (cell_at x n))) x)

    live_of : (n : ℕ) → bears_at R seats tried n ≡ true → (seat seats n).live ≡ true
    live_of n e = (and_parts (seat seats n).live (born R (count_colour seats tried (tried n))) e).0

    -- a seat bears where the group of its cell does
    pub bears_there : (n : ℕ) → n < 8 → bears_at R seats tried n ≡ true → bears R G colour (colour (cell_at x n)) x ≡ true
    bears_there n h e =
        let both = and_parts (seat seats n).live (born R (count_colour seats tried (tried n))) e in
        ap (born R) (sym (same_count n h both.0)) ∙ both.1

    pub bears_here : (n : ℕ) → n < 8 → (seat seats n).live ≡ true → bears R G colour (colour (cell_at x n)) x ≡ true →
        bears_at R seats tried n ≡ true
    bears_here n h a e =
        and_from (seat seats n).live (born R (count_colour seats tried (tried n))) a (ap (born R) (same_count n h a) ∙ e)

    -- a group that bears has a seat
    pub seat_of : (k : ℕ) → bears R G colour k x ≡ true → (n : ℕ) × (n < 8) × ((seat seats n).live ≡ true) × (colour (cell_at x n) ≡ k)
    seat_of k e =
        let one = Any-from_list_any (in_group G colour k) (around x) (any_around R (in_group G colour k) x e) in
        let at : one.1 ≡ cell_at x one.0 = sym one.3 ∙ get_or_default (around x) one.0 one.1 origin one.2 in
        let b = of_group G colour k one.1 one.4 in
        (one.0, one.2, (are.each one.0 one.2).live ∙ ap (contains G) (sym at) ∙ b.0, ap colour (sym at) ∙ b.1)

    module _ (is_born : Bool) (born_is : is_born ≡ contains (next R G) x) (bearer : ℕ)
        (sound : IsSound R seats is_born bearer tried) where
      pub fair_by_seats : IsFair R G colour x
      fair_by_seats = record {
        borne = λ h. let n = sound.fair.borne (born_is ∙ h) in (colour (cell_at x n.0), bears_there n.0 n.1 n.2);
        born = λ k h.
            let n = seat_of k h in
            sym born_is ∙ sound.fair.only n.0 n.1 (bears_here n.0 n.1 n.2 (ap (λ l. bears R G colour l x) n.3 ∙ h));
        one = λ k l h g.
            let m = seat_of k h in
            let n = seat_of l g in
            sym m.3
            ∙ one_before m.0 n.0 m.1 n.1 m.2 n.2
            (sound.fair.one m.0 n.0 m.1 n.1 (bears_here m.0 m.1 m.2 (ap (λ z. bears R G colour z x) m.3 ∙ h))
            (bears_here n.0 n.1 n.2 (ap (λ z. bears R G colour z x) n.3 ∙ g)))
            ∙ n.3;
      }

  -- ---- colours of sets

  module _ (make_up : MakeUp G sets)
      (kept : (c e : Cell) → contains G c ≡ true → contains G e ≡ true → IsNear c e → HaveBoth sets c e)
      (place : contains G x ≡ false) where
    one_place : (c : Cell) (i j : ℕ) → i < length sets → j < length sets → contains (get_or sets i empty) c ≡ true →
        contains (get_or sets j empty) c ≡ true → i ≡ j
    one_place c i j h k a b =
        elim (cases_lt i j) [
          | inl less ↦ absurd (make_up.once i j empty less k c a b)
          | inr no_less ↦ elim (cases_lt j i) [
            | inl more ↦ absurd (make_up.once j i empty more h c b a)
            | inr no_more ↦ omega arith
          ]
        ]

    spot : Cell → ℕ
    spot c = first_below (λ i. contains (get_or sets i empty) c) (length sets)

    spot_whole : ColoursIslands G spot
    unfolding spot
    spot_whole c e h k near =
        first-alike (length sets) (λ i. contains (get_or sets i empty) c) (λ i. contains (get_or sets i empty) e) (λ i l.
        cmp.both_ways (contains (get_or sets i empty) c) (contains (get_or sets i empty) e)
        (kept c e h k near (get_or sets i empty) (Contains-get_or sets i empty l))
        (kept e c k h (near_swapped c e near) (get_or sets i empty) (Contains-get_or sets i empty l)))

    has_spot : (c : Cell) (i : ℕ) → i < length sets → contains (get_or sets i empty) c ≡ true → spot c ≡ i
    unfolding spot
    has_spot c i h a =
        let f = first-found (length sets) (λ j. contains (get_or sets j empty) c) i h a in
        one_place c (spot c) i f.0 h f.1 a

    -- seats of one island are of one set
    pub set_by_islands : (m n : ℕ) → m < 8 → n < 8 → (seat seats m).live ≡ true → (seat seats n).live ≡ true →
        (seat seats m).island ≡ (seat seats n).island → (seat seats m).set ≡ (seat seats n).set
    set_by_islands m n h k a b same =
        sym (has_spot (cell_at x m) (seat seats m).set ((are.each m h).set_within a) ((are.each m h).set a))
        ∙ same_island spot spot_whole m n h k a b same
        ∙ has_spot (cell_at x n) (seat seats n).set ((are.each n k).set_within b) ((are.each n k).set b)

    covered : (c : Cell) → contains G c ≡ true → (i : ℕ) × (i < length sets) × (contains (get_or sets i empty) c ≡ true)
    covered c h =
        let one = Any-from_list_any (λ H. contains H c) sets (sym (contains-union_of sets c) ∙ ap (λ H. contains H c) make_up.together ∙ h) in
        (one.0, one.2, ap (λ H. contains H c) (sym (get_or_default sets one.0 one.1 empty one.2) ∙ one.3) ∙ one.4)

    -- cells of one spot are of one set
    both_by_spot : (c e : Cell) → contains G c ≡ true → contains G e ≡ true → spot c ≡ spot e → HaveBoth sets c e
    both_by_spot c e h k same H listed in_H =
        let i = covered c h in
        let j = covered e k in
        let at = at_from_Contains sets H listed in
        let of_H : contains (get_or sets at.0 empty) c ≡ true = ap (λ B. contains B c) (at.2 empty) ∙ in_H in
        let first : at.0 ≡ i.0 = one_place c at.0 i.0 at.1 i.1 of_H i.2 in
        let again : i.0 ≡ j.0 = sym (has_spot c i.0 i.1 i.2) ∙ same ∙ has_spot e j.0 j.1 j.2 in
        ap (λ B. contains B e) (sym (at.2 empty)) ∙ ap (λ n. contains (get_or sets n empty) e) (first ∙ again) ∙ j.2

    seat_at : (n : ℕ) → n < 8 → (seat seats n).live ≡ true → IsAround G x (cell_at x n)
    seat_at n h a = record { live = sym ((are.each n h).live) ∙ a; near = near_cell x n h }

    module _ (colour : Cell → ℕ) (whole : ColoursIslands G colour)
        (within : (c e : Cell) → IsAround G x c → IsAround G x e → colour c ≡ colour e → HaveBoth sets c e) where
      pub are_tried : AreTried seats (tried colour whole)
      are_tried = record {
        few = few_tried colour whole;
        rest = λ n h a. none_tried colour whole n a;
        colouring = λ m n less h a b. record {
          islands = λ same. one_tried colour whole m n a b (same_island colour whole m n (omega arith) h a b same);
          sets = λ same.
              let k : m < 8 = omega arith in
              let both = within (cell_at x m) (cell_at x n) (seat_at m k a) (seat_at n h b)
              (one_before colour whole m n k h a b same) in
              one_place (cell_at x n) (seat seats m).set (seat seats n).set ((are.each m k).set_within a) ((are.each n h).set_within b)
              (both (get_or sets (seat seats m).set empty) (Contains-get_or sets (seat seats m).set empty ((are.each m k).set_within a)) ((are.each m k).set a))
              ((are.each n h).set b);
        };
      }

    module _ (is_born : Bool) (born_is : is_born ≡ contains (next R G) x) (bearer : ℕ)
        (all : (given : ℕ → ℕ) → AreTried seats given → IsSound R seats is_born bearer given) where
      spot_sound : IsSound R seats is_born bearer (tried spot spot_whole)
      spot_sound = all (tried spot spot_whole) (are_tried spot spot_whole (λ c e at too same. both_by_spot c e at.live too.live same))

      -- where there is a birth, the bearer has the cell next
      bearer_has : is_born ≡ true → contains (next R (get_or sets bearer empty)) x ≡ true
      bearer_has e =
          let n = spot_sound.fair.borne e in
          let live = live_of spot spot_whole n.0 n.2 in
          let y = cell_at x n.0 in
          let bearing = bears_there spot spot_whole n.0 n.1 n.2 in
          let set_is : (seat seats n.0).set ≡ bearer = spot_sound.set n.0 n.1 n.2 in
          let inside : bearer < length sets = subst (λ i. i < length sets) set_is ((are.each n.0 n.1).set_within live) in
          let S = get_or sets bearer empty in
          let listed : Contains sets S = Contains-get_or sets bearer empty inside in
          let y_in : contains S y ≡ true = subst (λ i. contains (get_or sets i empty) y ≡ true) set_is ((are.each n.0 n.1).set live) in
          let of_G = λ (z : Cell) (h : contains S z ≡ true). ap (λ H. contains H z) (sym make_up.together) ∙ in_list_now R sets S z listed h in
          next-born R S x (false_from_ne_true (contains S x) (λ h. both_ways (contains G x) place (of_G x h)))
          ∙ ap (born R) (count_at-alike (contains S) (in_group G spot (spot y)) x (λ z near.
          cmp.both_ways (contains S z) (in_group G spot (spot y) z)
          (λ h. to_group G spot (spot y) z (of_G z h) (has_spot z bearer inside h ∙ sym (has_spot y bearer inside y_in)))
          (λ h.
          let b = of_group G spot (spot y) z h in
          both_by_spot y z (of_G y y_in) b.0 (sym b.1) S listed y_in)))
          ∙ bearing

      pub each_fair : IsEachFair R G sets x
      each_fair colour whole within =
          let sound = all (tried colour whole) (are_tried colour whole within) in (
            fair_by_seats colour whole is_born born_is bearer sound,
            λ c at h H listed in_H.
                let n = seat_of colour whole (colour c) h in
                let bearing = bears_here colour whole n.0 n.1 n.2 (ap (λ l. bears R G colour l x) n.3 ∙ h) in
                let y = cell_at x n.0 in
                let in_y = within c y at (seat_at n.0 n.1 n.2) (sym n.3) H listed in_H in
                let place_of = at_from_Contains sets H listed in
                let set_is = sound.set n.0 n.1 bearing in
                let same : place_of.0 ≡ bearer =
                one_place y place_of.0 (seat seats n.0).set place_of.1 ((are.each n.0 n.1).set_within n.2)
                (ap (λ B. contains B y) (place_of.2 empty) ∙ in_y) ((are.each n.0 n.1).set n.2) ∙ set_is in
                ap (λ B. contains (next R B) x) (sym (place_of.2 empty) ∙ ap (λ i. get_or sets i empty) same)
                ∙ bearer_has (sound.fair.only n.0 n.1 bearing),
          )
