-- Where a group of islands is a part of a set of islands that touches nothing else, and the group would bear where the set
-- doesn't, though there is something else around the place: there is a fork.
use Rattle.std.proofs.Common.{◌≡◌, ℕ, ◌+◌, ◌≤◌, ◌⊎◌, Bool, true, false, inl, inr, arith}
use Rattle.std.proofs.lemmas.Bool.{cases_Bool, cases_eq, both_ways, false_from_ne_true}
use Rattle.life_model.specs.Cell.{Cell, IsNear}
use Rattle.life_model.specs.Evolution.{count_at}
use Rattle.life_parts.proofs.PartsLemmas.Around.{near_swapped}
use Rattle.life_parts.proofs.PartsLemmas.Numbers.{at_most_one, below, closing, from_false, from_true, is_false, is_true, one}

-- ---- numbers of cells in a set and in a group, where the set has two sides, or one

both_sides : (gc gd ge gf gg hc hd he hf hg kc kd ke kf kg : ℕ) → hc ≤ gc → hd ≤ gd → he ≤ ge → hf ≤ gf → hg ≤ gg →
    hc ≤ 1 → he ≤ 1 → hg ≤ 1 → hd ≡ 1 → hf ≡ 1 → kd ≤ 1 →
    kc + gd ≤ 1 + kd → ke + gd ≤ 1 + kd → kf + gd ≤ 1 + kd → kg + gf ≤ 1 + kf →
    kd + gc ≤ 1 + kc → kd + ge ≤ 1 + ke → kd + gf ≤ 1 + kf → kf + gg ≤ 1 + kg →
    kc + kd + ke + kf + kg ≡ 3 → 4 ≤ hc + hd + he + hf + hg → ⊥
both_sides gc gd ge gf gg hc hd he hf hg kc kd ke kf kg i j k l m n o p q r s a b c d e f g h t u = omega arith

-- a side alone has its two corners and the opposite one, which is of another group
module _ (gc gd ge hc hd he hf hg kc kd ke kf kg : ℕ) (c : hc ≤ 1) (d : hd ≤ 1) (e : he ≤ 1) (g : hg ≤ 1) (none : hf ≡ 0)
    (wc : hc ≤ gc) (wd : hd ≤ gd) (we : he ≤ ge) (l : kg ≤ 1) (m : kf ≤ hf)
    (u : kc + gd ≤ 1 + kd) (v : ke + gd ≤ 1 + kd) (w : kd + gc ≤ 1 + kc) (y : kd + ge ≤ 1 + ke)
    (three : kc + kd + ke + kf + kg ≡ 3) (more : 4 ≤ hc + hd + he + hf + hg) where
  one_side : (hc ≡ 1) × (hd ≡ 1) × (he ≡ 1) × (hg ≡ 1) × (kd ≡ 1) × (kg ≡ 0)
  one_side = (omega arith, omega arith, omega arith, omega arith, omega arith, omega arith)

-- ---- a place where something is parted

-- The group K is of the set H, as far as it is near x, and neither touches what else is in G; three cells of the group are
-- around x, but not three of the set.
pub record IsParted (G H K : Cell → Bool) (x : Cell) : Type 0 where
  pub dead : G x ≡ false
  pub within : (y : Cell) → H y ≡ true → G y ≡ true
  pub inside : (y : Cell) → IsNear y x → K y ≡ true → H y ≡ true
  pub whole : (y z : Cell) → IsNear y z → H y ≡ true → G z ≡ true → H z ≡ true
  pub group : (y z : Cell) → IsNear y z → K y ≡ true → G z ≡ true → K z ≡ true
  pub three : count_at K x ≡ 3
  pub not_three : count_at H x ≡ 3 → ⊥

-- a ring of cells around a place: a corner of what is not of the set, a row opposite, of the group, and a corner of the set
-- that is not of the group
pub record IsRow (G H K : Cell → Bool) (x a b c d e f g h : Cell) : Type 0 where
  pub at_first : IsNear a x
  pub at_middle : IsNear d x
  pub at_second : IsNear g x
  pub first : G a ≡ true
  pub gap : G b ≡ false
  pub above : G c ≡ true
  pub middle : G d ≡ true
  pub below : G e ≡ true
  pub next_gap : G f ≡ false
  pub second : G g ≡ true
  pub last_gap : G h ≡ false
  pub other : H a ≡ false
  pub side : H d ≡ true
  pub of_set : H g ≡ true
  pub of_group : K d ≡ true
  pub no_group : K g ≡ false

-- the eight cells around x, one after the other, beginning with a corner
pub record IsRing (x a b c d e f g h : Cell) : Type 0 where
  pub at_a : IsNear a x
  pub at_b : IsNear b x
  pub at_c : IsNear c x
  pub at_d : IsNear d x
  pub at_e : IsNear e x
  pub at_f : IsNear f x
  pub at_g : IsNear g x
  pub at_h : IsNear h x
  pub ab : IsNear a b
  pub bc : IsNear b c
  pub cd : IsNear c d
  pub de : IsNear d e
  pub df : IsNear d f
  pub ef : IsNear e f
  pub fg : IsNear f g
  pub gh : IsNear g h
  pub ha : IsNear h a

-- the other way around
pub turned_ring : (x a b c d e f g h : Cell) → IsRing x a b c d e f g h → IsRing x a h g f e d c b
turned_ring x a b c d e f g h r = record {
  at_a = r.at_a;
  at_b = r.at_h;
  at_c = r.at_g;
  at_d = r.at_f;
  at_e = r.at_e;
  at_f = r.at_d;
  at_g = r.at_c;
  at_h = r.at_b;
  ab = near_swapped h a r.ha;
  bc = near_swapped g h r.gh;
  cd = near_swapped f g r.fg;
  de = near_swapped e f r.ef;
  df = near_swapped d f r.df;
  ef = near_swapped d e r.de;
  fg = near_swapped c d r.cd;
  gh = near_swapped b c r.bc;
  ha = near_swapped a b r.ab;
}

module _ (G H K : Cell → Bool) (x : Cell) (parted : IsParted G H K x) where
  in_set : (y : Cell) → one (H y) ≤ one (G y)
  in_set y = below (H y) (G y) (parted.within y)

  in_group : (y : Cell) → IsNear y x → one (K y) ≤ one (H y)
  in_group y near = below (K y) (H y) (parted.inside y near)

  touched : (y z : Cell) → IsNear y z → one (K y) + one (G z) ≤ 1 + one (K z)
  touched y z near = closing (K y) (G z) (K z) (parted.group y z near)

  touched_back : (y z : Cell) → IsNear y z → one (K z) + one (G y) ≤ 1 + one (K y)
  touched_back y z near = touched z y (near_swapped y z near)

  -- what touches a cell that isn't of the set
  outside : (y z : Cell) → G z ≡ true → H z ≡ false → IsNear y z → H y ≡ false
  outside y z live other near = false_from_ne_true (H y) (λ h. both_ways (H z) other (parted.whole y z near h live))

  -- what touches the set, and isn't of it
  gap_at : (y z : Cell) → H y ≡ true → H z ≡ false → IsNear y z → G z ≡ false
  gap_at y z h other near = false_from_ne_true (G z) (λ live. both_ways (H z) other (parted.whole y z near h live))

  module _ (a b c d e f g h : Cell) (ring : IsRing x a b c d e f g h) (first : G a ≡ true) (other : H a ≡ false)
      (three : one (K c) + one (K d) + one (K e) + one (K f) + one (K g) ≡ 3)
      (more : 4 ≤ one (H c) + one (H d) + one (H e) + one (H f) + one (H g)) where
    out_b : H b ≡ false
    out_b = outside b a first other (near_swapped a b ring.ab)

    out_h : H h ≡ false
    out_h = outside h a first other ring.ha

    row : H d ≡ true → H f ≡ false → IsRow G H K x a b c d e f g h
    row side none =
        let n = one_side (one (G c)) (one (G d)) (one (G e)) (one (H c)) (one (H d)) (one (H e)) (one (H f)) (one (H g))
        (one (K c)) (one (K d)) (one (K e)) (one (K f)) (one (K g)) (at_most_one (H c)) (at_most_one (H d)) (at_most_one (H e))
        (at_most_one (H g)) (from_false (H f) none) (in_set c) (in_set d) (in_set e) (at_most_one (K g)) (in_group f ring.at_f)
        (touched c d ring.cd) (touched_back d e ring.de) (touched_back c d ring.cd) (touched d e ring.de) three more in
        let in_c : H c ≡ true = is_true (H c) (let q : one (H c) ≡ 1 = n.0 in omega arith) in
        let in_e : H e ≡ true = is_true (H e) (let q : one (H e) ≡ 1 = n.2 in omega arith) in
        let in_g : H g ≡ true = is_true (H g) (let q : one (H g) ≡ 1 = n.3 in omega arith) in
        record {
          at_first = ring.at_a;
          at_middle = ring.at_d;
          at_second = ring.at_g;
          first = first;
          gap = gap_at c b in_c out_b (near_swapped b c ring.bc);
          above = parted.within c in_c;
          middle = parted.within d side;
          below = parted.within e in_e;
          next_gap = gap_at e f in_e none ring.ef;
          second = parted.within g in_g;
          last_gap = gap_at g h in_g out_h ring.gh;
          other = other;
          side = side;
          of_set = in_g;
          of_group = is_true (K d) (let q : one (K d) ≡ 1 = n.4 in omega arith);
          no_group = is_false (K g) (let q : one (K g) ≡ 0 = n.5 in omega arith);
        }

    not_both : H d ≡ true → H f ≡ true → ⊥
    not_both side too =
        both_sides (one (G c)) (one (G d)) (one (G e)) (one (G f)) (one (G g)) (one (H c)) (one (H d)) (one (H e)) (one (H f)) (one (H g))
        (one (K c)) (one (K d)) (one (K e)) (one (K f)) (one (K g)) (in_set c) (in_set d) (in_set e) (in_set f) (in_set g)
        (at_most_one (H c)) (at_most_one (H e)) (at_most_one (H g)) (from_true (H d) side) (from_true (H f) too) (at_most_one (K d))
        (touched c d ring.cd) (touched_back d e ring.de) (touched_back d f ring.df) (touched_back f g ring.fg)
        (touched_back c d ring.cd) (touched d e ring.de) (touched d f ring.df) (touched f g ring.fg) three more

  -- what is parted at a corner
  module _ (a b c d e f g h : Cell) (ring : IsRing x a b c d e f g h) (first : G a ≡ true) (other : H a ≡ false)
      (all_three : one (K a) + one (K b) + one (K c) + one (K d) + one (K e) + one (K f) + one (K g) + one (K h) ≡ 3)
      (not_three : one (H a) + one (H b) + one (H c) + one (H d) + one (H e) + one (H f) + one (H g) + one (H h) ≡ 3 → ⊥) where
    no_a : one (H a) ≡ 0
    no_a = from_false (H a) other

    no_b : one (H b) ≡ 0
    no_b = from_false (H b) (outside b a first other (near_swapped a b ring.ab))

    no_h : one (H h) ≡ 0
    no_h = from_false (H h) (outside h a first other ring.ha)

    three : one (K c) + one (K d) + one (K e) + one (K f) + one (K g) ≡ 3
    three =
        let i = in_group a ring.at_a in
        let j = in_group b ring.at_b in
        let k = in_group h ring.at_h in
        let l = no_a in
        let m = no_b in
        let n = no_h in
        omega arith

    more : 4 ≤ one (H c) + one (H d) + one (H e) + one (H f) + one (H g)
    more =
        let l = no_a in
        let m = no_b in
        let n = no_h in
        let o = three in
        let i = in_group c ring.at_c in
        let j = in_group d ring.at_d in
        let k = in_group e ring.at_e in
        let p = in_group f ring.at_f in
        let q = in_group g ring.at_g in
        elim (cases_eq (one (H c) + one (H d) + one (H e) + one (H f) + one (H g)) 3) [
          | inl same ↦ absurd (not_three (omega arith))
          | inr not ↦ omega (arith, not)
        ]

    pub corner : IsRow G H K x a b c d e f g h ⊎ IsRow G H K x a h g f e d c b
    corner =
        elim (cases_Bool (H d)) [
          | inl side ↦ elim (cases_Bool (H f)) [
            | inl too ↦ absurd (not_both a b c d e f g h ring first other three more side too)
            | inr none ↦ inl (row a b c d e f g h ring first other three more side none)
          ]
          | inr no_side ↦ elim (cases_Bool (H f)) [
            | inl side ↦ inr (row a h g f e d c b (turned_ring x a b c d e f g h ring) first other (let o = three in omega arith)
                (let o = more in omega arith) side no_side)
            | inr none ↦
                let o = more in
                let i = at_most_one (H c) in
                let j = at_most_one (H e) in
                let k = at_most_one (H g) in
                let l = from_false (H d) no_side in
                let m = from_false (H f) none in
                absurd (omega arith)
          ]
        ]

  -- what isn't of the set is not at a side
  module _ (a b c d e f g h : Cell) (ring : IsRing x a b c d e f g h) (near_bd : IsNear d b) (near_bh : IsNear h b)
      (first : G b ≡ true) (other : H b ≡ false)
      (all_three : one (K a) + one (K b) + one (K c) + one (K d) + one (K e) + one (K f) + one (K g) + one (K h) ≡ 3)
      (not_three : one (H a) + one (H b) + one (H c) + one (H d) + one (H e) + one (H f) + one (H g) + one (H h) ≡ 3 → ⊥) where
    pub no_side : ⊥
    no_side =
        let l = from_false (H a) (outside a b first other ring.ab) in
        let m = from_false (H b) other in
        let n = from_false (H c) (outside c b first other (near_swapped b c ring.bc)) in
        let o = from_false (H d) (outside d b first other near_bd) in
        let p = from_false (H h) (outside h b first other near_bh) in
        let i = in_group a ring.at_a in
        let j = in_group b ring.at_b in
        let k = in_group c ring.at_c in
        let q = in_group d ring.at_d in
        let r = in_group e ring.at_e in
        let s = in_group f ring.at_f in
        let t = in_group g ring.at_g in
        let u = in_group h ring.at_h in
        let v = at_most_one (H e) in
        let w = at_most_one (H f) in
        let y = at_most_one (H g) in
        not_three (omega arith)
