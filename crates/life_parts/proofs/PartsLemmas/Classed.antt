-- The classes of one generation become those of the next.
use Rattle.std.proofs.Common.{◌≡◌, ℕ, suc, ◌==◌, Bool, true, false, ◌&&◌, List, inl, inr, sym, ap, ◌∙◌, eqb-true, eq-eqb}
use Rattle.std.specs.List.{Contains, list_any}
use Rattle.std.specs.Cmp as cmp
use Rattle.std.proofs.lemmas.Bool.{cases_Bool, cases_eq, and_from, and_parts, both_ways, false_from_ne_true, true_from_ne_false}
use Rattle.life_model.specs.Cell.{Cell, IsNear, around}
use Rattle.life_model.specs.Rule.{Rule, born, stays}
use Rattle.life_model.specs.Generation.{Generation, contains}
use Rattle.life_model.specs.Evolution.{count_at, generation, next}
use Rattle.life_model.proofs.Generations.{same_members}
use Rattle.life_model.proofs.Near.{next_near}
use Rattle.life_parts.specs.Parts.Groups.{ColoursIslands, IsAround, IsFair, bears, in_group}
use Rattle.life_parts.specs.Parts.Ties.{AreTied, IsIn, swapped, through, touching, staying, bearing, meeting}
use Rattle.life_parts.proofs.PartsLemmas.Around.{near_swapped, any_around, count_at-alike, list_any-more, one_around, some_around, next-born, next-stays}
use Rattle.life_parts.proofs.PartsLemmas.Ends.{both_in}
use Rattle.life_parts.proofs.PartsLemmas.Firsts.{first_with, first_of_both, same_first}

-- The sets' generations n are classes of the cells of generation n of P.
pub record AreClassesAt (R : Rule) (P : Generation) (Qs : List Generation) (n : ℕ) : Type 0 where
  pub cover : (c : Cell) → IsIn R P n c → (Q : Generation) × Contains Qs Q × IsIn R Q n c
  pub within : (Q : Generation) → Contains Qs Q → (c : Cell) → IsIn R Q n c → IsIn R P n c
  pub tied : (Q : Generation) → Contains Qs Q → (c d : Cell) → IsIn R Q n c → IsIn R Q n d → AreTied R P n c n d
  pub whole : (Q : Generation) → Contains Qs Q → (c d : Cell) → IsIn R Q n c → AreTied R P n c n d → IsIn R Q n d

-- a group is of the cells of its colour
pub of_group : (G : Generation) (colour : Cell → ℕ) (k : ℕ) (c : Cell) → in_group G colour k c ≡ true →
    (contains G c ≡ true) × (colour c ≡ k)
of_group G colour k c h =
    let both = and_parts (contains G c) (colour c == k) h in
    (both.0, eqb-true (colour c) k both.1)

pub to_group : (G : Generation) (colour : Cell → ℕ) (k : ℕ) (c : Cell) → contains G c ≡ true → colour c ≡ k →
    in_group G colour k c ≡ true
to_group G colour k c h e = and_from (contains G c) (colour c == k) h (eq-eqb (colour c) k e)

module _ (R : Rule) (G : Generation) (colour : Cell → ℕ) (x : Cell) where
  -- a group that bears has a cell around
  pub of_bearing : (k : ℕ) → bears R G colour k x ≡ true → (c : Cell) × IsAround G x c × (colour c ≡ k)
  of_bearing k h =
      let s = some_around R (in_group G colour k) x h in
      let b = of_group G colour k s.0 s.1 in
      (s.0, record { live = b.0; near = s.2 }, b.1)

  module _ (place : contains G x ≡ false) where
    module _ (all : (c d : Cell) → IsAround G x c → IsAround G x d → colour c ≡ colour d) where
      whole_group : (c : Cell) → IsAround G x c → bears R G colour (colour c) x ≡ contains (next R G) x
      whole_group c at =
          ap (born R) (count_at-alike (in_group G colour (colour c)) (contains G) x (λ y near.
          cmp.both_ways (in_group G colour (colour c) y) (contains G y)
          (λ h. (of_group G colour (colour c) y h).0)
          (λ h. to_group G colour (colour c) y h (all y c (record { live = h; near = near }) at))))
          ∙ sym (next-born R G x place)

      -- one group alone makes what is made
      pub one_group_is_fair : IsFair R G colour x
      one_group_is_fair = record {
        borne = λ h.
            let s = some_around R (contains G) x (sym (next-born R G x place) ∙ h) in
            (colour s.0, whole_group s.0 (record { live = s.1; near = s.2 }) ∙ h);
        born = λ k h.
            let s = of_bearing k h in
            sym (whole_group s.0 s.1) ∙ ap (λ l. bears R G colour l x) s.2 ∙ h;
        one = λ k l h g.
            let s = of_bearing k h in
            let t = of_bearing l g in
            sym s.2 ∙ all s.0 t.0 s.1 t.1 ∙ t.2;
      }

    -- whether c is a cell of a group that bears
    abbrev may_bear : Cell → Bool
    may_bear c = contains G c && bears R G colour (colour c) x

    found : (k : ℕ) → bears R G colour k x ≡ true → list_any may_bear (around x) ≡ true
    found k h =
        list_any-more (in_group G colour k) may_bear (λ y g.
        let b = of_group G colour k y g in
        and_from (contains G y) (bears R G colour (colour y) x) b.0 (ap (λ l. bears R G colour l x) b.1 ∙ h))
        (around x) (any_around R (in_group G colour k) x h)

    -- what isn't unfair is fair
    pub fair_if_not_unfair : ((IsFair R G colour x → ⊥) → ⊥) → IsFair R G colour x
    fair_if_not_unfair doubted = record {
      borne = λ h. elim (cases_Bool (list_any may_bear (around x))) [
        | inl some ↦
            let s = one_around may_bear x some in
            (colour s.0, (and_parts (contains G s.0) (bears R G colour (colour s.0) x) s.1).1)
        | inr none ↦ absurd (doubted (λ fair. let k = fair.borne h in both_ways (list_any may_bear (around x)) none (found k.0 k.1)))
      ];
      born = λ k h. true_from_ne_false (contains (next R G) x) (λ none. doubted (λ fair. both_ways (contains (next R G) x) none (fair.born k h)));
      one = λ k l h g. elim (cases_eq k l) [ inl e ↦ e | inr other ↦ absurd (doubted (λ fair. other (fair.one k l h g))) ];
    }

module _ (R : Rule) (P : Generation) (Qs : List Generation) (n : ℕ) (are : AreClassesAt R P Qs n) where
  abbrev G : Generation
  G = generation R P n

  abbrev colour : Cell → ℕ
  colour = first_with R n Qs

  colour_of_tied : (c d : Cell) → AreTied R P n c n d → colour c ≡ colour d
  colour_of_tied c d t =
      same_first R n Qs c d (λ Q one.
      cmp.both_ways (contains (generation R Q n) c) (contains (generation R Q n) d)
      (λ h. are.whole Q one c d h t)
      (λ h. are.whole Q one d c h (swapped n n c d t)))

  tied_by_colour : (c d : Cell) → IsIn R P n c → IsIn R P n d → colour c ≡ colour d → AreTied R P n c n d
  tied_by_colour c d h k e =
      let both = first_of_both R n Qs c d (are.cover c h) (are.cover d k) e in
      are.tied both.0 both.1 c d both.2 both.3

  module _ (x : Cell) where
    -- what stays
    module _ (here : contains G x ≡ true) where
      of_near : (Q : Generation) → Contains Qs Q → (c : Cell) → IsIn R Q n c → IsNear c x → IsIn R Q n x
      of_near Q one c h near = are.whole Q one c x h (touching n c x (are.within Q one c h) here near)

      same_next : (Q : Generation) → Contains Qs Q → IsIn R Q n x → contains (next R (generation R Q n)) x ≡ contains (next R G) x
      same_next Q one h =
          next-stays R (generation R Q n) x h
          ∙ ap (stays R) (count_at-alike (contains (generation R Q n)) (contains G) x (λ y near.
          cmp.both_ways (contains (generation R Q n) y) (contains G y)
          (are.within Q one y)
          (λ k. are.whole Q one x y h (touching n x y here k (near_swapped y x near)))))
          ∙ sym (next-stays R G x here)

    -- what is born
    module _ (place : contains G x ≡ false) where
      abbrev Around : Cell → Type 0
      Around c = IsAround G x c

      islands : ColoursIslands G colour
      islands c d h k near = colour_of_tied c d (touching n c d h k near)

      tied_within : (c d : Cell) → Around c → Around d → colour c ≡ colour d → AreTied R P n c n d
      tied_within c d at too e = tied_by_colour c d at.live too.live e

      fair : IsFair R G colour x
      fair = fair_if_not_unfair R G colour x place (λ unfair.
          unfair (one_group_is_fair R G colour x place (λ c d at too.
          colour_of_tied c d (meeting n x colour place islands tied_within unfair c d at too))))

      -- the group of a cell is what its set has
      same_group : (Q : Generation) → Contains Qs Q → (g : Cell) → IsIn R Q n g →
          bears R G colour (colour g) x ≡ born R (count_at (contains (generation R Q n)) x)
      same_group Q one g h =
          ap (born R) (count_at-alike (in_group G colour (colour g)) (contains (generation R Q n)) x (λ y near.
          cmp.both_ways (in_group G colour (colour g) y) (contains (generation R Q n) y)
          (λ k. let b = of_group G colour (colour g) y k in
          are.whole Q one g y h (tied_by_colour g y (are.within Q one g h) b.0 (sym b.1)))
          (λ k. to_group G colour (colour g) y (are.within Q one y k)
          (colour_of_tied y g (are.tied Q one y g k h)))))

      not_here : (Q : Generation) → Contains Qs Q → contains (generation R Q n) x ≡ false
      not_here Q one = false_from_ne_true (contains (generation R Q n) x) (λ h. both_ways (contains G x) place (are.within Q one x h))

  -- what is made of a set, of all is made too, and it is tied to a cell of the set
  pub made_of : (Q : Generation) → Contains Qs Q → (x : Cell) → IsIn R Q (suc n) x →
      IsIn R P (suc n) x × ((c : Cell) × IsIn R Q n c × AreTied R P n c (suc n) x)
  unfolding generation
  made_of Q one x h =
      let g = next_near R (generation R Q n) x h in
      let near : IsNear g.0 x = near_swapped x g.0 g.2 in
      elim (cases_Bool (contains G x)) [
        | inl here ↦
            let in_Q = of_near x here Q one g.0 g.1 near in
            let then = sym (same_next x here Q one in_Q) ∙ h in
            (then, (x, in_Q, staying n x here then))
        | inr place ↦
            let bearing_group : bears R G colour (colour g.0) x ≡ true =
            same_group x place Q one g.0 g.1 ∙ sym (next-born R (generation R Q n) x (not_here x place Q one)) ∙ h in
            let at : IsAround G x g.0 = record { live = are.within Q one g.0 g.1; near = near } in (
              (fair x place).born (colour g.0) bearing_group,
              (
                g.0,
                g.1,
                bearing n x colour place (islands x place) (tied_within x place) (fair x place) g.0 at bearing_group,
              ),
            )
      ]

  -- what is made of all is made of one of the sets
  pub made_by : (x : Cell) → IsIn R P (suc n) x → (Q : Generation) × Contains Qs Q × IsIn R Q (suc n) x
  unfolding generation
  made_by x h =
      elim (cases_Bool (contains G x)) [
        | inl here ↦
            let q = are.cover x here in
            (q.0, q.1, same_next x here q.0 q.1 q.2 ∙ h)
        | inr place ↦
            let k = (fair x place).borne h in
            let s = of_bearing R G colour x k.0 k.1 in
            let q = are.cover s.0 s.1.live in (
              q.0,
              q.1,
              next-born R (generation R q.0 n) x (not_here x place q.0 q.1)
                  ∙ sym (same_group x place q.0 q.1 s.0 q.2) ∙ ap (λ l. bears R G colour l x) s.2 ∙ k.1,
            )
      ]

  -- sets that share a cell are one
  pub same_sets : (A B : Generation) → Contains Qs A → Contains Qs B → (c : Cell) → IsIn R A n c → IsIn R B n c →
      generation R A n ≡ generation R B n
  same_sets A B one two c h k = same_members _ _ (λ y.
      cmp.both_ways (contains (generation R A n) y) (contains (generation R B n) y)
      (λ g. are.whole B two c y k (are.tied A one c y h g))
      (λ g. are.whole A one c y h (are.tied B two c y k g)))

  pub classes_then : AreClassesAt R P Qs (suc n)
  unfolding generation
  classes_then = record {
    cover = made_by;
    within = λ Q one x h. (made_of Q one x h).0;
    tied = λ Q one x y h k.
        let c = (made_of Q one x h).1 in
        let d = (made_of Q one y k).1 in
        through (suc n) n (suc n) x c.0 y (swapped n (suc n) c.0 x c.2)
        (through n n (suc n) c.0 d.0 y (are.tied Q one c.0 d.0 c.1 d.1) d.2);
    whole = λ Q one x y h t.
        let there = (both_in R P (suc n) (suc n) x y t).1 in
        let q = made_by y there in
        let c = (made_of Q one x h).1 in
        let d = (made_of q.0 q.1 y q.2).1 in
        let tie = through n (suc n) n c.0 x d.0 c.2 (through (suc n) (suc n) n x y d.0 t (swapped n (suc n) d.0 y d.2)) in
        let same = same_sets Q q.0 one q.1 d.0 (are.whole Q one c.0 d.0 c.1 tie) d.1 in
        ap (λ H. contains (next R H) y) same ∙ q.2;
  }
