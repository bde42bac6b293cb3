-- Ties of one set are ties of another where this stands around each cell that both have, moved by shifts, as the one does.
use Rattle.std.proofs.Common.{◌≡◌, ℕ, suc, ◌+◌, true, false, cond, inl, inr, sym, refl, ap, subst, ◌∙◌, arith}
use Rattle.std.specs.Cmp as cmp
use Rattle.std.proofs.lemmas.Bool.{cases_Bool, both_ways, cond-true, cond-false, false_from_ne_true}
use Rattle.std.proofs.lemmas.Int.{ints}
use Rattle.life_model.specs.Cell.{Cell, IsNear, plus, opposite}
use Rattle.life_model.specs.Rule.{Rule, born, stays}
use Rattle.life_model.specs.Generation.{Generation, contains}
use Rattle.life_model.specs.Evolution.{generation, next}
use Rattle.life_model.specs.Recurrence.{RecursBy}
use Rattle.life_model.proofs.Cells.{plus-opposite, plus-opposite_first}
use Rattle.life_model.proofs.Symmetries.{plus_keeps}
use Rattle.life_objects.specs.Apart.{AreNear}
use Rattle.life_objects.proofs.Distances.{AreNear-swap, near_through}
use Rattle.life_parts.specs.Parts.Groups.{ColoursIslands, IsAround, IsFair, bears, in_group}
use Rattle.life_parts.specs.Parts.Ties.{AreTied, IsIn, itself, swapped, through, touching, staying, bearing, meeting, meeting_born, before}
use Rattle.life_parts.proofs.PartsLemmas.Along.{near_moved}
use Rattle.life_parts.proofs.PartsLemmas.Around.{count_at-alike, near_swapped, next-born, next-stays}
use Rattle.life_parts.proofs.PartsLemmas.Classed.{of_group, to_group}
use Rattle.life_parts.proofs.PartsLemmas.Ends.{both_in, contains-later}
use Rattle.life_parts.proofs.PartsLemmas.Shifts.{rewritten}

pub touches_itself : (c : Cell) → IsNear c c
touches_itself c = record { left = omega (arith, ints); right = omega (arith, ints); above = omega (arith, ints); below = omega (arith, ints) }

-- cells that touch are near
pub close : (c d : Cell) → IsNear c d → AreNear c d
close c d h = near_through c c d (touches_itself c) h

-- After a period q of S and a shift there is a shift that ends where some period of T after the shift does.
pub record IsFurther (R : Rule) (T : Generation) (Shift : ℕ → Cell → Type 0) (s : ℕ) (w : Cell) (q : ℕ) (f : Cell) : Type 0 where
  pub further : ℕ
  pub way : Cell
  pub period : ℕ
  pub move : Cell
  pub shift : Shift further way
  pub recurs : RecursBy R T period move
  pub times : further + q ≡ s + period
  pub places : (c : Cell) → plus (plus c f) way ≡ plus (plus c w) move

pub record GoesOver (R : Rule) (S T : Generation) (Shift : ℕ → Cell → Type 0) : Type 0 where
  -- near a cell of S that T has too, T has what S has
  pub alike : (s : ℕ) (w : Cell) → Shift s w → (n : ℕ) (c z : Cell) → IsIn R S n c → IsIn R T (n + s) (plus c w) →
      AreNear c (plus z (opposite w)) →
      contains (generation R T (n + s)) z ≡ contains (generation R S n) (plus z (opposite w))
  -- what touches a cell that T has next, T has
  pub back : (s : ℕ) (w : Cell) → Shift s w → (n : ℕ) (c x : Cell) → IsIn R S n c → IsIn R T (suc n + s) (plus x w) →
      IsNear c x → IsIn R T (n + s) (plus c w)
  pub again : (s : ℕ) (w : Cell) → Shift s w → (q : ℕ) (f : Cell) → RecursBy R S q f → IsFurther R T Shift s w q f

module _ (R : Rule) (S T : Generation) (Shift : ℕ → Cell → Type 0) (goes : GoesOver R S T Shift) where
  module _ (s : ℕ) (w : Cell) (shift : Shift s w) (n : ℕ) where
    abbrev G : Generation
    G = generation R S n

    abbrev H : Generation
    H = generation R T (n + s)

    abbrev home : Cell → Cell
    home z = plus z (opposite w)

    abbrev colour_there : (Cell → ℕ) → Cell → ℕ
    colour_there colour z = cond (contains G (home z)) (colour (home z)) 0

    -- a cell of T that S has
    there : (z : Cell) → IsIn R T (n + s) z → IsIn R T (n + s) (plus (home z) w)
    there z h = ap (contains H) (plus-opposite_first z w) ∙ h

    in_next : (x : Cell) → contains (next R H) x ≡ true → IsIn R T (suc n + s) x
    unfolding generation
    in_next x h = ap (λ k. contains (generation R T k) x) (let e : suc n + s ≡ suc (n + s) = omega arith in e) ∙ h

    to_next : (c x : Cell) → AreTied R T (n + s) c (suc (n + s)) x → AreTied R T (n + s) c (suc n + s) x
    to_next c x t = subst (λ k. AreTied R T (n + s) c k x) (let e : suc (n + s) ≡ suc n + s = omega arith in e) t

    near_there : (c d : Cell) → IsIn R S n c → IsIn R S n d → IsNear c d → IsIn R T (n + s) (plus c w) →
        IsIn R T (n + s) (plus d w)
    near_there c d h k near in_T =
        goes.alike s w shift n c (plus d w) h in_T (subst (AreNear c) (sym (plus-opposite d w)) (close c d near))
        ∙ ap (contains G) (plus-opposite d w) ∙ k

    islands_there : (colour : Cell → ℕ) → ColoursIslands G colour → ColoursIslands H (colour_there colour)
    islands_there colour islands a b h k near =
        let near_home = near_moved a b (opposite w) near in
        let to : contains G (home a) ≡ true → contains G (home b) ≡ true = λ l.
        sym (goes.alike s w shift n (home a) b l (there a h) (close (home a) (home b) near_home)) ∙ k in
        let from : contains G (home b) ≡ true → contains G (home a) ≡ true = λ l.
        sym (goes.alike s w shift n (home b) a l (there b k) (AreNear-swap (home a) (home b) (close (home a) (home b) near_home))) ∙ h in
        elim (cases_Bool (contains G (home a))) [
          | inl l ↦
              cond-true (contains G (home a)) (colour (home a)) 0 l ∙ islands (home a) (home b) l (to l) near_home
              ∙ sym (cond-true (contains G (home b)) (colour (home b)) 0 (to l))
          | inr l ↦
              cond-false (contains G (home a)) (colour (home a)) 0 l
              ∙ sym (cond-false (contains G (home b)) (colour (home b)) 0
              (false_from_ne_true (contains G (home b)) (λ m. both_ways (contains G (home a)) l (from m))))
        ]

    module _ (x : Cell) (colour : Cell → ℕ) (g : Cell) (live : IsIn R S n g) (near_g : IsNear g x)
        (in_T : IsIn R T (n + s) (plus g w)) where
      abbrev shade : Cell → ℕ
      shade = colour_there colour

      abbrev y : Cell
      y = plus x w

      near_home : (z : Cell) → IsNear z y → IsNear (home z) x
      near_home z near = subst (IsNear (home z)) (plus-opposite x w) (near_moved z y (opposite w) near)

      same_near : (z : Cell) → IsNear z y → contains H z ≡ contains G (home z)
      same_near z near =
          goes.alike s w shift n g z live in_T
          (near_through x g (home z) (near_swapped g x near_g) (near_swapped (home z) x (near_home z near)))

      place_there : contains G x ≡ false → contains H y ≡ false
      place_there place = same_near y (touches_itself y) ∙ ap (contains G) (plus-opposite x w) ∙ place

      group_there : (k : ℕ) (z : Cell) → IsNear z y → in_group H shade k z ≡ in_group G colour k (home z)
      group_there k z near =
          cmp.both_ways (in_group H shade k z) (in_group G colour k (home z))
          (λ h.
          let b = of_group H shade k z h in
          let l = sym (same_near z near) ∙ b.0 in
          to_group G colour k (home z) l (sym (cond-true (contains G (home z)) (colour (home z)) 0 l) ∙ b.1))
          (λ h.
          let b = of_group G colour k (home z) h in
          to_group H shade k z (same_near z near ∙ b.0)
          (cond-true (contains G (home z)) (colour (home z)) 0 b.0 ∙ b.1))

      bears_there : (k : ℕ) → bears R H shade k y ≡ bears R G colour k x
      bears_there k =
          ap (born R) (count_at-alike (in_group H shade k) (λ z. in_group G colour k (home z)) y (group_there k)
          ∙ (plus_keeps w).neighbours (in_group G colour k) x)

      next_there : contains G x ≡ false → contains (next R H) y ≡ contains (next R G) x
      next_there place =
          next-born R H y (place_there place)
          ∙ ap (born R) (count_at-alike (contains H) (λ z. contains G (home z)) y same_near
          ∙ (plus_keeps w).neighbours (contains G) x)
          ∙ sym (next-born R G x place)

      stays_there : contains G x ≡ true → contains (next R H) y ≡ contains (next R G) x
      stays_there here =
          next-stays R H y (same_near y (touches_itself y) ∙ ap (contains G) (plus-opposite x w) ∙ here)
          ∙ ap (stays R) (count_at-alike (contains H) (λ z. contains G (home z)) y same_near
          ∙ (plus_keeps w).neighbours (contains G) x)
          ∙ sym (next-stays R G x here)

      fair_there : contains G x ≡ false → IsFair R G colour x → IsFair R H shade y
      fair_there place fair = record {
        borne = λ h. let k = fair.borne (sym (next_there place) ∙ h) in (k.0, bears_there k.0 ∙ k.1);
        born = λ k h. next_there place ∙ fair.born k (sym (bears_there k) ∙ h);
        one = λ k l h m. fair.one k l (sym (bears_there k) ∙ h) (sym (bears_there l) ∙ m);
      }

      fair_here : contains G x ≡ false → IsFair R H shade y → IsFair R G colour x
      fair_here place fair = record {
        borne = λ h. let k = fair.borne (next_there place ∙ h) in (k.0, sym (bears_there k.0) ∙ k.1);
        born = λ k h. sym (next_there place) ∙ fair.born k (bears_there k ∙ h);
        one = λ k l h m. fair.one k l (bears_there k ∙ h) (bears_there l ∙ m);
      }

      around_home : (a : Cell) → IsAround H y a → IsAround G x (home a)
      around_home a at = record { live = sym (same_near a at.near) ∙ at.live; near = near_home a at.near }

      around_there : (a : Cell) → IsAround G x a → IsAround H y (plus a w)
      around_there a at =
          let near = near_moved a x w at.near in
          record {
            live = same_near (plus a w) near ∙ ap (contains G) (plus-opposite a w) ∙ at.live;
            near = near;
          }

      same_home : (a b : Cell) → IsAround H y a → IsAround H y b → shade a ≡ shade b → colour (home a) ≡ colour (home b)
      same_home a b at too e =
          sym (cond-true (contains G (home a)) (colour (home a)) 0 (around_home a at).live) ∙ e
          ∙ cond-true (contains G (home b)) (colour (home b)) 0 (around_home b too).live

      shade_there : (a : Cell) → IsAround G x a → shade (plus a w) ≡ colour a
      shade_there a at =
          ap (λ z. cond (contains G z) (colour z) 0) (plus-opposite a w) ∙ cond-true (contains G a) (colour a) 0 at.live

      within_there : ((a b : Cell) → IsAround G x a → IsAround G x b → colour a ≡ colour b → IsIn R T (n + s) (plus a w) →
          AreTied R T (n + s) (plus a w) (n + s) (plus b w)) → (a b : Cell) → IsAround H y a → IsAround H y b →
          shade a ≡ shade b → AreTied R T (n + s) a (n + s) b
      within_there within a b at too e =
          rewritten R T (n + s) (n + s) (n + s) (n + s) (plus (home a) w) a (plus (home b) w) b refl refl
          (plus-opposite_first a w) (plus-opposite_first b w)
          (within (home a) (home b) (around_home a at) (around_home b too) (same_home a b at too e) (there a at.live))

  -- the tie in T, if T has the one end or the other
  abbrev AreTiedThere : ℕ → Cell → ℕ → Cell → ℕ → Cell → Type 0
  AreTiedThere n c m e s w =
      (IsIn R T (n + s) (plus c w) → AreTied R T (n + s) (plus c w) (m + s) (plus e w))
      × (IsIn R T (m + s) (plus e w) → AreTied R T (n + s) (plus c w) (m + s) (plus e w))

  pub goes_over : (n m : ℕ) (c e : Cell) → AreTied R S n c m e → (s : ℕ) (w : Cell) → Shift s w → AreTiedThere n c m e s w
  unfolding generation
  goes_over n m c e (itself _ _ h) s w shift = (λ k. itself (n + s) (plus c w) k, λ k. itself (n + s) (plus c w) k)
  goes_over n m c e (swapped _ _ _ _ t) s w shift =
      let b = goes_over m n e c t s w shift in
      (λ k. swapped (m + s) (n + s) (plus e w) (plus c w) (b.1 k), λ k. swapped (m + s) (n + s) (plus e w) (plus c w) (b.0 k))
  goes_over n m c e (through _ k _ _ f _ t u) s w shift =
      let a = goes_over n k c f t s w shift in
      let b = goes_over k m f e u s w shift in (
        λ h.
            let v = a.0 h in
            through (n + s) (k + s) (m + s) (plus c w) (plus f w) (plus e w) v
            (b.0 (both_in R T (n + s) (k + s) (plus c w) (plus f w) v).1),
        λ h.
            let v = b.1 h in
            through (n + s) (k + s) (m + s) (plus c w) (plus f w) (plus e w)
            (a.1 (both_in R T (k + s) (m + s) (plus f w) (plus e w) v).0) v,
      )
  goes_over n m c e (touching _ _ _ h k near) s w shift = (
    λ l.
        touching (n + s) (plus c w) (plus e w) l (near_there s w shift n c e h k near l) (near_moved c e w near),
    λ l.
        touching (n + s) (plus c w) (plus e w) (near_there s w shift n e c k h (near_swapped c e near) l) l
        (near_moved c e w near),
  )
  goes_over n m c e (staying _ _ h k) s w shift =
      let then : IsIn R T (n + s) (plus c w) → AreTied R T (n + s) (plus c w) (suc n + s) (plus c w) = λ l.
      to_next s w shift n (plus c w) (plus c w)
      (staying (n + s) (plus c w) l
      (stays_there s w shift n c (λ z. 0) c h (touches_itself c) l h ∙ k)) in
      (then, λ l. then (goes.back s w shift n c c h l (touches_itself c)))
  goes_over n m c e (bearing _ _ colour place islands within fair _ at h) s w shift =
      let then : IsIn R T (n + s) (plus c w) → AreTied R T (n + s) (plus c w) (suc n + s) (plus e w) = λ l.
      to_next s w shift n (plus c w) (plus e w)
      (bearing (n + s) (plus e w) (colour_there s w shift n colour)
      (place_there s w shift n e colour c at.live at.near l place)
      (islands_there s w shift n colour islands)
      (within_there s w shift n e colour c at.live at.near l
      (λ a b x y same o. (goes_over n n a b (within a b x y same) s w shift).0 o))
      (fair_there s w shift n e colour c at.live at.near l place fair) (plus c w)
      (around_there s w shift n e colour c at.live at.near l c at)
      (ap (λ k. bears R (generation R T (n + s)) (colour_there s w shift n colour) k (plus e w))
      (shade_there s w shift n e colour c at.live at.near l c at)
      ∙ bears_there s w shift n e colour c at.live at.near l (colour c) ∙ h)) in
      (then, λ l. then (goes.back s w shift n c e at.live l at.near))
  goes_over n m c e (meeting _ x colour place islands within unfair _ _ at too) s w shift =
      let made : (g : Cell) → IsAround (generation R S n) x g → IsIn R T (n + s) (plus g w) →
      AreTied R T (n + s) (plus c w) (n + s) (plus e w) = λ g by l.
      meeting (n + s) (plus x w) (colour_there s w shift n colour)
      (place_there s w shift n x colour g by.live by.near l place)
      (islands_there s w shift n colour islands)
      (within_there s w shift n x colour g by.live by.near l
      (λ a b y z same o. (goes_over n n a b (within a b y z same) s w shift).0 o))
      (λ fair. unfair (fair_here s w shift n x colour g by.live by.near l place fair)) (plus c w) (plus e w)
      (around_there s w shift n x colour g by.live by.near l c at)
      (around_there s w shift n x colour g by.live by.near l e too) in
      (made c at, made e too)
  goes_over n m c e (meeting_born _ _ colour place islands within unfair _ at born) s w shift =
      let then : IsIn R T (n + s) (plus c w) → AreTied R T (n + s) (plus c w) (suc n + s) (plus e w) = λ l.
      to_next s w shift n (plus c w) (plus e w)
      (meeting_born (n + s) (plus e w) (colour_there s w shift n colour)
      (place_there s w shift n e colour c at.live at.near l place)
      (islands_there s w shift n colour islands)
      (within_there s w shift n e colour c at.live at.near l
      (λ a b x y same o. (goes_over n n a b (within a b x y same) s w shift).0 o))
      (λ fair. unfair (fair_here s w shift n e colour c at.live at.near l place fair)) (plus c w)
      (around_there s w shift n e colour c at.live at.near l c at)
      (next_there s w shift n e colour c at.live at.near l place ∙ born)) in
      (then, λ l. then (goes.back s w shift n c e at.live l at.near))
  goes_over n m c e (before q f r _ _ _ _ t) s w shift =
      let on = goes.again s w shift q f r in
      let v = on.further in
      let u = on.way in
      let p = on.period in
      let d = on.move in
      let times : v + q ≡ s + p = on.times in
      let at_n : (n + q) + v ≡ (n + s) + p = omega arith in
      let at_m : (m + q) + v ≡ (m + s) + p = omega arith in
      let there = goes_over (n + q) (m + q) (plus c f) (plus e f) t v u on.shift in
      let home : AreTied R T ((n + q) + v) (plus (plus c f) u) ((m + q) + v) (plus (plus e f) u) →
      AreTied R T (n + s) (plus c w) (m + s) (plus e w) = λ k.
      before p d on.recurs (n + s) (m + s) (plus c w) (plus e w)
      (rewritten R T ((n + q) + v) ((n + s) + p) ((m + q) + v) ((m + s) + p) (plus (plus c f) u) (plus (plus c w) d)
      (plus (plus e f) u) (plus (plus e w) d) at_n at_m (on.places c) (on.places e) k) in (
        λ h. home (there.0 ((λ i. contains (generation R T (at_n i)) (on.places c i)) ∙ contains-later R T p d on.recurs (n + s) (plus c w) ∙ h)),
        λ h. home (there.1 ((λ i. contains (generation R T (at_m i)) (on.places e i)) ∙ contains-later R T p d on.recurs (m + s) (plus e w) ∙ h)),
      )
