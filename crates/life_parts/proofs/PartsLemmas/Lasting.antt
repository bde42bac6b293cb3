-- A part is one by itself.
use Rattle.std.proofs.Common.{◌≡◌, ℕ, suc, ◌+◌, ◌*◌, true, false, List, sym, refl, ap, subst, ◌∙◌, arith}
use Rattle.std.specs.Cmp as cmp
use Rattle.std.specs.List.{Contains}
use Rattle.std.proofs.lemmas.Bool.{both_ways, false_from_ne_true}
use Rattle.life_model.specs.Cell.{Cell, IsNear, plus, opposite}
use Rattle.life_model.specs.Rule.{Rule, born}
use Rattle.life_model.specs.Generation.{Generation, contains}
use Rattle.life_model.specs.Evolution.{generation, next}
use Rattle.life_model.specs.Recurrence.{RecursBy}
use Rattle.life_model.specs.Symmetry.{translate_of}
use Rattle.life_model.proofs.Cells.{plus-opposite}
use Rattle.life_objects.specs.Drift.{multiple_of}
use Rattle.life_objects.proofs.Recurring.{moved_back}
use Rattle.life_parts.specs.Parts.Groups.{ColoursIslands, IsAround, IsFair, bears, in_group}
use Rattle.life_parts.specs.Parts.Ties.{AreTied, IsIn, itself, swapped, through, touching, staying, bearing, meeting, meeting_born, before}
use Rattle.life_parts.proofs.PartsLemmas.Around.{count_at-alike, next-born}
use Rattle.life_parts.proofs.PartsLemmas.Classed.{AreClassesAt, of_bearing, of_group, to_group}
use Rattle.life_parts.proofs.PartsLemmas.Ends.{both_in}
use Rattle.life_parts.proofs.PartsLemmas.Evolving.{came_from, classes_at, whole_later}
use Rattle.life_parts.proofs.PartsLemmas.Recurring.{moved_set, set_recurs_soon}
use Rattle.life_parts.proofs.PartsLemmas.Shifts as shifts

module _ (R : Rule) (P : Generation) (Qs : List Generation) (first : AreClassesAt R P Qs 0) where
  -- what is tied to a set's film is in it
  pub stays_in : (Q : Generation) → Contains Qs Q → (n m : ℕ) (c e : Cell) → AreTied R P n c m e → IsIn R Q n c →
      IsIn R Q m e
  stays_in Q one n m c e t h =
      let a = came_from R P Qs first Q one n c h in
      whole_later R P Qs first Q one m a.0 e a.1 (through 0 n m a.0 c e a.2 t)

  module _ (Q : Generation) (one : Contains Qs Q) (n : ℕ) (x : Cell) (colour : Cell → ℕ) where
    abbrev G : Generation
    G = generation R P n

    abbrev H : Generation
    H = generation R Q n

    abbrev Within : Type 0
    Within = (c d : Cell) → IsAround G x c → IsAround G x d → colour c ≡ colour d → AreTied R P n c n d

    in_G : (c : Cell) → contains H c ≡ true → contains G c ≡ true
    in_G c h = (classes_at R P Qs first n).within Q one c h

    around_G : (c : Cell) → IsAround H x c → IsAround G x c
    around_G c at = record { live = in_G c at.live; near = at.near }

    place_H : contains G x ≡ false → contains H x ≡ false
    place_H place = false_from_ne_true (contains H x) (λ h. both_ways (contains G x) place (in_G x h))

    islands_H : ColoursIslands G colour → ColoursIslands H colour
    islands_H islands c d h k near = islands c d (in_G c h) (in_G d k) near

    -- the group of a cell of Q bears the same in Q as among all
    same_bears : Within → (g : Cell) → IsAround H x g → bears R H colour (colour g) x ≡ bears R G colour (colour g) x
    same_bears within g at =
        ap (born R) (count_at-alike (in_group H colour (colour g)) (in_group G colour (colour g)) x (λ y near.
        cmp.both_ways (in_group H colour (colour g) y) (in_group G colour (colour g) y)
        (λ h. let b = of_group H colour (colour g) y h in to_group G colour (colour g) y (in_G y b.0) b.1)
        (λ h.
        let b = of_group G colour (colour g) y h in
        to_group H colour (colour g) y
        (stays_in Q one n n g y (within g y (around_G g at) (record { live = b.0; near = near }) (sym b.1)) at.live) b.1)))

    module _ (place : contains G x ≡ false) (islands : ColoursIslands G colour) (within : Within) where
      module _ (fair : IsFair R G colour x) where
        -- what a group bears is in Q where the group is
        bears_all : (k : ℕ) → bears R H colour k x ≡ true → (g : Cell) × IsAround H x g × (colour g ≡ k) × (bears R G colour k x ≡ true)
        bears_all k h =
            let s = of_bearing R H colour x k h in
            let e : bears R G colour (colour s.0) x ≡ true =
            sym (same_bears within s.0 s.1) ∙ ap (λ l. bears R H colour l x) s.2 ∙ h in
            (s.0, s.1, s.2, ap (λ l. bears R G colour l x) (sym s.2) ∙ e)

        fair_H : IsFair R H colour x
        unfolding generation
        fair_H = record {
          borne = λ h.
              let k = fair.borne ((classes_at R P Qs first (suc n)).within Q one x h) in
              let s = of_bearing R G colour x k.0 k.1 in
              let e : bears R G colour (colour s.0) x ≡ true = ap (λ l. bears R G colour l x) s.2 ∙ k.1 in
              let t = bearing n x colour place islands within fair s.0 s.1 e in
              let g : IsIn R Q n s.0 = stays_in Q one (suc n) n x s.0 (swapped n (suc n) s.0 x t) h in
              (colour s.0, same_bears within s.0 (record { live = g; near = s.1.near }) ∙ e);
          born = λ k h.
              let s = bears_all k h in
              let e : bears R G colour (colour s.0) x ≡ true = ap (λ l. bears R G colour l x) s.2 ∙ s.3 in
              stays_in Q one n (suc n) s.0 x (bearing n x colour place islands within fair s.0 (around_G s.0 s.1) e) s.1.live;
          one = λ k l h g. fair.one k l (bears_all k h).3 (bears_all l g).3;
        }

      module _ (unfair : IsFair R G colour x → ⊥) (c : Cell) (at : IsAround G x c) (in_Q : IsIn R Q n c) where
        -- all that is around is in Q
        all_in_Q : (y : Cell) → IsNear y x → contains H y ≡ contains G y
        all_in_Q y near =
            cmp.both_ways (contains H y) (contains G y) (in_G y)
            (λ h. stays_in Q one n n c y
            (meeting n x colour place islands within unfair c y at (record { live = h; near = near })) in_Q)

        all_bears : (k : ℕ) → bears R H colour k x ≡ bears R G colour k x
        all_bears k =
            ap (born R) (count_at-alike (in_group H colour k) (in_group G colour k) x (λ y near.
            cmp.both_ways (in_group H colour k y) (in_group G colour k y)
            (λ h. let b = of_group H colour k y h in to_group G colour k y (sym (all_in_Q y near) ∙ b.0) b.1)
            (λ h. let b = of_group G colour k y h in to_group H colour k y (all_in_Q y near ∙ b.0) b.1)))

        same_next : contains (next R H) x ≡ contains (next R G) x
        same_next =
            next-born R H x (place_H place) ∙ ap (born R) (count_at-alike (contains H) (contains G) x all_in_Q)
            ∙ sym (next-born R G x place)

        unfair_H : IsFair R H colour x → ⊥
        unfair_H fair = unfair (record {
          borne = λ h. let k = fair.borne (same_next ∙ h) in (k.0, sym (all_bears k.0) ∙ k.1);
          born = λ k h. sym same_next ∙ fair.born k (all_bears k ∙ h);
          one = λ k l h g. fair.one k l (all_bears k ∙ h) (all_bears l ∙ g);
        })

  module _ (p : ℕ) (d : Cell) (r : RecursBy R P p d) where
    again_tied : (Q A : Generation) → Contains Qs Q → Contains Qs A → (q : ℕ) (f : Cell) → RecursBy R P q f →
        (n m : ℕ) (c e : Cell) → IsIn R Q n c → IsIn R A (n + q) (plus c f) →
        AreTied R A (n + q) (plus c f) (m + q) (plus e f) → AreTied R Q n c m e
    again_tied Q A one other q f s n m c e h k t =
        let a = came_from R P Qs first Q one n c h in
        let up : AreTied R P (0 + q) (plus a.0 f) (n + q) (plus c f) = shifts.tied_later R P q f s 0 n a.0 c a.2 in
        let there : IsIn R A q (plus a.0 f) =
        stays_in A other (n + q) q (plus c f) (plus a.0 f)
        (shifts.rewritten R P (n + q) (n + q) (0 + q) q (plus c f) (plus c f) (plus a.0 f) (plus a.0 f) (omega arith)
        (omega arith) refl refl (swapped (0 + q) (n + q) (plus a.0 f) (plus c f) up)) k in
        let same : generation R A q ≡ translate_of Q f = moved_set R P Qs first q f s Q A one other a.0 a.1 there in
        let b = came_from R P Qs first A other q (plus a.0 f) there in
        let again = set_recurs_soon R P Qs first p d r A other b.0 b.1 in
        let u : AreTied R (generation R A q) n (plus c f) m (plus e f) =
        shifts.tied_to_phase R A (again.0 * p) (multiple_of again.0 d) again.3 q n m (plus c f) (plus e f) t in
        let v : AreTied R (translate_of Q f) n (plus c f) m (plus e f) =
        subst (λ B. AreTied R B n (plus c f) m (plus e f)) same u in
        shifts.rewritten R Q n n m m (plus (plus c f) (opposite f)) c (plus (plus e f) (opposite f)) e refl refl
        (plus-opposite c f) (plus-opposite e f)
        (subst (λ B. AreTied R B n (plus (plus c f) (opposite f)) m (plus (plus e f) (opposite f))) (moved_back Q f)
        (shifts.tied_of_moved R (translate_of Q f) (opposite f) n m (plus c f) (plus e f) v))

    -- what is tied to a part in the set is tied to it in the part alone
    pub tied_alone : (n m : ℕ) (c e : Cell) → AreTied R P n c m e → (Q : Generation) → Contains Qs Q → IsIn R Q n c →
        AreTied R Q n c m e
    tied_alone n m c e (itself _ _ h) Q one in_Q = itself n c in_Q
    tied_alone n m c e (swapped _ _ _ _ t) Q one in_Q =
        swapped m n e c (tied_alone m n e c t Q one (stays_in Q one n m c e (swapped m n e c t) in_Q))
    tied_alone n m c e (through _ k _ _ f _ t u) Q one in_Q =
        through n k m c f e (tied_alone n k c f t Q one in_Q) (tied_alone k m f e u Q one (stays_in Q one n k c f t in_Q))
    tied_alone n m c e (touching _ _ _ h k near) Q one in_Q =
        touching n c e in_Q (stays_in Q one n n c e (touching n c e h k near) in_Q) near
    tied_alone n m c e (staying _ _ h k) Q one in_Q =
        staying n c in_Q (stays_in Q one n (suc n) c c (staying n c h k) in_Q)
    tied_alone n m c e (bearing _ _ colour place islands within fair _ at h) Q one in_Q =
        let around : IsAround (generation R Q n) e c = record { live = in_Q; near = at.near } in
        bearing n e colour (place_H Q one n e colour place) (islands_H Q one n e colour islands)
        (λ a b x y same. tied_alone n n a b (within a b (around_G Q one n e colour a x) (around_G Q one n e colour b y) same) Q one x.live)
        (fair_H Q one n e colour place islands within fair) c around
        (same_bears Q one n e colour within c around ∙ h)
    tied_alone n m c e (meeting _ x colour place islands within unfair _ _ at too) Q one in_Q =
        meeting n x colour (place_H Q one n x colour place) (islands_H Q one n x colour islands)
        (λ a b y z same. tied_alone n n a b (within a b (around_G Q one n x colour a y) (around_G Q one n x colour b z) same) Q one y.live)
        (unfair_H Q one n x colour place islands within unfair c at in_Q) c e (record { live = in_Q; near = at.near })
        (record { live = stays_in Q one n n c e (meeting n x colour place islands within unfair c e at too) in_Q; near = too.near })
    tied_alone n m c e (meeting_born _ _ colour place islands within unfair _ at h) Q one in_Q =
        meeting_born n e colour (place_H Q one n e colour place) (islands_H Q one n e colour islands)
        (λ a b y z same. tied_alone n n a b (within a b (around_G Q one n e colour a y) (around_G Q one n e colour b z) same) Q one y.live)
        (unfair_H Q one n e colour place islands within unfair c at in_Q) c (record { live = in_Q; near = at.near })
        (stays_in Q one n (suc n) c e (meeting_born n e colour place islands within unfair c at h) in_Q)
    tied_alone n m c e (before q f s _ _ _ _ t) Q one in_Q =
        let a = (classes_at R P Qs first (n + q)).cover (plus c f) (both_in R P (n + q) (m + q) (plus c f) (plus e f) t).0 in
        again_tied Q a.0 one a.1 q f s n m c e in_Q a.2
        (tied_alone (n + q) (m + q) (plus c f) (plus e f) t a.0 a.1 a.2)
