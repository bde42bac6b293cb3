-- Ties go along with moves, with the eight maps and with time.
use Rattle.std.proofs.Common.{◌≡◌, ℕ, suc, ◌+◌, sym, ap, subst, ◌∙◌, arith}
use Rattle.std.proofs.lemmas.Int.{ints}
use Rattle.life_model.specs.Cell.{Cell, IsNear, plus, opposite}
use Rattle.life_model.specs.Rule.{Rule, born}
use Rattle.life_model.specs.Generation.{Generation, contains}
use Rattle.life_model.specs.Evolution.{generation}
use Rattle.life_model.specs.Recurrence.{RecursBy}
use Rattle.life_model.specs.Symmetry.{image, translate_of}
use Rattle.life_model.proofs.Cells.{plus-swap}
use Rattle.life_model.proofs.Symmetries.{KeepNeighbours, contains-image, plus_keeps}
use Rattle.life_parts.specs.Parts.Groups.{IsAround, bears}
use Rattle.life_parts.proofs.PartsLemmas.Mapped.{IsMapped, around_here, around_there, bears_there, fair_here, fair_there, islands_there}
use Rattle.life_parts.specs.Parts.Ties.{AreTied, IsIn, itself, swapped, through, touching, staying, bearing, meeting, meeting_born, before}

-- Generation n of P' is generation n + s of P, mapped.
pub record GoesAlong (R : Rule) (P P' : Generation) (s : ℕ) (forth back : Cell → Cell) : Type 0 where
  pub keeps : KeepNeighbours forth back
  pub near_forth : (c d : Cell) → IsNear c d → IsNear (forth c) (forth d)
  pub near_back : (c d : Cell) → IsNear c d → IsNear (back c) (back d)
  pub along : (n : ℕ) → generation R P' n ≡ image forth (generation R P (n + s))
  pub again : (p : ℕ) (d : Cell) → RecursBy R P' p d →
      (e : Cell) × RecursBy R P p e × ((c : Cell) → back (plus c d) ≡ plus (back c) e)

module _ (R : Rule) (P P' : Generation) (s : ℕ) (forth back : Cell → Cell) (goes : GoesAlong R P P' s forth back) where
  there : (n : ℕ) (c : Cell) → contains (generation R P (n + s)) (back c) ≡ contains (generation R P' n) c
  there n c =
      sym (contains-image forth back goes.keeps.inverse (generation R P (n + s)) c)
      ∙ ap (λ H. contains H c) (sym (goes.along n))

  here : (n : ℕ) (c : Cell) → contains (generation R P' n) (forth c) ≡ contains (generation R P (n + s)) c
  here n c = sym (there n (forth c)) ∙ ap (contains (generation R P (n + s))) (goes.keeps.inverse.there c)

  mapped : (n : ℕ) → IsMapped (generation R P (n + s)) (generation R P' n) forth back
  mapped n = record { keeps = goes.keeps; near_forth = goes.near_forth; near_back = goes.near_back; is = goes.along n }

  module _ (n : ℕ) (x : Cell) (colour : Cell → ℕ) where
    abbrev G : Generation
    G = generation R P (n + s)

    abbrev G' : Generation
    G' = generation R P' n

    abbrev colour_back : Cell → ℕ
    colour_back c = colour (forth c)

    within_there : ((c d : Cell) → IsAround G' x c → IsAround G' x d → colour c ≡ colour d →
        AreTied R P (n + s) (back c) (n + s) (back d)) → (c d : Cell) → IsAround G (back x) c →
        IsAround G (back x) d → colour_back c ≡ colour_back d → AreTied R P (n + s) c (n + s) d
    within_there within c d at too e =
        subst (λ z. AreTied R P (n + s) c (n + s) z) (goes.keeps.inverse.there d)
        (subst (λ z. AreTied R P (n + s) z (n + s) (back (forth d))) (goes.keeps.inverse.there c)
        (within (forth c) (forth d) (around_here R G G' forth back (mapped n) x colour c at) (around_here R G G' forth back (mapped n) x colour d too) e))

  in_next : (n : ℕ) (c : Cell) → IsIn R P' (suc n) c → IsIn R P (suc (n + s)) (back c)
  in_next n c h =
      ap (λ k. contains (generation R P k) (back c)) (let e : suc (n + s) ≡ suc n + s = omega arith in e)
      ∙ there (suc n) c ∙ h

  to_next : (n : ℕ) (c x : Cell) → AreTied R P (n + s) c (suc (n + s)) x → AreTied R P (n + s) c (suc n + s) x
  to_next n c x t = subst (λ k. AreTied R P (n + s) c k x) (let e : suc (n + s) ≡ suc n + s = omega arith in e) t

  pub tied_along : (n m : ℕ) (c e : Cell) → AreTied R P' n c m e → AreTied R P (n + s) (back c) (m + s) (back e)
  tied_along n m c e (itself _ _ h) = itself (n + s) (back c) (there n c ∙ h)
  tied_along n m c e (swapped _ _ _ _ t) = swapped (m + s) (n + s) (back e) (back c) (tied_along m n e c t)
  tied_along n m c e (through _ k _ _ f _ t u) =
      through (n + s) (k + s) (m + s) (back c) (back f) (back e) (tied_along n k c f t) (tied_along k m f e u)
  tied_along n m c e (touching _ _ _ h k near) =
      touching (n + s) (back c) (back e) (there n c ∙ h) (there n e ∙ k) (goes.near_back c e near)
  tied_along n m c e (staying _ _ h k) =
      to_next n (back c) (back c) (staying (n + s) (back c) (there n c ∙ h) (in_next n c k))
  tied_along n m c e (bearing _ _ colour place islands within fair _ at h) =
      to_next n (back c) (back e)
      (bearing (n + s) (back e) (colour_back n e colour) (there n e ∙ place) (islands_there R (generation R P (n + s)) (generation R P' n) forth back (mapped n) e colour islands)
      (within_there n e colour (λ a b at too same. tied_along n n a b (within a b at too same)))
      (fair_there R (generation R P (n + s)) (generation R P' n) forth back (mapped n) e colour fair) (back c) (around_there R (generation R P (n + s)) (generation R P' n) forth back (mapped n) e colour c at)
      (ap (λ k. bears R (generation R P (n + s)) (colour_back n e colour) k (back e)) (ap colour (goes.keeps.inverse.here c))
      ∙ bears_there R (generation R P (n + s)) (generation R P' n) forth back (mapped n) e colour (colour c) ∙ h))
  tied_along n m c e (meeting _ x colour place islands within unfair _ _ at too) =
      meeting (n + s) (back x) (colour_back n x colour) (there n x ∙ place) (islands_there R (generation R P (n + s)) (generation R P' n) forth back (mapped n) x colour islands)
      (within_there n x colour (λ a b at too same. tied_along n n a b (within a b at too same)))
      (λ fair. unfair (fair_here R (generation R P (n + s)) (generation R P' n) forth back (mapped n) x colour fair)) (back c) (back e) (around_there R (generation R P (n + s)) (generation R P' n) forth back (mapped n) x colour c at)
      (around_there R (generation R P (n + s)) (generation R P' n) forth back (mapped n) x colour e too)
  tied_along n m c e (meeting_born _ _ colour place islands within unfair _ at born) =
      to_next n (back c) (back e)
      (meeting_born (n + s) (back e) (colour_back n e colour) (there n e ∙ place) (islands_there R (generation R P (n + s)) (generation R P' n) forth back (mapped n) e colour islands)
      (within_there n e colour (λ a b at too same. tied_along n n a b (within a b at too same)))
      (λ fair. unfair (fair_here R (generation R P (n + s)) (generation R P' n) forth back (mapped n) e colour fair)) (back c) (around_there R (generation R P (n + s)) (generation R P' n) forth back (mapped n) e colour c at) (in_next n e born))
  tied_along n m c e (before p d r _ _ _ _ t) =
      let w = goes.again p d r in
      let u : AreTied R P ((n + p) + s) (back (plus c d)) ((m + p) + s) (back (plus e d)) =
      tied_along (n + p) (m + p) (plus c d) (plus e d) t in
      let v : AreTied R P ((n + s) + p) (plus (back c) w.0) ((m + s) + p) (plus (back e) w.0) =
      subst (λ z. AreTied R P ((n + s) + p) (plus (back c) w.0) ((m + s) + p) z) (w.2 e)
      (subst (λ z. AreTied R P ((n + s) + p) z ((m + s) + p) (back (plus e d))) (w.2 c)
      (subst (λ k. AreTied R P ((n + s) + p) (back (plus c d)) k (back (plus e d))) (let q : (m + p) + s ≡ (m + s) + p = omega arith in q)
      (subst (λ k. AreTied R P k (back (plus c d)) ((m + p) + s) (back (plus e d))) (let q : (n + p) + s ≡ (n + s) + p = omega arith in q) u))) in
      before p w.0 w.1 (n + s) (m + s) (back c) (back e) v

pub near_moved : (c d v : Cell) → IsNear c d → IsNear (plus c v) (plus d v)
near_moved c d v h = record {
  left = omega (arith, ints);
  right = omega (arith, ints);
  above = omega (arith, ints);
  below = omega (arith, ints);
}

-- where P' is a later generation of P, moved by v
pub goes_along_moved : (R : Rule) (P P' : Generation) (s : ℕ) (v : Cell) →
    ((n : ℕ) → generation R P' n ≡ translate_of (generation R P (n + s)) v) →
    ((p : ℕ) (d : Cell) → RecursBy R P' p d → RecursBy R P p d) →
    GoesAlong R P P' s (λ c. plus c v) (λ c. plus c (opposite v))
goes_along_moved R P P' s v along again = record {
  keeps = plus_keeps v;
  near_forth = λ c d near. near_moved c d v near;
  near_back = λ c d near. near_moved c d (opposite v) near;
  along = along;
  again = λ p d r. (d, again p d r, λ c. plus-swap c d (opposite v));
}

pub tied_moved : (R : Rule) (P P' : Generation) (s : ℕ) (v : Cell) →
    ((n : ℕ) → generation R P' n ≡ translate_of (generation R P (n + s)) v) →
    ((p : ℕ) (d : Cell) → RecursBy R P' p d → RecursBy R P p d) → (n m : ℕ) (c e : Cell) →
    AreTied R P' n c m e → AreTied R P (n + s) (plus c (opposite v)) (m + s) (plus e (opposite v))
tied_moved R P P' s v along again n m c e t =
    tied_along R P P' s (λ c. plus c v) (λ c. plus c (opposite v)) (goes_along_moved R P P' s v along again) n m c e t
