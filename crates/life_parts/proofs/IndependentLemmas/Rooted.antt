-- Sets that are tied within stay so while they are held apart, and where they aren't any longer, cells of two of them are tied.
use Rattle.std.proofs.Common.{◌≡◌, ℕ, zero, suc, ◌<◌, ◌⊎◌, true, List, inl, inr, sym, ap, subst, ◌∙◌, arith}
use Rattle.std.specs.List.{Contains}
use Rattle.std.proofs.lemmas.Bool.{cases_Bool, cases_lt}
use Rattle.life_model.specs.Cell.{Cell}
use Rattle.life_model.specs.Rule.{Rule}
use Rattle.life_model.specs.Generation.{Generation, contains}
use Rattle.life_model.specs.Evolution.{generation}
use Rattle.life_objects.specs.Union.{generations}
use Rattle.life_parts.specs.Parts.Apart.{AreHeldApart, HaveBoth}
use Rattle.life_parts.specs.Parts.Ties.{AreTied, IsIn, bearing, itself, meeting, staying, swapped, through, touching}
use Rattle.life_parts.proofs.PartsLemmas.Apart.{AreSplitAt, both_by_colour, both_by_set, comes_from, fair, in_both, islands, of_near, split_next}
use Rattle.life_parts.proofs.PartsLemmas.Ends.{both_in}
use Rattle.life_parts.proofs.PartsLemmas.Evolving.{in_at_first}
use Rattle.life_parts.proofs.PartsLemmas.Firsts.{first_with}
use Rattle.life_parts.specs.Independent.Held.{are_held_apart}
use Rattle.life_parts.proofs.IndependentLemmas.Added.{AreGroupsOf}
use Rattle.life_parts.proofs.IndependentLemmas.Failing.{AreTorn, AreUnfair, failing}
use Rattle.life_parts.proofs.IndependentLemmas.Sets.{groups_make, sharing}
use Rattle.life_parts.proofs.IndependentLemmas.Telling.{held_by_test}
use Rattle.life_parts.proofs.IndependentLemmas.Through.{make_then, split_first}

-- each set is tied within
abbrev pub AreTiedWithin : Rule → Generation → List Generation → Type 0
AreTiedWithin R P Hs =
    (H : Generation) → Contains Hs H → (c e : Cell) → contains H c ≡ true → contains H e ≡ true → AreTied R P 0 c 0 e

-- Tied cells that are not of one set.
pub record AreTwoTied (R : Rule) (P : Generation) (Hs : List Generation) : Type 0 where
  pub cell : Cell
  pub other : Cell
  pub tied : AreTied R P 0 cell 0 other
  pub parted : HaveBoth Hs cell other → ⊥

module _ (R : Rule) (P : Generation) (Hs : List Generation) (are : AreGroupsOf P Hs) (within : AreTiedWithin R P Hs) where
  -- The sets' generations n make up generation n of P, and each of their cells is tied to one of its set at first.
  pub record AreRootedAt (n : ℕ) : Type 0 where
    pub split : AreSplitAt R P Hs n
    pub root : (Q : Generation) → Contains Hs Q → (x : Cell) → IsIn R Q n x →
        (c : Cell) × (contains Q c ≡ true) × AreTied R P 0 c n x

  rooted_first : AreRootedAt 0
  rooted_first = record {
    split = split_first R P Hs are;
    root = λ Q one x h. (x, in_at_first R Q x h, itself 0 x ((split_first R P Hs are).within Q one x h));
  }

  module _ (n : ℕ) (rooted : AreRootedAt n) where
    pub tied_then : (Q : Generation) → Contains Hs Q → (x y : Cell) → IsIn R Q n x → IsIn R Q n y → AreTied R P n x n y
    tied_then Q one x y h k =
        let c = rooted.root Q one x h in
        let e = rooted.root Q one y k in
        through n 0 n x c.0 y (swapped 0 n c.0 x c.2) (through 0 0 n c.0 e.0 y (within Q one c.0 e.0 c.1 e.1) e.2)

    tied_by_both : (x y : Cell) → IsIn R P n x → HaveBoth (generations R Hs n) x y → AreTied R P n x n y
    tied_by_both x y h both =
        let Q = rooted.split.cover x h in
        tied_then Q.0 Q.1 x y Q.2 (in_both R P Hs n rooted.split x y both Q.0 Q.1 Q.2)

    -- tied cells of two sets' generations come from tied cells of two sets
    pub two_at_first : (x y : Cell) → AreTied R P n x n y → (HaveBoth (generations R Hs n) x y → ⊥) → AreTwoTied R P Hs
    two_at_first x y t parted =
        let ends = both_in R P n n x y t in
        let A = rooted.split.cover x ends.0 in
        let B = rooted.split.cover y ends.1 in
        let c = rooted.root A.0 A.1 x A.2 in
        let e = rooted.root B.0 B.1 y B.2 in
        record {
          cell = c.0;
          other = e.0;
          tied = through 0 n 0 c.0 x e.0 c.2 (through n n 0 x y e.0 t (swapped 0 n e.0 y e.2));
          parted = λ both.
              let same : B.0 ≡ A.0 =
              sharing P Hs (groups_make P Hs are) B.0 A.0 B.1 A.1 e.0 e.1 (both A.0 A.1 c.1) in
              parted (both_by_set R P Hs n rooted.split A.0 A.1 x y A.2 (ap (λ H. contains (generation R H n) y) (sym same) ∙ B.2));
        }

    module _ (held : AreHeldApart R (generation R P n) (generations R Hs n)) where
      root_next : (Q : Generation) → Contains Hs Q → (x : Cell) → IsIn R Q (suc n) x →
          (c : Cell) × (contains Q c ≡ true) × AreTied R P 0 c (suc n) x
      root_next Q one x h =
          let g = comes_from R P Hs n rooted.split held Q one x h in
          let there = (split_next R P Hs n rooted.split held).within Q one x h in
          elim (cases_Bool (contains (generation R P n) x)) [
            | inl here ↦
                let c = rooted.root Q one x (of_near R P Hs n rooted.split held.islands x here Q one g.cell g.has g.near) in
                (c.0, c.1, through 0 n (suc n) c.0 x x c.2 (staying n x here there))
            | inr place ↦
                let c = rooted.root Q one g.cell g.has in (
                  c.0,
                  c.1,
                  through 0 n (suc n) c.0 g.cell x c.2
                      (bearing n x (first_with R n Hs) place (islands R P Hs n rooted.split held x place)
                      (λ a b at too same.
                      tied_by_both a b at.live (both_by_colour R P Hs n rooted.split held a b at.live too.live same))
                      (fair R P Hs n rooted.split held x place) g.cell
                      (record { live = rooted.split.within Q one g.cell g.has; near = g.near }) (g.bearing place)),
                )
          ]

      rooted_next : AreRootedAt (suc n)
      rooted_next = record { split = split_next R P Hs n rooted.split held; root = root_next }

    two_torn : AreTorn (generation R P n) (generations R Hs n) → AreTwoTied R P Hs
    two_torn t = two_at_first t.cell t.other (touching n t.cell t.other t.live t.too t.near) t.parted

    two_unfair : AreUnfair R (generation R P n) (generations R Hs n) → AreTwoTied R P Hs
    two_unfair u =
        two_at_first u.cell u.other
        (meeting n u.place u.colour u.dead u.islands
        (λ a b at too same. tied_by_both a b at.live (u.within a b at too same)) u.unfair u.cell u.other u.at u.too) u.parted

    pub held_or_two : AreHeldApart R (generation R P n) (generations R Hs n) ⊎ AreTwoTied R P Hs
    held_or_two =
        let make = make_then R P Hs are n rooted.split in
        elim (cases_Bool (are_held_apart R (generation R P n) (generations R Hs n))) [
          | inl passes ↦ inl (held_by_test R (generation R P n) (generations R Hs n) make passes)
          | inr fails ↦ elim (failing R (generation R P n) (generations R Hs n) make fails) [
            | inl t ↦ inr (two_torn t)
            | inr u ↦ inr (two_unfair u)
          ]
        ]

  -- Rooted, and held apart before.
  pub record AreHeldBefore (n : ℕ) : Type 0 where
    pub rooted : AreRootedAt n
    pub held : (m : ℕ) → m < n → AreHeldApart R (generation R P m) (generations R Hs m)

  pub held_a_while : (n : ℕ) → AreHeldBefore n ⊎ AreTwoTied R P Hs
  held_a_while zero = inl (record { rooted = rooted_first; held = λ m h. absurd (omega arith) })
  held_a_while (suc n) =
      elim (held_a_while n) [
        | inl so_far ↦ elim (held_or_two n so_far.rooted) [
          | inl held ↦ inl (record {
            rooted = rooted_next n so_far.rooted held;
            held = λ m h. elim (cases_lt m n) [
              | inl sooner ↦ so_far.held m sooner
              | inr last ↦
                  subst (λ k. AreHeldApart R (generation R P k) (generations R Hs k)) (let e : n ≡ m = omega arith in e) held
            ];
          })
          | inr two ↦ inr two
        ]
        | inr two ↦ inr two
      ]
