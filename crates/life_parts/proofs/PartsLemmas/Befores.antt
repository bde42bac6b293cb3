-- A splitting, some generations later and moved.
use Rattle.std.proofs.Common.{◌≡◌, ℕ, ◌+◌, ◌-◌, ◌≤◌, List, [], ◌∷◌, map, sym, ap, subst, ◌∙◌, arith}
use Rattle.std.proofs.lemmas.Int.{ints}
use Rattle.life_model.specs.Cell.{Cell, opposite, plus}
use Rattle.life_model.specs.Rule.{Rule}
use Rattle.life_model.specs.Generation.{Generation}
use Rattle.life_model.specs.Evolution.{generation}
use Rattle.life_model.specs.Recurrence.{RecursBy}
use Rattle.life_model.specs.Symmetry.{translate_of}
use Rattle.life_model.proofs.Cells.{pair}
use Rattle.life_model.proofs.Moves.{moved-empty, moved-moved}
use Rattle.life_model.proofs.Recurrences.{generation-add}
use Rattle.life_model.proofs.Symmetries.{contains-moved, generation-moved}
use Rattle.life_objects.specs.Union.{generations, union, union_of}
use Rattle.life_objects.proofs.Lists.{AllPairs-map, AllPairs-unmap, AllPairs-weaker}
use Rattle.life_objects.proofs.Moving.{union-moved}
use Rattle.life_objects.proofs.Recurring.{moved_back}
use Rattle.life_parts.specs.Parts.Splittings.{AreSplit, AreUntouching}
use Rattle.life_parts.proofs.PartsLemmas.Along.{near_moved}

untouching_moved : (A B : Generation) (v : Cell) → AreUntouching A B → AreUntouching (translate_of A v) (translate_of B v)
untouching_moved A B v far c d h k near =
    far (plus c (opposite v)) (plus d (opposite v)) (sym (contains-moved A v c) ∙ h) (sym (contains-moved B v d) ∙ k)
    (near_moved c d (opposite v) near)

module _ (R : Rule) (j : ℕ) (v : Cell) where
  abbrev pub then : Generation → Generation
  then B = translate_of (generation R B j) v

  pub generation-then : (B : Generation) (n : ℕ) → generation R (then B) n ≡ translate_of (generation R B (j + n)) v
  generation-then B n = generation-moved R (generation R B j) v n ∙ ap (λ H. translate_of H v) (generation-add R B j n)

  union_of-then : (Bs : List Generation) (n : ℕ) →
      union_of (generations R (map then Bs) n) ≡ translate_of (union_of (generations R Bs (j + n))) v
  union_of-then [] n = sym (moved-empty v)
  union_of-then (B ∷ Bs) n =
      (λ i. union (generation-then B n i) (union_of-then Bs n i))
      ∙ sym (union-moved (generation R B (j + n)) (union_of (generations R Bs (j + n))) v)

  pub split_then : (P : Generation) (Bs : List Generation) → AreSplit R P Bs → AreSplit R (then P) (map then Bs)
  split_then P Bs split = record {
    together = λ n.
        union_of-then Bs n ∙ ap (λ H. translate_of H v) (split.together (j + n)) ∙ sym (generation-then P n);
    apart = λ n.
        AllPairs-map AreUntouching (λ Q. generation R Q n) (map then Bs)
        (AllPairs-map (λ A B. AreUntouching (generation R A n) (generation R B n)) then Bs
        (AllPairs-weaker (λ A B. AreUntouching (generation R A (j + n)) (generation R B (j + n)))
        (λ A B. AreUntouching (generation R (then A) n) (generation R (then B) n))
        (λ A B far.
        subst (λ H. AreUntouching H (generation R (then B) n)) (sym (generation-then A n))
        (subst (AreUntouching (translate_of (generation R A (j + n)) v)) (sym (generation-then B n))
        (untouching_moved (generation R A (j + n)) (generation R B (j + n)) v far))) Bs
        (AllPairs-unmap AreUntouching (λ Q. generation R Q (j + n)) Bs (split.apart (j + n)))));
  }

moved_by : (A : Generation) (c d e : Cell) → plus c d ≡ e → translate_of (translate_of A c) d ≡ translate_of A e
moved_by A c d e same = moved-moved A c d ∙ ap (translate_of A) same

-- P recurs after k generations, and after q, which is no later
module _ (R : Rule) (P : Generation) (k q : ℕ) (g f : Cell) (less : q ≤ k) (r : RecursBy R P k g) (s : RecursBy R P q f) where
  abbrev pub ahead : Cell
  ahead = plus g (opposite f)

  abbrev pub behind : Cell
  behind = plus f (opposite g)

  pub stands_ahead : generation R P (k - q) ≡ translate_of P ahead
  stands_ahead =
      let there : translate_of (generation R P (k - q)) f ≡ translate_of P g =
      sym (generation-moved R P f (k - q)) ∙ ap (λ H. generation R H (k - q)) (sym s.again) ∙ generation-add R P q (k - q)
      ∙ ap (generation R P) (let e : q + (k - q) ≡ k = omega arith in e) ∙ r.again in
      sym (moved_back (generation R P (k - q)) f) ∙ ap (λ H. translate_of H (opposite f)) there ∙ moved-moved P g (opposite f)

  -- what sets have become by then, moved back
  abbrev pub since : Generation → Generation
  since B = then R (k - q) behind B

  stands_here : since P ≡ P
  stands_here =
      ap (λ H. translate_of H behind) stands_ahead
      ∙ moved_by P ahead behind (plus ahead (opposite ahead)) (pair (omega (arith, ints)) (omega (arith, ints)))
      ∙ sym (moved-moved P ahead (opposite ahead)) ∙ moved_back P ahead

  pub moved_ahead : (B : Generation) → translate_of (since B) ahead ≡ generation R B (k - q)
  moved_ahead B =
      moved_by (generation R B (k - q)) behind ahead (plus behind (opposite behind)) (pair (omega (arith, ints)) (omega (arith, ints)))
      ∙ sym (moved-moved (generation R B (k - q)) behind (opposite behind)) ∙ moved_back (generation R B (k - q)) behind

  pub splits_here : (Bs : List Generation) → AreSplit R P Bs → AreSplit R P (map since Bs)
  splits_here Bs split = subst (λ H. AreSplit R H (map since Bs)) stands_here (split_then R (k - q) behind P Bs split)

  pub then_become : (B Q : Generation) → generation R B k ≡ translate_of Q g → generation R (since B) q ≡ translate_of Q f
  then_become B Q same =
      generation-then R (k - q) behind B q
      ∙ ap (λ n. translate_of (generation R B n) behind) (let e : (k - q) + q ≡ k = omega arith in e)
      ∙ ap (λ H. translate_of H behind) same ∙ moved_by Q g behind f (pair (omega (arith, ints)) (omega (arith, ints)))
