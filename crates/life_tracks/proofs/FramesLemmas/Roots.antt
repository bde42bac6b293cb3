-- Roots stay when numbers are made to point further up.
use Rattle.std.proofs.Common.{◌≡◌, ℕ, true, ◌<◌, ◌≤◌, List, length, length-set, get_or, inl, inr, sym, refl, ap, ◌∙◌, arith}
use Rattle.std.proofs.Math.ListN.{set}
use Rattle.std.proofs.lemmas.Bool.{cases_lt}
use Rattle.std.proofs.lemmas.List.{get_or_default}
use Rattle.life_classes.specs.Forest.{IsJoined, root}
use Rattle.life_classes.proofs.Forests.{root-root, root-set_within, root-up, sum-set-le}
use Rattle.life_tracks.specs.Frames.Ties.{AreSameRoots, IsUnited}

pub same_roots : (f : List ℕ) → AreSameRoots f f
same_roots f = record { long = refl; same = λ k. refl; less = omega arith }

pub same_through : (f g h : List ℕ) → AreSameRoots f g → AreSameRoots g h → AreSameRoots f h
same_through f g h a b =
    let less = a.less in
    let more = b.less in
    record {
      long = b.long ∙ a.long;
      same = λ k. b.same k ∙ a.same k;
      less = omega arith;
    }

-- the number that the next one points to has the same root
pub two_up : (f : List ℕ) (at next further : ℕ) → at < length f → next < length f → next ≡ get_or f at next →
    further ≡ get_or f next further → next < at → further < next → root f further ≡ root f at
two_up f at next further h k is goes_to lower least =
    let first : get_or f at at ≡ next = get_or_default f at at next h ∙ sym is in
    let second : get_or f next next ≡ further = get_or_default f next next further k ∙ sym goes_to in
    sym (root-up f at (omega arith) ∙ ap (root f) first ∙ root-up f next (omega arith) ∙ ap (root f) second)

-- a number may be made to point there
pub same_two_up : (f : List ℕ) (at next further : ℕ) → at < length f → next < length f → next ≡ get_or f at next →
    further ≡ get_or f next further → next < at → further < next → AreSameRoots f (set f at further)
same_two_up f at next further h k is goes_to lower least =
    let first : get_or f at at ≡ next = get_or_default f at at next h ∙ sym is in
    record {
      long = length-set f at further;
      same = λ x. root-set_within f at further h (omega arith) (two_up f at next further h k is goes_to lower least) x;
      less = sum-set-le f at further h (omega arith) (omega arith);
    }

-- what was returned as the root before is still its own root
pub root_still : (f g h : List ℕ) (k r : ℕ) → AreSameRoots f g → AreSameRoots g h → r ≡ root f k → root h r ≡ r
root_still f g h k r a b is =
    b.same r ∙ a.same r ∙ ap (root f) is ∙ root-root f k ∙ sym is

-- what points to a number that is not greater has the root of that number
at_most_up : (f : List ℕ) (k next : ℕ) → get_or f k k ≡ next → next ≤ k → root f k ≡ root f next
at_most_up f k next is low = elim (cases_lt next k) [
  | inl less ↦ root-up f k (omega arith) ∙ ap (root f) is
  | inr past ↦
      let same : k ≡ next = omega arith in
      ap (root f) same
]

-- numbers that point to the same number, which is not greater than either, have the same root
pub siblings : (f : List ℕ) (one other : ℕ) → one < length f → other < length f → get_or f one 0 ≤ one → get_or f other 0 ≤ other →
    get_or f one 0 ≡ get_or f other 0 → root f one ≡ root f other
siblings f one other h k low low_too same =
    at_most_up f one (get_or f one 0) (get_or_default f one one 0 h) low ∙ ap (root f) same
    ∙ sym (at_most_up f other (get_or f other 0) (get_or_default f other other 0 k) low_too)

pub united_already : (f h : List ℕ) (one other : ℕ) → AreSameRoots f h → root f one ≡ root f other → IsUnited f h one other
united_already f h one other a same = record {
  long = a.long;
  coarser = λ k l e. a.same k ∙ e ∙ sym (a.same l);
  both = a.same one ∙ same ∙ sym (a.same other);
  only = λ k l e. inl (sym (a.same k) ∙ e ∙ a.same l);
}

-- what is joined after steps that keep the roots
pub united_by : (f h new : List ℕ) (one other : ℕ) → AreSameRoots f h → IsJoined h new one other true → IsUnited f new one other
united_by f h new one other a joined = record {
  long = joined.long ∙ a.long;
  coarser = λ k l e. joined.coarser k l (a.same k ∙ e ∙ sym (a.same l));
  both = joined.both;
  only = λ k l e. elim (joined.only k l e) [
    | inl x ↦ inl (sym (a.same k) ∙ x ∙ a.same l)
    | inr w ↦ elim w [
      | inl x ↦ inr (inl (sym (a.same k) ∙ x.0 ∙ a.same one, sym (a.same l) ∙ x.1 ∙ a.same other))
      | inr x ↦ inr (inr (sym (a.same k) ∙ x.0 ∙ a.same other, sym (a.same l) ∙ x.1 ∙ a.same one))
    ]
  ];
}
