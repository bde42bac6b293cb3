-- Forests that join places of a generation, and only such as are tied.
use Rattle.std.proofs.Common.{◌≡◌, ℕ, ◌+◌, ◌<◌, ◌≤◌, true, List, length, get_or, inl, inr, sym, refl, ap, subst, ◌∙◌, arith}
use Rattle.std.specs.List.{Contains, range_with_len}
use Rattle.std.proofs.lemmas.Bool.{cases_lt}
use Rattle.std.proofs.lemmas.List.{get_or_default}
use Rattle.std.proofs.lemmas.List.Elements.{Contains-get_or, at_from_Contains}
use Rattle.std.proofs.lemmas.List.FromFn.{get_or-range_with_len, length-range_with_len}
use Rattle.life_model.specs.Cell.{Cell, origin}
use Rattle.life_model.specs.Generation.{Generation, cells, contains, empty}
use Rattle.life_classes.specs.Forest.{root}
use Rattle.life_classes.proofs.Forests.{root-past, root-stays}
use Rattle.life_islands.proofs.Labelled.{place_in_list}
use Rattle.life_tracks.specs.Frames.Bearers.{IsBearer}
use Rattle.life_tracks.specs.Frames.Ties.{AreSameRoots, AreTied, HasRootOf, IsFurther, IsJoined, IsUnited, JoinsTied, bearing, itself, swapped, through}

-- what was read from a list is in it
pub contained : (Ss : List Generation) (n : ℕ) (S : Generation) → n < length Ss → S ≡ get_or Ss n S → Contains Ss S
contained Ss n S inside is = subst (Contains Ss) (sym is) (Contains-get_or Ss n S inside)

-- ---- further

pub further_itself : (f : List ℕ) → IsFurther f f
further_itself f = record { long = refl; coarser = λ k l e. e }

pub further_through : (f g h : List ℕ) → IsFurther f g → IsFurther g h → IsFurther f h
further_through f g h a b = record { long = b.long ∙ a.long; coarser = λ k l e. b.coarser k l (a.coarser k l e) }

pub further_united : (f g : List ℕ) (one other : ℕ) → IsUnited f g one other → IsFurther f g
further_united f g one other a = record { long = a.long; coarser = a.coarser }

pub further_same : (f g : List ℕ) → AreSameRoots f g → IsFurther f g
further_same f g a = record { long = a.long; coarser = λ k l e. a.same k ∙ e ∙ sym (a.same l) }

module _ (G : Generation) where
  pub rooted_still : (f g : List ℕ) (c : Cell) (r : ℕ) → IsFurther f g → HasRootOf G f c r → HasRootOf G g c r
  rooted_still f g c r a h = record { place = h.place; bears = h.bears; one = a.coarser h.place r h.one }

  pub joined_still : (f g : List ℕ) (S : Generation) → IsFurther f g → IsJoined G f S → IsJoined G g S
  joined_still f g S a all c d h k =
      let b = all c d h k in
      record { first = b.first; second = b.second; bears = b.bears; bears_too = b.bears_too; one = a.coarser b.first b.second b.one }

  -- cells that all have a bearer with the same root
  pub joined_by_root : (f : List ℕ) (S : Generation) (cs : List Cell) (r : ℕ) → cs ≡ cells S →
      ((k : ℕ) → k < length cs → HasRootOf G f (get_or cs k origin) r) → IsJoined G f S
  joined_by_root f S cs r is all c d h k =
      let i = place_in_list S cs is c h in
      let j = place_in_list S cs is d k in
      let a = all i.0 i.1 in
      let b = all j.0 j.1 in
      record {
        first = a.place;
        second = b.place;
        bears = subst (λ e. IsBearer G e a.place) i.2 a.bears;
        bears_too = subst (λ e. IsBearer G e b.place) j.2 b.bears;
        one = a.one ∙ sym b.one;
      }

  pub joined_of_none : (f : List ℕ) (S : Generation) (cs : List Cell) → cs ≡ cells S → length cs ≡ 0 → IsJoined G f S
  joined_of_none f S cs is none c d h k = let at = place_in_list S cs is c h in let within = at.1 in absurd (omega arith)

  -- the first has its own root
  pub first_rooted : (f : List ℕ) (cs : List Cell) (r : ℕ) → IsBearer G (get_or cs 0 origin) r → (k : ℕ) → k < 1 →
      HasRootOf G f (get_or cs k origin) r
  first_rooted f cs r bears k below =
      let here : 0 ≡ k = omega arith in
      record { place = r; bears = subst (λ j. IsBearer G (get_or cs j origin) r) here bears; one = refl }

  -- one more has that root
  pub one_more_rooted : (f g : List ℕ) (cs : List Cell) (n r m : ℕ) → IsUnited f g r m → IsBearer G (get_or cs n origin) m →
      ((k : ℕ) → k < n → HasRootOf G f (get_or cs k origin) r) → (k : ℕ) → k < n + 1 → HasRootOf G g (get_or cs k origin) r
  one_more_rooted f g cs n r m united bears all k below = elim (cases_lt k n) [
    | inl before ↦ rooted_still f g (get_or cs k origin) r (further_united f g r m united) (all k before)
    | inr past ↦
        let here : n ≡ k = omega arith in
        record { place = m; bears = subst (λ j. IsBearer G (get_or cs j origin) m) here bears; one = sym united.both }
  ]

  -- one more set is joined
  pub one_more_joined : (f g : List ℕ) (Ss : List Generation) (n : ℕ) (S : Generation) → n < length Ss →
      S ≡ get_or Ss n S → IsFurther f g → IsJoined G g S → ((k : ℕ) → k < n → IsJoined G f (get_or Ss k empty)) → (k : ℕ) → k < n + 1 →
      IsJoined G g (get_or Ss k empty)
  one_more_joined f g Ss n S inside is further one all k below = elim (cases_lt k n) [
    | inl before ↦ joined_still f g (get_or Ss k empty) further (all k before)
    | inr past ↦
        let here : n ≡ k = omega arith in
        let same : S ≡ get_or Ss n empty = is ∙ get_or_default Ss n S empty inside in
        subst (λ j. IsJoined G g (get_or Ss j empty)) here (subst (IsJoined G g) same one)
  ]

  pub all_joined : (f : List ℕ) (Ss : List Generation) (n : ℕ) → length Ss ≤ n →
      ((k : ℕ) → k < n → IsJoined G f (get_or Ss k empty)) → (S : Generation) → Contains Ss S → IsJoined G f S
  all_joined f Ss n past all S one =
      let at = at_from_Contains Ss S one in
      let within : at.0 < length Ss = at.1 in
      subst (IsJoined G f) (at.2 empty) (all at.0 (omega arith))

  module _ (Ss : List Generation) where
    -- two bearers of cells of one set may be joined
    pub tied_more : (f g : List ℕ) (one other : ℕ) (S : Generation) (c d : Cell) → Contains Ss S → contains S c ≡ true →
        contains S d ≡ true → IsBearer G c one → IsBearer G d other → IsUnited f g one other → JoinsTied G Ss f →
        JoinsTied G Ss g
    tied_more f g one other S c d in_it h k bears too united tied m n same =
        let link : AreTied G Ss one other = bearing S c d one other in_it h k bears too in
        elim (united.only m n same) [
          | inl e ↦ tied m n e
          | inr w ↦ elim w [
            | inl x ↦ through m one n (tied m one x.0) (through one other n link (swapped n other (tied n other x.1)))
            | inr x ↦
                through m other n (tied m other x.0)
                (through other one n (swapped one other link) (swapped n one (tied n one x.1)))
          ]
        ]

    pub tied_same : (f g : List ℕ) → AreSameRoots f g → JoinsTied G Ss f → JoinsTied G Ss g
    tied_same f g a tied m n same = tied m n (sym (a.same m) ∙ same ∙ a.same n)

    -- numbers that are all roots
    pub tied_at_first : (f : List ℕ) (n : ℕ) → f ≡ range_with_len 0 n → JoinsTied G Ss f
    tied_at_first f n is m k same =
        subst (AreTied G Ss m) (sym (at_first m) ∙ same ∙ at_first k) (itself m)
      where
        at_first : (m : ℕ) → root f m ≡ m
        at_first m = elim (cases_lt m n) [
          | inl inside ↦
              ap (λ g. root g m) is
              ∙ root-stays (range_with_len 0 n) m (omega (arith, get_or-range_with_len 0 n m m inside))
          | inr past ↦ root-past f m (omega (arith, ap length is, length-range_with_len 0 n))
        ]
