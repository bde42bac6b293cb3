-- Where 3 alone is among the births, sets that never touch and into which a set splits join what is tied, but for forks.
use Rattle.std.proofs.Common.{◌≡◌, ℕ, suc, ◌≤◌, ◌⊎◌, Bool, true, false, cond, List, inl, inr, sym, ap, ◌∙◌, eqb-true, arith}
use Rattle.std.specs.List.{Contains, list_any}
use Rattle.std.proofs.lemmas.Bool.{cases_Bool, both_ways, cond-true, cond-false, false_from_ne_true}
use Rattle.std.proofs.lemmas.List.Sums.{count_by-le-length}
use Rattle.life_model.specs.Cell.{Cell, IsNear, around}
use Rattle.life_model.specs.Rule.{Rule, born}
use Rattle.life_model.specs.Generation.{Generation, contains}
use Rattle.life_model.specs.Evolution.{count_at, generation, next}
use Rattle.life_objects.specs.Union.{generations}
use Rattle.life_objects.proofs.Lists.{AllPairs-unmap, related_or_same}
use Rattle.life_objects.proofs.Members.{found_in, in_list}
use Rattle.life_parts.specs.Parts.Apart.{AreOfOneSet, HaveBoth}
use Rattle.life_parts.specs.Parts.Forks.{HasBirthsAtThreeAlone, IsForkOf}
use Rattle.life_parts.specs.Parts.Groups.{ColoursIslands, IsAround, bears, in_group}
use Rattle.life_parts.specs.Parts.Splittings.{AreSplit, AreUntouching}
use Rattle.life_parts.specs.Parts.Ties.{IsIn}
use Rattle.life_parts.proofs.PartsLemmas.Apart.{AreSplitAt, both_by_set, in_both}
use Rattle.life_parts.proofs.PartsLemmas.Around.{near_swapped, next-born, one_around}
use Rattle.life_parts.proofs.PartsLemmas.Classed.{of_bearing, of_group, to_group}
use Rattle.life_parts.proofs.PartsLemmas.Corners.{IsParted}
use Rattle.life_parts.proofs.PartsLemmas.Following.{AreFollowed, IsEachFollowed}
use Rattle.life_parts.proofs.PartsLemmas.Numbers.{same_where_as_many, some_near}
use Rattle.life_parts.proofs.PartsLemmas.Parted.{fork_where_parted}
use Rattle.life_objects.proofs.Ring.{near_itself}

module _ (R : Rule) (P : Generation) (Qs : List Generation) (split : AreSplit R P Qs) (n : ℕ) where
  abbrev Untouching : Generation → Generation → Type 0
  Untouching A B = AreUntouching (generation R A n) (generation R B n)

  -- sets that touch are one
  touching_sets : (A B : Generation) → Contains Qs A → Contains Qs B → (c d : Cell) → IsIn R A n c → IsIn R B n d →
      IsNear c d → A ≡ B
  touching_sets A B one two c d h k near =
      elim (related_or_same Untouching (λ X Y far a b g l close. far b a l g (near_swapped a b close)) Qs A B one two
      (AllPairs-unmap AreUntouching (λ Q. generation R Q n) Qs (split.apart n))) [
        | inl far ↦ absurd (far c d h k near)
        | inr same ↦ same
      ]

  pub split_at : AreSplitAt R P Qs n
  split_at = record {
    cover = λ c h. found_in R n Qs c (ap (λ H. contains H c) (split.together n) ∙ h);
    within = λ Q one c h. ap (λ H. contains H c) (sym (split.together n)) ∙ in_list R n Qs Q c one h;
    one = λ A B one two c h k. touching_sets A B one two c c h k (near_itself c);
  }

  pub whole_islands : (c d : Cell) → IsIn R P n c → IsIn R P n d → IsNear c d → HaveBoth (generations R Qs n) c d
  whole_islands c d h k near =
      let A = split_at.cover c h in
      let B = split_at.cover d k in
      let same : B.0 ≡ A.0 = touching_sets B.0 A.0 B.1 A.1 d c B.2 A.2 (near_swapped c d near) in
      both_by_set R P Qs n split_at A.0 A.1 c d A.2 (ap (λ H. contains (generation R H n) d) (sym same) ∙ B.2)

  pub in_one_set : (c d : Cell) → IsIn R P n c → IsIn R P n d → IsNear c d → (Q : Generation) → Contains Qs Q → IsIn R Q n c →
      IsIn R Q n d
  in_one_set c d h k near Q one in_Q = in_both R P Qs n split_at c d (whole_islands c d h k near) Q one in_Q

module _ (R : Rule) (births : HasBirthsAtThreeAlone R) where
  pub three_by_birth : (p : Cell → Bool) (x : Cell) → born R (count_at p x) ≡ true → count_at p x ≡ 3
  three_by_birth p x h =
      let few : count_at p x ≤ 8 = count_by-le-length p (around x) in
      eqb-true (count_at p x) 3 (sym (births (count_at p x) few) ∙ h)

  birth_by_three : (n : ℕ) → n ≡ 3 → born R n ≡ true
  birth_by_three n three = ap (born R) three ∙ births 3 (omega arith)

module _ (R : Rule) (births : HasBirthsAtThreeAlone R) (P : Generation) (Qs : List Generation) (split : AreSplit R P Qs) (n : ℕ) where
  abbrev G : Generation
  G = generation R P n

  abbrev now : AreSplitAt R P Qs n
  now = split_at R P Qs split n

  abbrev then : AreSplitAt R P Qs (suc n)
  then = split_at R P Qs split (suc n)

  abbrev has : Generation → Cell → Bool
  has Q = contains (generation R Q n)

  module _ (x : Cell) (place : contains G x ≡ false) where
    not_there : (Q : Generation) → Contains Qs Q → has Q x ≡ false
    not_there Q one = false_from_ne_true (has Q x) (λ h. both_ways (contains G x) place (now.within Q one x h))

    -- what is born of a set
    three_of_set : (Q : Generation) → Contains Qs Q → IsIn R Q (suc n) x → count_at (has Q) x ≡ 3
    unfolding generation
    three_of_set Q one h = three_by_birth R births (has Q) x (sym (next-born R (generation R Q n) x (not_there Q one)) ∙ h)

    born_of_three : (Q : Generation) → Contains Qs Q → count_at (has Q) x ≡ 3 → contains (next R G) x ≡ true
    unfolding generation
    born_of_three Q one three =
        then.within Q one x (next-born R (generation R Q n) x (not_there Q one) ∙ birth_by_three R births (count_at (has Q) x) three)

    -- what is born is born of a set that has all that is around
    module _ (a o : Cell) (at : IsAround G x a) (by : IsAround G x o) (A : Generation) (one : Contains Qs A)
        (in_A : IsIn R A n a) (not_in_A : has A o ≡ false) where
      no_other : (Q : Generation) → Contains Qs Q → IsIn R Q n a → IsIn R Q n o → ⊥
      no_other Q listed h k =
          let same : Q ≡ A = now.one Q A listed one a h in_A in
          both_ways (has A o) not_in_A (ap (λ H. has H o) (sym same) ∙ k)

      not_born : contains (next R G) x ≡ true → ⊥
      unfolding generation
      not_born h =
          let Q = then.cover x h in
          let three : count_at (contains G) x ≡ 3 = three_by_birth R births (contains G) x (sym (next-born R G x place) ∙ h) in
          let many : count_at (has Q.0) x ≡ count_at (contains G) x = three_of_set Q.0 Q.1 Q.2 ∙ sym three in
          let all = same_where_as_many (has Q.0) (contains G) x (now.within Q.0 Q.1) many place in
          no_other Q.0 Q.1 (all a at.near at.live) (all o by.near by.live)

      not_all_in : (Q : Generation) → Contains Qs Q → (y : Cell) × IsAround G x y × (has Q y ≡ false)
      not_all_in Q listed =
          elim (cases_Bool (has Q o)) [
            | inl k ↦ (a, at, false_from_ne_true (has Q a) (λ h. no_other Q listed h k))
            | inr none ↦ (o, by, none)
          ]

      module _ (colour : Cell → ℕ) (islands : ColoursIslands G colour)
          (within : (c d : Cell) → IsAround G x c → IsAround G x d → colour c ≡ colour d → HaveBoth (generations R Qs n) c d)
        where
          parted : (k : ℕ) → bears R G colour k x ≡ true → (g : Cell) → IsAround G x g → colour g ≡ k → (Q : Generation) →
              Contains Qs Q → IsIn R Q n g → IsParted (contains G) (has Q) (in_group G colour k) x
          parted k h g around_x same Q listed in_Q = record {
            dead = place;
            within = now.within Q listed;
            inside = λ y near l.
                let b = of_group G colour k y l in
                in_both R P Qs n now g y (within g y around_x (record { live = b.0; near = near }) (same ∙ sym b.1)) Q listed in_Q;
            whole = λ y z near l live. in_one_set R P Qs split n y z (now.within Q listed y l) live near Q listed l;
            group = λ y z near l live.
                let b = of_group G colour k y l in
                to_group G colour k z live (sym (islands y z b.0 live near) ∙ b.1);
            three = three_by_birth R births (in_group G colour k) x h;
            not_three = λ three. not_born (born_of_three Q listed three);
          }

          -- cells of one colour are of one set
          no_colour_of_both : (Q : Generation) → Contains Qs Q → (c d : Cell) → IsAround G x c → IsAround G x d → has Q c ≡ false →
              has Q d ≡ true → colour c ≡ colour d → ⊥
          no_colour_of_both Q listed c d around_x too none h same =
              both_ways (has Q c) none (in_both R P Qs n now d c (within d c too around_x (sym same)) Q listed h)

          none_bears : (IsForkOf G colour x → ⊥) → (k : ℕ) → bears R G colour k x ≡ true → ⊥
          none_bears no_fork k h =
              let g = of_bearing R G colour x k h in
              let Q = now.cover g.0 g.1.live in
              let other = not_all_in Q.0 Q.1 in
              no_fork (fork_where_parted G (has Q.0) colour k x (parted k h g.0 g.1 g.2 Q.0 Q.1 Q.2) (no_colour_of_both Q.0 Q.1)
              other.0 other.1.near other.1.live other.2)

      each_followed : IsEachFollowed R G IsForkOf (generations R Qs n) x
      each_followed colour islands within (inl fair) =
          (fair, λ c at h H listed in_H. absurd (not_born (fair.born (colour c) h)))
      each_followed colour islands within (inr no_fork) = (
        record {
          borne = λ h. absurd (not_born h);
          born = λ k h. absurd (none_bears colour islands within no_fork k h);
          one = λ k l h g. absurd (none_bears colour islands within no_fork k h);
        },
        λ c at h H listed in_H. absurd (none_bears colour islands within no_fork (colour c) h),
      )

    -- whether a cell is of another set
    abbrev is_other : Generation → Cell → Bool
    is_other A y = cond (has A y) false (contains G y)

    other_parts : (A : Generation) (y : Cell) → is_other A y ≡ true → (has A y ≡ false) × (contains G y ≡ true)
    other_parts A y h =
        elim (cases_Bool (has A y)) [
          | inl k ↦ absurd (both_ways (is_other A y) (cond-true (has A y) false (contains G y) k) h)
          | inr none ↦ (none, sym (cond-false (has A y) false (contains G y) none) ∙ h)
        ]

    in_the_one : (A : Generation) → list_any (is_other A) (around x) ≡ false → (c : Cell) → IsAround G x c → IsIn R A n c
    in_the_one A none c at =
        elim (cases_Bool (has A c)) [
          | inl h ↦ h
          | inr not ↦
              absurd (both_ways (list_any (is_other A) (around x)) none
              (some_near (is_other A) x (false_from_ne_true (is_other A x) (λ h. both_ways (contains G x) place (other_parts A x h).1)) c at.near (cond-false (has A c) false (contains G c) not ∙ at.live)))
        ]

    held_at : AreOfOneSet G (generations R Qs n) x ⊎ IsEachFollowed R G IsForkOf (generations R Qs n) x
    held_at =
        elim (cases_Bool (list_any (contains G) (around x))) [
          | inl some ↦
              let c = one_around (contains G) x some in
              let A = now.cover c.0 c.1 in
              elim (cases_Bool (list_any (is_other A.0) (around x))) [
                | inl others ↦
                    let o = one_around (is_other A.0) x others in
                    let parts = other_parts A.0 o.0 o.1 in
                    inr (each_followed c.0 o.0 (record { live = c.1; near = c.2 }) (record { live = parts.1; near = o.2 }) A.0 A.1 A.2 parts.0)
                | inr none ↦ inl (λ c d at too.
                    both_by_set R P Qs n now A.0 A.1 c d (in_the_one A.0 none c at) (in_the_one A.0 none d too))
              ]
          | inr none ↦ inl (λ c d at too.
              absurd (both_ways (list_any (contains G) (around x)) none (some_near (contains G) x place c at.near at.live)))
        ]

  pub followed : AreFollowed R P IsForkOf Qs n
  followed = record {
    split = now;
    islands = whole_islands R P Qs split n;
    places = held_at;
  }
