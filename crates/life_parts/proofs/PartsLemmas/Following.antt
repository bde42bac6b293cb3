-- What is tied is of one set of each list of sets that are held apart and can be followed back.
use Rattle.std.proofs.Common.{◌≡◌, ℕ, suc, ◌+◌, ◌≤◌, ◌⊎◌, true, false, List, inl, inr, sym, ap, ◌∙◌, arith}
use Rattle.std.specs.Cmp as cmp
use Rattle.std.specs.List.{Contains}
use Rattle.std.proofs.lemmas.Bool.{cases_Bool, cases_eq, both_ways}
use Rattle.life_model.specs.Cell.{Cell, IsNear, plus}
use Rattle.life_model.specs.Rule.{Rule, born}
use Rattle.life_model.specs.Generation.{Generation, contains}
use Rattle.life_model.specs.Evolution.{generation, next}
use Rattle.life_model.specs.Recurrence.{RecursBy}
use Rattle.life_model.specs.Symmetry.{translate_of}
use Rattle.life_model.proofs.Cells.{plus-opposite}
use Rattle.life_model.proofs.Recurrences.{generation-add}
use Rattle.life_model.proofs.Symmetries.{contains-moved, generation-moved}
use Rattle.life_objects.specs.Union.{generations}
use Rattle.life_parts.specs.Parts.Apart.{AreOfOneSet, HaveBoth}
use Rattle.life_parts.specs.Parts.Groups.{ColoursIslands, IsAround, IsFair, bears}
use Rattle.life_parts.specs.Parts.Ties as all
use Rattle.life_parts.specs.Parts.Ties.{AreTied, IsIn}
use Rattle.life_parts.specs.Parts.Without.{AreTiedWithout, itself, swapped, through, touching, staying, bearing, meeting, meeting_born, before}
use Rattle.life_parts.proofs.PartsLemmas.Around.{count_at-alike, next-born}
use Rattle.life_parts.proofs.PartsLemmas.Apart.{AreSplitAt, from_later, in_both, not_here, same_next, to_later}
use Rattle.life_parts.proofs.PartsLemmas.Ends.{both_in}
use Rattle.life_objects.proofs.Ring.{enough_near}

-- Each of the sets, moved by f, is what one of the others is q generations later.
abbrev pub ComeFrom : Rule → ℕ → Cell → List Generation → List Generation → Type 0
ComeFrom R q f Bs Qs =
    (Q : Generation) → Contains Qs Q → (B : Generation) × Contains Bs B × (generation R B q ≡ translate_of Q f)

-- However the islands around the place are put into groups, each of them of one set: if it is fair or isn't passed over, it
-- is fair, and what is born is born of the set of the group that bears it.
abbrev pub IsEachFollowed : Rule → Generation → (Generation → (Cell → ℕ) → Cell → Type 0) → List Generation → Cell → Type 0
IsEachFollowed R G Passed Hs x =
    (colour : Cell → ℕ) → ColoursIslands G colour →
    ((c d : Cell) → IsAround G x c → IsAround G x d → colour c ≡ colour d → HaveBoth Hs c d) →
    IsFair R G colour x ⊎ (Passed G colour x → ⊥) →
    IsFair R G colour x × ((c : Cell) → IsAround G x c → bears R G colour (colour c) x ≡ true → (H : Generation) →
    Contains Hs H → contains H c ≡ true → contains (next R H) x ≡ true)

-- The sets are a splitting into whole islands, and around each place all is of one set or the sets go on so.
pub record AreFollowed (R : Rule) (P : Generation) (Passed : Generation → (Cell → ℕ) → Cell → Type 0) (Qs : List Generation)
    (n : ℕ) : Type 0 where
  pub split : AreSplitAt R P Qs n
  pub islands : (c d : Cell) → IsIn R P n c → IsIn R P n d → IsNear c d → HaveBoth (generations R Qs n) c d
  pub places : (x : Cell) → contains (generation R P n) x ≡ false →
      AreOfOneSet (generation R P n) (generations R Qs n) x ⊎ IsEachFollowed R (generation R P n) Passed (generations R Qs n) x

module _ (R : Rule) (P : Generation) (Passed : Generation → (Cell → ℕ) → Cell → Type 0) where
  -- what is tied without some groups is tied
  tied_with_all : (n m : ℕ) (c e : Cell) → AreTiedWithout R P Passed n c m e → AreTied R P n c m e
  tied_with_all n m c e (itself _ _ h) = all.itself n c h
  tied_with_all n m c e (swapped _ _ _ _ t) = all.swapped m n e c (tied_with_all m n e c t)
  tied_with_all n m c e (through _ k _ _ f _ t u) = all.through n k m c f e (tied_with_all n k c f t) (tied_with_all k m f e u)
  tied_with_all n m c e (touching _ _ _ h k near) = all.touching n c e h k near
  tied_with_all n m c e (staying _ _ h k) = all.staying n c h k
  tied_with_all n m c e (bearing _ _ colour place islands within fair _ at h) =
      all.bearing n e colour place islands (λ a b x y same. tied_with_all n n a b (within a b x y same)) fair c at h
  tied_with_all n m c e (meeting _ x colour place islands within unfair passing _ _ at too) =
      all.meeting n x colour place islands (λ a b y z same. tied_with_all n n a b (within a b y z same)) unfair c e at too
  tied_with_all n m c e (meeting_born _ _ colour place islands within unfair passing _ at h) =
      all.meeting_born n e colour place islands (λ a b y z same. tied_with_all n n a b (within a b y z same)) unfair c at h
  tied_with_all n m c e (before p d r _ _ _ _ t) =
      all.before p d r n m c e (tied_with_all (n + p) (m + p) (plus c d) (plus e d) t)

  -- and what is tied is so without some groups that are not fair, if these are tied and bear nothing
  module _ (passed_or_not : (n : ℕ) (x : Cell) (colour : Cell → ℕ) →
      Passed (generation R P n) colour x ⊎ (Passed (generation R P n) colour x → ⊥))
      (joined : (n : ℕ) (x : Cell) (colour : Cell → ℕ) → ColoursIslands (generation R P n) colour →
      Passed (generation R P n) colour x → (c d : Cell) → IsAround (generation R P n) x c → IsAround (generation R P n) x d →
      AreTiedWithout R P Passed n c n d)
      (none_born : (n : ℕ) (x : Cell) (colour : Cell → ℕ) → Passed (generation R P n) colour x → IsIn R P (suc n) x → ⊥) where
    pub tied_without : (n m : ℕ) (c e : Cell) → AreTied R P n c m e → AreTiedWithout R P Passed n c m e
    tied_without n m c e (all.itself _ _ h) = itself n c h
    tied_without n m c e (all.swapped _ _ _ _ t) = swapped m n e c (tied_without m n e c t)
    tied_without n m c e (all.through _ k _ _ f _ t u) = through n k m c f e (tied_without n k c f t) (tied_without k m f e u)
    tied_without n m c e (all.touching _ _ _ h k near) = touching n c e h k near
    tied_without n m c e (all.staying _ _ h k) = staying n c h k
    tied_without n m c e (all.bearing _ _ colour place islands within fair _ at h) =
        bearing n e colour place islands (λ a b x y same. tied_without n n a b (within a b x y same)) fair c at h
    tied_without n m c e (all.meeting _ x colour place islands within unfair _ _ at too) =
        elim (passed_or_not n x colour) [
          | inl passed ↦ joined n x colour islands passed c e at too
          | inr passing ↦ meeting n x colour place islands (λ a b y z same. tied_without n n a b (within a b y z same)) unfair passing c e at too
        ]
    tied_without n m c e (all.meeting_born _ _ colour place islands within unfair _ at h) =
        elim (passed_or_not n e colour) [
          | inl passed ↦ absurd (none_born n e colour passed h)
          | inr passing ↦ meeting_born n e colour place islands (λ a b y z same. tied_without n n a b (within a b y z same)) unfair passing c at h
        ]
    tied_without n m c e (all.before p d r _ _ _ _ t) =
        before p d r n m c e (tied_without (n + p) (m + p) (plus c d) (plus e d) t)

  module _ (Qs : List Generation) (n : ℕ) (at : AreFollowed R P Passed Qs n) where
    abbrev G : Generation
    G = generation R P n

    abbrev Hs : List Generation
    Hs = generations R Qs n

    stays_with : (c : Cell) → IsIn R P n c → IsIn R P (suc n) c → (Q : Generation) → Contains Qs Q → IsIn R Q n c → IsIn R Q (suc n) c
    unfolding generation
    stays_with c h l Q one k = same_next R P Qs n at.split at.islands c h Q one k ∙ l

    -- what is born where all around is of one set is born of that set
    born_of_one : (x : Cell) → contains G x ≡ false → AreOfOneSet G Hs x → (c : Cell) → IsAround G x c → (Q : Generation) →
        Contains Qs Q → IsIn R Q n c → contains (next R G) x ≡ true → IsIn R Q (suc n) x
    unfolding generation
    born_of_one x place whole c around Q one k h =
        next-born R (generation R Q n) x (not_here R P Qs n at.split x place Q one)
        ∙ ap (born R) (count_at-alike (contains (generation R Q n)) (contains G) x (λ y near.
        cmp.both_ways (contains (generation R Q n) y) (contains G y)
        (at.split.within Q one y)
        (λ l. in_both R P Qs n at.split c y (whole c y around (record { live = l; near = near })) Q one k)))
        ∙ sym (next-born R G x place) ∙ h

    in_next : (x : Cell) → IsIn R P (suc n) x → contains (next R G) x ≡ true
    unfolding generation
    in_next x h = h

    of_next : (Q : Generation) (x : Cell) → contains (next R (generation R Q n)) x ≡ true → IsIn R Q (suc n) x
    unfolding generation
    of_next Q x h = h

    both_by_each : (c e : Cell) → ((Q : Generation) → Contains Qs Q → IsIn R Q n c → IsIn R Q n e) → HaveBoth Hs c e
    both_by_each c e each H listed h =
        let q = from_later R n Qs H listed in
        ap (λ B. contains B e) (sym q.2) ∙ each q.0 q.1 (ap (λ B. contains B c) q.2 ∙ h)

  -- what is tied is there
  ends_in : (n m : ℕ) (c e : Cell) → AreTiedWithout R P Passed n c m e → IsIn R P n c × IsIn R P m e
  ends_in n m c e t = both_in R P n m c e (tied_with_all n m c e t)

  cell_again : (q : ℕ) (f : Cell) (Q A : Generation) → generation R A q ≡ translate_of Q f → (n : ℕ) (c : Cell) →
      contains (generation R A (n + q)) (plus c f) ≡ contains (generation R Q n) c
  cell_again q f Q A same n c =
      ap (λ H. contains H (plus c f)) (ap (generation R A) (let e : n + q ≡ q + n = omega arith in e) ∙ sym (generation-add R A q n)
      ∙ ap (λ H. generation R H n) same ∙ generation-moved R Q f n)
      ∙ contains-moved (generation R Q n) f (plus c f) ∙ ap (contains (generation R Q n)) (plus-opposite c f)

  -- A list of sets that reaches back for K generations does so for each smaller number. If it reaches back q generations more,
  -- there is a list before it.
  pub record ReachBack (Past : ℕ → List Generation → Type 0) : Type 0 where
    pub less : (K L : ℕ) (Qs : List Generation) → L ≤ K → Past K Qs → Past L Qs
    pub at : (K : ℕ) (Qs : List Generation) → Past K Qs → (n : ℕ) → AreFollowed R P Passed Qs n
    pub back : (K q : ℕ) (f : Cell) → RecursBy R P q f → (Qs : List Generation) → Past (K + q) Qs →
        (Bs : List Generation) × Past K Bs × ComeFrom R q f Bs Qs

  module _ (Past : ℕ → List Generation → Type 0) (reach : ReachBack Past) where
    -- of the sets that reach back for K generations, one that has the one cell has the other
    abbrev pub AreOfOne : ℕ → ℕ → Cell → ℕ → Cell → Type 0
    AreOfOne K n c m e =
        (Qs : List Generation) → Past K Qs → (Q : Generation) → Contains Qs Q → IsIn R Q n c → IsIn R Q m e

    further : (n m : ℕ) (c e : Cell) (K L : ℕ) → K ≤ L → AreOfOne K n c m e → AreOfOne L n c m e
    further n m c e K L h one Qs past = one Qs (reach.less L K Qs h past)

    -- How far all sets must reach back, if each pair of cells around a place needs some number of generations.
    module _ (n : ℕ) (x : Cell) (colour : Cell → ℕ) where
      abbrev Around : Cell → Type 0
      Around c = IsAround (generation R P n) x c

      abbrev Pair : Cell → Cell → ℕ → Type 0
      Pair a b K = Around a → Around b → colour a ≡ colour b → AreOfOne K n a n b

      module _ (each : (a b : Cell) → Around a → Around b → colour a ≡ colour b → (K : ℕ) × AreOfOne K n a n b) where
        pair : (a b : Cell) → IsNear a x → IsNear b x → (K : ℕ) × Pair a b K
        pair a b near too =
            elim (cases_Bool (contains (generation R P n) a)) [
              | inl h ↦ elim (cases_Bool (contains (generation R P n) b)) [
                | inl k ↦ elim (cases_eq (colour a) (colour b)) [
                  | inl same ↦
                      let one = each a b (record { live = h; near = near }) (record { live = k; near = too }) same in
                      (one.0, λ at around e. one.1)
                  | inr other ↦ (0, λ at around e. absurd (other e))
                ]
                | inr none ↦ (0, λ at around e. absurd (both_ways (contains (generation R P n) b) none around.live))
              ]
              | inr none ↦ (0, λ at around e. absurd (both_ways (contains (generation R P n) a) none at.live))
            ]

        more : (a b : Cell) (K L : ℕ) → K ≤ L → Pair a b K → Pair a b L
        more a b K L h one at around e = further n n a b K L h (one at around e)

        pub all_pairs : (K : ℕ) × ((a b : Cell) → Pair a b K)
        all_pairs =
            let all = enough_near (λ a K. (b : Cell) → IsNear b x → Pair a b K) (λ a K L h one b near. more a b K L h (one b near)) x
            (λ a near. enough_near (Pair a) (more a) x (λ b too. pair a b near too)) in
            (all.0, λ a b at around e. all.1 a at.near b around.near at around e)

    pub tied_to_one : (n m : ℕ) (c e : Cell) → AreTiedWithout R P Passed n c m e → (K : ℕ) × AreOfOne K n c m e
    tied_to_one n m c e (itself _ _ h) = (0, λ Qs past Q one k. k)
    tied_to_one n m c e (swapped _ _ _ _ t) =
        let u = tied_to_one m n e c t in
        let b = ends_in m n e c t in (
          u.0,
          λ Qs past Q one k.
              let A = (reach.at u.0 Qs past m).split.cover e b.0 in
              let in_A = u.1 Qs past A.0 A.1 A.2 in
              let same : A.0 ≡ Q = (reach.at u.0 Qs past n).split.one A.0 Q A.1 one c in_A k in
              ap (λ H. contains (generation R H m) e) (sym same) ∙ A.2,
        )
    tied_to_one n m c e (through _ k _ _ f _ t u) =
        let a = tied_to_one n k c f t in
        let b = tied_to_one k m f e u in
        let K = a.0 in
        let L = b.0 in (
          K + L,
          λ Qs past Q one h.
              further k m f e L (K + L) (omega arith) b.1 Qs past Q one
              (further n k c f K (K + L) (omega arith) a.1 Qs past Q one h),
        )
    tied_to_one n m c e (touching _ _ _ h l near) = (
      0,
      λ Qs past Q one k.
          let at = reach.at 0 Qs past n in
          in_both R P Qs n at.split c e (at.islands c e h l near) Q one k,
    )
    tied_to_one n m c e (staying _ _ h l) = (0, λ Qs past Q one k. stays_with Qs n (reach.at 0 Qs past n) c h l Q one k)
    tied_to_one n m c e (bearing _ _ colour place islands within fair _ around h) =
        let pairs = all_pairs n e colour (λ a b y z same. tied_to_one n n a b (within a b y z same)) in (
          pairs.0,
          λ Qs past Q one k.
              let at = reach.at pairs.0 Qs past n in
              let sets : (a b : Cell) → IsAround (generation R P n) e a → IsAround (generation R P n) e b → colour a ≡ colour b → HaveBoth (generations R Qs n) a b =
              λ a b y z same. both_by_each Qs n at a b (λ A two g. pairs.1 a b y z same Qs past A two g) in
              elim (at.places e place) [
                | inl whole ↦ born_of_one Qs n at e place whole c around Q one k (fair.born (colour c) h)
                | inr each ↦ of_next Qs n at Q e ((each colour islands sets (inl fair)).1 c around h (generation R Q n) (to_later R n Qs Q one) k)
              ],
        )
    tied_to_one n m c e (meeting _ x colour place islands within unfair passing _ _ around too) =
        let pairs = all_pairs n x colour (λ a b y z same. tied_to_one n n a b (within a b y z same)) in (
          pairs.0,
          λ Qs past Q one k.
              let at = reach.at pairs.0 Qs past n in
              let sets : (a b : Cell) → IsAround (generation R P n) x a → IsAround (generation R P n) x b → colour a ≡ colour b → HaveBoth (generations R Qs n) a b =
              λ a b y z same. both_by_each Qs n at a b (λ A two g. pairs.1 a b y z same Qs past A two g) in
              elim (at.places x place) [
                | inl whole ↦ in_both R P Qs n at.split c e (whole c e around too) Q one k
                | inr each ↦ absurd (unfair (each colour islands sets (inr passing)).0)
              ],
        )
    tied_to_one n m c e (meeting_born _ _ colour place islands within unfair passing _ around h) =
        let pairs = all_pairs n e colour (λ a b y z same. tied_to_one n n a b (within a b y z same)) in (
          pairs.0,
          λ Qs past Q one k.
              let at = reach.at pairs.0 Qs past n in
              let sets : (a b : Cell) → IsAround (generation R P n) e a → IsAround (generation R P n) e b → colour a ≡ colour b → HaveBoth (generations R Qs n) a b =
              λ a b y z same. both_by_each Qs n at a b (λ A two g. pairs.1 a b y z same Qs past A two g) in
              elim (at.places e place) [
                | inl whole ↦ born_of_one Qs n at e place whole c around Q one k (in_next Qs n at e h)
                | inr each ↦ absurd (unfair (each colour islands sets (inr passing)).0)
              ],
        )
    tied_to_one n m c e (before q f s _ _ _ _ t) =
        let u = tied_to_one (n + q) (m + q) (plus c f) (plus e f) t in (
          u.0 + q,
          λ Qs past Q one k.
              let Bs = reach.back u.0 q f s Qs past in
              let B = Bs.2 Q one in
              sym (cell_again q f Q B.0 B.2 m e) ∙ u.1 Bs.0 Bs.1 B.0 B.1 (cell_again q f Q B.0 B.2 n c ∙ k),
        )
