-- Since when a pattern has been ash.
use Rattle.std.proofs.Common.{◌≡◌, ◌≢◌, ◌↔◌, ℕ, ◌+◌, ◌-◌, ◌*◌, ◌<◌, ◌≤◌, List, [], ◌∷◌, length, get_or, inl, inr}
use Rattle.std.proofs.Common.{map, sym, refl, ap, subst, ◌∙◌, arith}
use Rattle.std.specs.List.{All, AllPairs, Contains}
use Rattle.std.proofs.lemmas.Bool.{cases_lt}
use Rattle.std.proofs.lemmas.List.{get_or-map, length-map}
use Rattle.std.proofs.lemmas.List.Elements.{All-contains, All-cons, All-head, All-nil, All-tail, All-weaker, Contains-get_or}
use Rattle.life_model.specs.Cell.{Cell, opposite}
use Rattle.life_model.specs.Rule.{Rule}
use Rattle.life_model.specs.Generation.{Generation}
use Rattle.life_model.specs.Evolution.{generation}
use Rattle.life_model.specs.Symmetry.{translate_of}
use Rattle.life_model.specs.Recurrence.{RecursBy}
use Rattle.life_model.proofs.Recurrences.{generation-add}
use Rattle.life_model.proofs.Symmetries.{generation-moved}
use Rattle.life_objects.specs.Apart.{AreApartForEver}
use Rattle.life_objects.specs.Ash.{IsAsh, IsObject}
use Rattle.life_objects.specs.Drift.{multiple_of}
use Rattle.life_objects.specs.Onset.{AreBefore, HasAsh, IsAshOnset, IsMadeOf, Recurs}
use Rattle.life_objects.specs.Piece.{IsOnePiece, IsUndivided}
use Rattle.life_objects.specs.Union.{generations}
use Rattle.life_objects.proofs.Ashes.{IsAsh-later, IsAsh-until, IsAsh-wider}
use Rattle.life_objects.proofs.Lists.{Contains-head, Contains-later, head_or_later, related_or_same, same_elements}
use Rattle.life_objects.proofs.Moving.{IsUndivided-moved, generation-times}
use Rattle.life_objects.proofs.OneList.{part_of_both, parts_differ, union_of-IsPermutation}
use Rattle.life_objects.proofs.Recurring.{RecursBy-later, RecursBy-moved, RecursBy-sooner, moved_back, n-le, same_unmoved}
use Rattle.life_objects.proofs.Times.{AreApartForEver-swap, generation-empty}

-- an element of a mapped list is what some element is mapped to
mapped_from : {X Y : Type 0} (f : X → Y) (xs : List X) (y : Y) → Contains (map f xs) y →
    (x : X) × Contains xs x × (f x ≡ y)
mapped_from f [] y one = let none : one.0 < 0 = one.1 in absurd (omega arith)
mapped_from f (x ∷ xs) y one =
    elim (head_or_later (f x) y (map f xs) one.0 one.1 one.2) [
      | inl e ↦ (x, Contains-head x xs, e)
      | inr later ↦ let found = mapped_from f xs y later in (found.0, Contains-later x found.0 xs found.1, found.2)
    ]

pub mapped_to : {X Y : Type 0} (f : X → Y) (xs : List X) (x : X) → Contains xs x → Contains (map f xs) (f x)
mapped_to f [] x one = let none : one.0 < 0 = one.1 in absurd (omega arith)
mapped_to f (y ∷ ys) x one =
    elim (head_or_later y x ys one.0 one.1 one.2) [
      | inl e ↦ subst (λ z. Contains (f y ∷ map f ys) z) (ap f e) (Contains-head (f y) (map f ys))
      | inr later ↦ Contains-later (f y) (f x) (map f ys) (mapped_to f ys x later)
    ]

module _ (R : Rule) where
  -- ---- one set

  module _ (P : Generation) (p : ℕ) (d : Cell) (r : RecursBy R P p d) where
    -- k periods later
    rounds_on : (k m : ℕ) → generation R P (k * p + m) ≡ translate_of (generation R P m) (multiple_of k d)
    rounds_on k m =
        sym (generation-add R P (k * p) m) ∙ ap (λ H. generation R H m) (generation-times R P p d r k)
        ∙ generation-moved R P (multiple_of k d) m

    -- what is never divided later never was
    one_piece_before : (b n : ℕ) → IsOnePiece R b (generation R P n) → IsOnePiece R b P
    one_piece_before b n whole m =
        let past : n ≤ n * p = n-le R P p d r n in
        let e = multiple_of n d in
        subst (IsUndivided R b) (moved_back (generation R P m) e)
        (IsUndivided-moved R b (translate_of (generation R P m) e) (opposite e)
        (subst (IsUndivided R b)
        (generation-add R P n ((n * p - n) + m)
        ∙ ap (generation R P) (let z : n + ((n * p - n) + m) ≡ n * p + m = omega arith in z) ∙ rounds_on n m)
        (whole ((n * p - n) + m))))

  -- what recurs is determined by what it becomes
  pub one_before : (P Q : Generation) (n : ℕ) → Recurs R P → Recurs R Q → generation R P n ≡ generation R Q n → P ≡ Q
  one_before P Q n one other same =
      let p = one.steps in
      let d = one.by in
      let s : RecursBy R Q p d = RecursBy-sooner R Q other.steps other.by other.recurs n p d
      (subst (λ H. RecursBy R H p d) same (RecursBy-later R P p d one.recurs n)) in
      let past : n ≤ n * p = n-le R P p d one.recurs n in
      let there : (H : Generation) → generation R H (n * p) ≡ generation R (generation R H n) (n * p - n) =
      λ H. ap (generation R H) (let z : n * p ≡ n + (n * p - n) = omega arith in z)
      ∙ sym (generation-add R H n (n * p - n)) in
      same_unmoved P Q (multiple_of n d)
      (sym (generation-times R P p d one.recurs n) ∙ there P ∙ ap (λ H. generation R H (n * p - n)) same
      ∙ sym (there Q) ∙ generation-times R Q p d s n)

  object_before : (b n : ℕ) (P : Generation) → Recurs R P → IsObject R b (generation R P n) → IsObject R b P
  object_before b n P again object = record {
    nonempty = λ none. object.nonempty (ap (λ H. generation R H n) none ∙ generation-empty R n);
    recurs = record {
      steps = object.recurs.steps;
      by = object.recurs.by;
      within = object.recurs.within;
      recurs = RecursBy-sooner R P again.steps again.by again.recurs n object.recurs.steps object.recurs.by
          object.recurs.recurs;
    };
    whole = one_piece_before P again.steps again.by again.recurs b n object.whole;
  }

  -- what a set that recurs was before
  module _ (Q : Generation) (again : Recurs R Q) (n : ℕ) where
    abbrev pub set_before : Generation
    set_before =
        translate_of (generation R Q (n * again.steps - n)) (opposite (multiple_of n again.by))

    pub recurs_before : Recurs R set_before
    recurs_before = record {
      steps = again.steps;
      by = again.by;
      recurs = RecursBy-moved R (generation R Q (n * again.steps - n)) again.steps again.by
          (opposite (multiple_of n again.by))
          (RecursBy-later R Q again.steps again.by again.recurs (n * again.steps - n));
    }

    pub becomes : generation R set_before n ≡ Q
    becomes =
        let past : n ≤ n * again.steps = n-le R Q again.steps again.by again.recurs n in
        generation-moved R (generation R Q (n * again.steps - n)) (opposite (multiple_of n again.by)) n
        ∙ ap (λ H. translate_of H (opposite (multiple_of n again.by)))
        (generation-add R Q (n * again.steps - n) n
        ∙ ap (generation R Q) (let z : (n * again.steps - n) + n ≡ n * again.steps = omega arith in z)
        ∙ generation-times R Q again.steps again.by again.recurs n)
        ∙ moved_back Q (multiple_of n again.by)

  -- ---- the sets of a list

  pub sets_before : (Qs : List Generation) → All (Recurs R) Qs → (n : ℕ) → (Ps : List Generation) × AreBefore R n Qs Ps
  sets_before [] all n = ([], record { recur = All-nil (Recurs R); become = refl })
  sets_before (Q ∷ Qs) all n =
      let again = All-head (Recurs R) Q Qs all in
      let rest = sets_before Qs (All-tail (Recurs R) Q Qs all) n in (
        set_before Q again n ∷ rest.0,
        record {
          recur = All-cons (Recurs R) (set_before Q again n) rest.0 (recurs_before Q again n) rest.1.recur;
          become = λ i. becomes Q again n i ∷ rest.1.become i;
        },
      )

  objects_before : (b n : ℕ) (Ps : List Generation) → All (Recurs R) Ps → All (IsObject R b) (generations R Ps n) →
      All (IsObject R b) Ps
  objects_before b n [] again objects = All-nil (IsObject R b)
  objects_before b n (P ∷ Ps) again objects =
      All-cons (IsObject R b) P Ps
      (object_before b n P (All-head (Recurs R) P Ps again)
      (All-head (IsObject R b) (generation R P n) (generations R Ps n) objects))
      (objects_before b n Ps (All-tail (Recurs R) P Ps again)
      (All-tail (IsObject R b) (generation R P n) (generations R Ps n) objects))

  differ_before : (n : ℕ) (Ps : List Generation) → AllPairs (λ P Q. P ≢ Q) (generations R Ps n) →
      AllPairs (λ P Q. P ≢ Q) Ps
  differ_before n Ps all i j d before within same =
      let f = λ (P : Generation). generation R P n in
      let early : i < length Ps = omega arith in
      let long = length-map Ps f in
      all i j (f d) before (omega (arith, long))
      (get_or-map f Ps i d (f d) early ∙ ap f same ∙ sym (get_or-map f Ps j d (f d) within))

  pub recur_in_ash : (b : ℕ) (G : Generation) (parts : List Generation) → IsAsh R b G parts → All (Recurs R) parts
  recur_in_ash b G parts ash =
      All-weaker (IsObject R b) (Recurs R)
      (λ P object. record { steps = object.recurs.steps; by = object.recurs.by; recurs = object.recurs.recurs })
      parts ash.objects

  -- ---- generation n of G is ash of Qs, and Ps are what these were

  module _ (b n : ℕ) (G : Generation) (Ps Qs : List Generation) (later : IsAsh R b (generation R G n) Qs)
      (before : AreBefore R n Qs Ps) where
    ash_by_parts : IsMadeOf R G Ps → HasAsh R b G
    ash_by_parts made = (
      Ps,
      record {
        together = made.together;
        apart = made.apart;
        objects = objects_before b n Ps before.recur (subst (All (IsObject R b)) (sym before.become) later.objects);
      },
    )

    module _ (parts : List Generation) (ash : IsAsh R b G parts) where
      as_later : IsAsh R b (generation R G n) (generations R parts n)
      as_later = IsAsh-later R b G parts ash n

      as_before : IsAsh R b (generation R G n) (generations R Ps n)
      as_before = subst (IsAsh R b (generation R G n)) (sym before.become) later

      differ : AllPairs (λ P Q. P ≢ Q) Ps
      differ = differ_before n Ps (parts_differ R b (generation R G n) (generations R Ps n) as_before)

      is_part : (P : Generation) → Contains Ps P → Contains parts P
      is_part P one =
          let found = mapped_from (λ S. generation R S n) parts (generation R P n)
          (part_of_both R b b (generation R G n) (generations R Ps n) (generations R parts n) as_before as_later
          (generation R P n) (mapped_to (λ S. generation R S n) Ps P one)) in
          subst (Contains parts)
          (one_before found.0 P n (All-contains (Recurs R) parts found.0 (recur_in_ash b G parts ash) found.1)
          (All-contains (Recurs R) Ps P before.recur one) found.2)
          found.1

      is_before : (P : Generation) → Contains parts P → Contains Ps P
      is_before P one =
          let found = mapped_from (λ S. generation R S n) Ps (generation R P n)
          (part_of_both R b b (generation R G n) (generations R parts n) (generations R Ps n) as_later as_before
          (generation R P n) (mapped_to (λ S. generation R S n) parts P one)) in
          subst (Contains Ps)
          (one_before found.0 P n (All-contains (Recurs R) Ps found.0 before.recur found.1)
          (All-contains (Recurs R) parts P (recur_in_ash b G parts ash) one) found.2)
          found.1

      made_by_ash : IsMadeOf R G Ps
      made_by_ash = record {
        together =
            sym (union_of-IsPermutation parts Ps
            (same_elements parts Ps (parts_differ R b G parts ash) differ is_before is_part))
            ∙ ash.together;
        apart = λ i j d h k.
            let early : i < length Ps = omega arith in
            elim (related_or_same (AreApartForEver R) (AreApartForEver-swap R) parts (get_or Ps i d) (get_or Ps j d)
            (is_part (get_or Ps i d) (Contains-get_or Ps i d early)) (is_part (get_or Ps j d) (Contains-get_or Ps j d k))
            ash.apart) [
              | inl far ↦ far
              | inr same ↦ absurd (differ i j d h k same)
            ];
      }

    pub ash_before : HasAsh R b G ↔ IsMadeOf R G Ps
    ash_before = (λ has. made_by_ash has.0 has.1, ash_by_parts)

  -- ---- the onset

  then : (G : Generation) (t g : ℕ) → t ≤ g → generation R (generation R G t) (g - t) ≡ generation R G g
  then G t g le =
      generation-add R G t (g - t) ∙ ap (generation R G) (let e : t + (g - t) ≡ g = omega arith in e)

  pub ash_then : (b g t : ℕ) (G : Generation) (Ps Qs : List Generation) → t ≤ g → IsAsh R b (generation R G g) Qs →
      AreBefore R (g - t) Qs Ps → HasAsh R b (generation R G t) ↔ IsMadeOf R (generation R G t) Ps
  ash_then b g t G Ps Qs le ash before =
      ash_before b (g - t) (generation R G t) Ps Qs (subst (λ H. IsAsh R b H Qs) (sym (then G t g le)) ash) before

  pub ash_from_onset : (b t n : ℕ) (G : Generation) → t ≤ n → HasAsh R b (generation R G t) →
      HasAsh R b (generation R G n)
  ash_from_onset b t n G le has = (generations R has.0 (n - t), IsAsh-until R b t n G has.0 le has.1)

  -- what is ash within a greater bound is ash within this one, where it becomes ash within this one
  narrower : (b c n g : ℕ) (G : Generation) → b ≤ c → n ≤ g → HasAsh R b (generation R G g) →
      HasAsh R c (generation R G n) → HasAsh R b (generation R G n)
  narrower b c n g G le before has wide =
      let past = sets_before has.0 (recur_in_ash b (generation R G g) has.0 has.1) (g - n) in
      (ash_then b g n G past.0 has.0 before has.1 past.1).1
      ((ash_then c g n G past.0 has.0 before (IsAsh-wider R b (generation R G g) has.0 has.1 c le) past.1).0 wide)

  pub onset_wider : (b c t : ℕ) (G : Generation) → b ≤ c → IsAshOnset R b G t → IsAshOnset R c G t
  onset_wider b c t G le onset = record {
    ash = (onset.ash.0, IsAsh-wider R b (generation R G t) onset.ash.0 onset.ash.1 c le);
    first = λ n has.
        elim (cases_lt n t) [
          | inl early ↦ onset.first n (narrower b c n t G le (omega arith) onset.ash has)
          | inr late ↦ late
        ];
  }

  one_onset_of_wider : (b c s t : ℕ) (G : Generation) → b ≤ c → IsAshOnset R b G s → IsAshOnset R c G t → s ≡ t
  one_onset_of_wider b c s t G le one other =
      let wide = onset_wider b c s G le one in
      let h : s ≤ t = wide.first t other.ash in
      let k : t ≤ s = other.first s wide.ash in
      omega arith

  pub one_onset : (b c s t : ℕ) (G : Generation) → IsAshOnset R b G s → IsAshOnset R c G t → s ≡ t
  one_onset b c s t G one other =
      elim (cases_lt c b) [
        | inl less ↦ sym (one_onset_of_wider c b t s G (let le : c ≤ b = omega arith in le) other one)
        | inr more ↦ one_onset_of_wider b c s t G more one other
      ]
