-- Colours that agree, and what they show.
use Rattle.std.proofs.Common.{Option, None, Some, IfNone, IfSome, get_or-set_same, get_or-set_other}
use Rattle.std.proofs.Common.{◌≡◌, ◌≢◌, ℕ, zero, suc, ◌+◌, ◌<◌, ◌==◌, Bool, true, false, ◌&&◌, cond, List, length, set, inl, inr, sym, refl, ap, subst, ◌∙◌, arith}
use Rattle.std.proofs.lemmas.Bool.{and_parts, both_ways, cases_Bool, cases_lt}
use Rattle.life_model.specs.Rule.{Rule, born}
use Rattle.life_islands.specs.declared.colours.Seat.{Seat}
use Rattle.life_islands.specs.Seats.{Agree, AreTried, BeginWith, IsBegun, IsFairAround, IsFlaw, IsSound, bears_at, count_colour, count_to, listed, seat}

pub count_to-alike : (n : ℕ) (p q : ℕ → Bool) → ((k : ℕ) → k < n → p k ≡ q k) → count_to n p ≡ count_to n q
count_to-alike zero p q h = refl
count_to-alike (suc n) p q h =
    λ i. count_to-alike n p q (λ k l. h k (omega arith)) i + cond (h n (omega arith) i) 1 0

-- a seat whose group bears is live
pub live_bearing : (R : Rule) (seats : List Seat) (colour : ℕ → ℕ) (n : ℕ) → bears_at R seats colour n ≡ true → (seat seats n).live ≡ true
live_bearing R seats colour n e = (and_parts (seat seats n).live (born R (count_colour seats colour (colour n))) e).0

module _ (R : Rule) (seats : List Seat) where
  bears-alike : (a b : ℕ → ℕ) → ((k : ℕ) → k < 8 → a k ≡ b k) → (n : ℕ) → n < 8 → bears_at R seats a n ≡ bears_at R seats b n
  bears-alike a b h n l =
      ap (λ c. (seat seats n).live && born R c)
      (count_to-alike 8 (λ k. (seat seats k).live && (a k == a n)) (λ k. (seat seats k).live && (b k == b n))
      (λ k m. λ i. (seat seats k).live && (h k m i == h n l i)))

  pub sound-alike : (is_born : Bool) (bearer : ℕ) (a b : ℕ → ℕ) → ((k : ℕ) → k < 8 → a k ≡ b k) →
      IsSound R seats is_born bearer a → IsSound R seats is_born bearer b
  sound-alike is_born bearer a b h s = record {
    fair = record {
      only = λ n l k. s.fair.only n l (bears-alike a b h n l ∙ k);
      one = λ m n l k x y.
          sym (h m l) ∙ s.fair.one m n l k (bears-alike a b h m l ∙ x) (bears-alike a b h n k ∙ y) ∙ h n k;
      borne = λ e. let n = s.fair.borne e in (n.0, n.1, sym (bears-alike a b h n.0 n.1) ∙ n.2);
    };
    set = λ n l k. s.set n l (bears-alike a b h n l ∙ k);
  }

  -- ---- what is found of some colours

  module _ (is_born : Bool) (bearer other : ℕ) (colours : List ℕ) where
    abbrev colour : ℕ → ℕ
    colour = listed colours

    pub flaw_by_none : is_born ≡ true → ((k : ℕ) → k < 8 → bears_at R seats colour k ≡ false) → IsFlaw R seats is_born bearer other colour other
    flaw_by_none e none = inr (refl, λ fair. let n = fair.borne e in both_ways (bears_at R seats colour n.0) (none n.0 n.1) n.2)

    pub sound_by_none : is_born ≡ false → ((k : ℕ) → k < 8 → bears_at R seats colour k ≡ false) → IsSound R seats is_born bearer colour
    sound_by_none e none = record {
      fair = record {
        only = λ n l k. absurd (both_ways (bears_at R seats colour n) (none n l) k);
        one = λ m n l k x y. absurd (both_ways (bears_at R seats colour m) (none m l) x);
        borne = λ f. absurd (both_ways is_born e f);
      };
      set = λ n l k. absurd (both_ways (bears_at R seats colour n) (none n l) k);
    }

    module _ (first : ℕ) (within : first < 8) (bearing : bears_at R seats colour first ≡ true) where
      pub flaw_by_some : is_born ≡ false → IsFlaw R seats is_born bearer other colour other
      flaw_by_some e = inr (refl, λ fair. both_ways is_born e (fair.only first within bearing))

      pub flaw_by_twice : (n : ℕ) × (n < 8) × (bears_at R seats colour n ≡ true) × (colour n ≢ colour first) →
          IsFlaw R seats is_born bearer other colour other
      flaw_by_twice two = inr (refl, λ fair. two.3 (fair.one two.0 first two.1 within two.2 bearing))

      module _ (e : is_born ≡ true) (once : (n : ℕ) → n < 8 → bears_at R seats colour n ≡ true → colour n ≡ colour first) where
        pub fair_by_once : IsFairAround R seats is_born colour
        fair_by_once = record {
          only = λ n l k. e;
          one = λ m n l k x y. once m l x ∙ sym (once n k y);
          borne = λ _. (first, within, bearing);
        }

        pub flaw_by_set : (found : ℕ) → (seat seats first).set ≡ found → found ≢ bearer → IsFlaw R seats is_born bearer other colour found
        flaw_by_set found same differ = inl (fair_by_once, (first, within, bearing, same, differ))

        live_at : (n : ℕ) → bears_at R seats colour n ≡ true → (seat seats n).live ≡ true
        live_at n k = (and_parts (seat seats n).live (born R (count_colour seats colour (colour n))) k).0

        pub sound_by_once : IsBegun seats colours 8 → (seat seats first).set ≡ bearer → IsSound R seats is_born bearer colour
        sound_by_once begun same = record {
          fair = fair_by_once;
          set = λ n l k.
              elim (cases_lt n first) [
                | inl less ↦ (begun n first less within (live_at n k) (live_at first bearing)).sets (once n l k) ∙ same
                | inr no_less ↦ elim (cases_lt first n) [
                  | inl more ↦ sym ((begun first n more l (live_at first bearing) (live_at n k)).sets (sym (once n l k))) ∙ same
                  | inr no_more ↦ ap (λ m. (seat seats m).set) (let z : n ≡ first = omega arith in z) ∙ same
                ]
              ];
        }

-- ---- one colour more

pub none_weaker : {X : Type 0} (r : Option X) (A B : Type 0) → (A → B) → IfNone r A → IfNone r B
none_weaker None A B f h = f h
none_weaker (Some x) A B f h = tt

module _ (seats : List Seat) (colours : List ℕ) (at colour : ℕ) (long : length colours ≡ 8) (within : at < 8) where
  abbrev more : List ℕ
  more = set colours at colour

  here : listed more at ≡ colour
  here = get_or-set_same colours at colour 0 (omega arith)

  there : (k : ℕ) → k < at → listed more k ≡ listed colours k
  there k h = get_or-set_other colours at k colour 0 (λ e. absurd (omega arith))

  pub begun_more : IsBegun seats colours at → ((m : ℕ) → m < at → (seat seats m).live ≡ true →
      (seat seats at).live ≡ true → Agree seats m at (listed colours m) colour) → IsBegun seats more (at + 1)
  begun_more begun fits m n h l x y =
      elim (cases_lt n at) [
        | inl less ↦
            subst (λ k. Agree seats m n k (listed more n)) (sym (there m (omega arith)))
            (subst (Agree seats m n (listed colours m)) (sym (there n less)) (begun m n h less x y))
        | inr no_less ↦
            let same : n ≡ at = omega arith in
            subst (λ z. Agree seats m z (listed more m) (listed more z)) (sym same)
            (subst (λ k. Agree seats m at k (listed more at)) (sym (there m (omega arith)))
            (subst (Agree seats m at (listed colours m)) (sym here)
            (fits m (omega arith) x (subst (λ z. (seat seats z).live ≡ true) same y))))
      ]

  module _ (given : ℕ → ℕ) (begins : BeginWith colours at given) (same : given at ≡ colour) where
    pub begin_more : BeginWith more (at + 1) given
    begin_more n h =
        elim (cases_lt n at) [
          | inl less ↦ there n less ∙ begins n less
          | inr no_less ↦
              let e : n ≡ at = omega arith in
              ap (listed more) e ∙ here ∙ sym same ∙ ap given (sym e)
        ]

    pub it_fits : AreTried seats given → (m : ℕ) → m < at → (seat seats m).live ≡ true → (seat seats at).live ≡ true →
        Agree seats m at (listed colours m) colour
    it_fits tried m h x y =
        subst (λ k. Agree seats m at k colour) (sym (begins m h))
        (subst (Agree seats m at (given m)) same (tried.colouring m at h within x y))

-- the colour of a seat is one of those that are tried
pub colour_tried : (seats : List Seat) (given : ℕ → ℕ) (at most : ℕ) → at < 8 → AreTried seats given →
    ((seat seats at).live ≡ true → most ≡ at + 1) → ((seat seats at).live ≡ false → most ≡ 1) → given at < most
colour_tried seats given at most h tried live rest =
    elim (cases_Bool (seat seats at).live) [
      | inl x ↦ let e = live x in let few = tried.few at h in omega arith
      | inr x ↦ let e = rest x in let none = tried.rest at h x in omega arith
    ]

pub some_weaker : {X : Type 0} (r : Option X) (A B : X → Type 0) → ((x : X) → A x → B x) → IfSome r A → IfSome r B
some_weaker None A B f h = tt
some_weaker (Some x) A B f h = f x h
