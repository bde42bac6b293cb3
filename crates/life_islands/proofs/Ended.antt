-- Places of labels that have one root, joined each with the first of them.
use Rattle.std.proofs.Common.{◌≡◌, ◌⊎◌, ℕ, ◌+◌, ◌<◌, ◌≤◌, Bool, true, false, ◌||◌, List, length, get_or, map, inl, inr, refl, sym, ap, subst, ◌∙◌, arith}
use Rattle.std.specs.Prelude.{set, replicate}
use Rattle.std.specs.List.{All}
use Rattle.std.proofs.lemmas.Bool.{cases_eq, cases_lt, or_right}
use Rattle.std.proofs.lemmas.Grind.{get_or-set_at}
use Rattle.std.proofs.lemmas.List.{get_or_default, get_or-map, get_or-replicate, get_or-set_other, length-map, length-replicate}
use Rattle.std.proofs.Common.{length-set}
use Rattle.life_model.specs.Cell.{Cell, origin}
use Rattle.life_model.specs.Rule.{Rule}
use Rattle.life_model.specs.Generation.{Generation}
use Rattle.life_parts.specs.Parts.Ties.{AreTied, swapped, through}
use Rattle.life_islands.specs.declared.labels.Labels.{Labels}
use Rattle.life_classes.specs.Forest.{IsJoined, root}
use Rattle.life_islands.specs.Labels.{AreJoinedFurther, AreTiedFirsts}
use Rattle.life_classes.proofs.Forests.{root-le}
use Rattle.life_islands.proofs.Further.{further_by_join, further_through, joined_so}

-- ---- what is tied

-- what is joined so far is tied if what has labels with one root is tied
abbrev pub KeepsEndsTied : List ℕ → List ℕ → List ℕ → Type 0
KeepsEndsTied labels old now =
    (R : Rule) (P : Generation) (firsts : List Cell) →
    ((m k : ℕ) → m < length labels → k < length labels →
    root old (get_or labels m 0) ≡ root old (get_or labels k 0) →
    AreTied R P 0 (get_or firsts m origin) 0 (get_or firsts k origin)) →
    AreTiedFirsts R P firsts old → AreTiedFirsts R P firsts now

pub tied_joined : (R : Rule) (P : Generation) (firsts : List Cell) (now new : List ℕ) (one other : ℕ) (is_new : Bool) →
    IsJoined now new one other is_new → one < length now → other < length now →
    AreTied R P 0 (get_or firsts one origin) 0 (get_or firsts other origin) →
    AreTiedFirsts R P firsts now → AreTiedFirsts R P firsts new
tied_joined R P firsts now new one other is_new j h k tie at m l x y e =
    let long = j.long in
    joined_so now new one other is_new j (length now) h k
    (λ m l. AreTied R P 0 (get_or firsts m origin) 0 (get_or firsts l origin))
    (λ m l t. swapped 0 0 (get_or firsts m origin) (get_or firsts l origin) t)
    (λ m l q t u. through 0 0 0 (get_or firsts m origin) (get_or firsts l origin) (get_or firsts q origin) t u)
    at tie m l (omega arith) (omega arith) e

-- ---- the first place of each mark

-- each of the first n places is joined with the first one that has its mark
pub record AreFirsts (count : ℕ) (marks : List ℕ) (n : ℕ) (firsts now : List ℕ) : Type 0 where
  pub long : length firsts ≡ count
  pub passed : (m : ℕ) → m < n → (get_or firsts (get_or marks m 0) 0 < n) ×
      (root now m ≡ root now (get_or firsts (get_or marks m 0) 0))
  pub known : (k : ℕ) → k < count → (get_or firsts k 0 ≡ count) ⊎
      ((get_or firsts k 0 < n) × (get_or marks (get_or firsts k 0) 0 ≡ k))

pub none_passed : (count : ℕ) (marks firsts now : List ℕ) → firsts ≡ replicate count count → AreFirsts count marks 0 firsts now
none_passed count marks firsts now is = record {
  long = ap length is ∙ length-replicate count count;
  passed = λ m h. absurd (omega arith);
  known = λ k h. inl (ap (λ l. get_or l k 0) is ∙ get_or-replicate count k count 0 h);
}

module _ (count : ℕ) (marks : List ℕ) (n : ℕ) (firsts now : List ℕ) (within : n < count) (below : get_or marks n 0 < count)
    (at : AreFirsts count marks n firsts now) where
  pub first_of_mark : get_or firsts (get_or marks n 0) 0 ≡ count →
      AreFirsts count marks (n + 1) (set firsts (get_or marks n 0) n) now
  first_of_mark none =
      let mark = get_or marks n 0 in
      let long = at.long in
      let inside : mark < length firsts = omega arith in
      record {
        long = length-set firsts mark n ∙ at.long;
        passed = λ m h. elim (cases_lt m n) [
          | inl before ↦
              let p = at.passed m before in
              let other : get_or marks m 0 ≡ mark → ⊥ =
              λ e. let less = p.0 in let f = ap (λ k. get_or firsts k 0) e in omega arith in
              subst (λ f. (f < n + 1) × (root now m ≡ root now f))
              (sym (get_or-set_other firsts mark (get_or marks m 0) n 0 other))
              (let less = p.0 in omega arith, p.1)
          | inr after ↦
              let same : n ≡ m = omega arith in
              subst (λ f. (f < n + 1) × (root now m ≡ root now f))
              (sym (get_or-set_at firsts mark (get_or marks m 0) n 0 (ap (λ k. get_or marks k 0) (sym same)) inside))
              (omega arith, ap (root now) (sym same))
        ];
        known = λ k h. elim (cases_eq k mark) [
          | inl same ↦
              subst (λ f. (f ≡ count) ⊎ ((f < n + 1) × (get_or marks f 0 ≡ k)))
              (sym (get_or-set_at firsts mark k n 0 same inside))
              (inr (omega arith, sym same))
          | inr other ↦
              subst (λ f. (f ≡ count) ⊎ ((f < n + 1) × (get_or marks f 0 ≡ k)))
              (sym (get_or-set_other firsts mark k n 0 other))
              (elim (at.known k h) [ inl none ↦ inl none | inr some ↦ inr (let less = some.0 in omega arith, some.1) ])
        ];
      }

  -- the first place of the mark, where there is one
  pub is_first : (first : ℕ) → first ≡ get_or firsts (get_or marks n 0) 0 → (first ≡ count → ⊥) →
      (first < n) × (get_or marks first 0 ≡ get_or marks n 0)
  is_first first is some = elim (at.known (get_or marks n 0) below) [
    | inl none ↦ absurd (some (is ∙ none))
    | inr both ↦ subst (λ f. (f < n) × (get_or marks f 0 ≡ get_or marks n 0)) (sym is) both
  ]

  pub joined_with_first : (first : ℕ) (new : List ℕ) (is_new : Bool) → first ≡ get_or firsts (get_or marks n 0) 0 →
      (first ≡ count → ⊥) → IsJoined now new n first is_new → AreFirsts count marks (n + 1) firsts new
  joined_with_first first new is_new is some j = record {
    long = at.long;
    passed = λ m h. elim (cases_lt m n) [
      | inl before ↦
          let p = at.passed m before in
          (let less = p.0 in omega arith, j.coarser m (get_or firsts (get_or marks m 0) 0) p.1)
      | inr after ↦
          let same : n ≡ m = omega arith in
          let less = (is_first first is some).0 in
          subst (λ m. (get_or firsts (get_or marks m 0) 0 < n + 1) × (root new m ≡ root new (get_or firsts (get_or marks m 0) 0))) same
          (subst (λ f. (f < n + 1) × (root new n ≡ root new f)) is (omega arith, j.both))
    ];
    known = λ k h. elim (at.known k h) [ inl none ↦ inl none | inr both ↦ inr (let less = both.0 in omega arith, both.1) ];
  }

-- ---- the marks of labels

module _ (labels forest marks : List ℕ) (are : marks ≡ map (root forest) labels) where
  pub mark_is : (m : ℕ) → m < length labels → get_or marks m 0 ≡ root forest (get_or labels m 0)
  mark_is m h = ap (λ l. get_or l m 0) are ∙ get_or-map (root forest) labels m 0 0 h

  pub mark_below : All (λ l. l < length forest) labels → (m : ℕ) → m < length labels → get_or marks m 0 < length forest
  mark_below below m h =
      let less = below m 0 h in
      let le = root-le forest (get_or labels m 0) in
      let is = mark_is m h in
      omega arith

  -- places with one mark are joined, once all are passed
  pub ends_joined : (firsts now : List ℕ) (count : ℕ) → length labels ≤ count → now ≡ forest →
      (n : ℕ) → count ≤ n → AreFirsts count marks n firsts now → (m k : ℕ) → m < length labels → k < length labels →
      root forest (get_or labels m 0) ≡ root forest (get_or labels k 0) → root forest m ≡ root forest k
  ends_joined firsts now count whole same n all at m k h l e =
      let marked : get_or marks m 0 ≡ get_or marks k 0 = mark_is m h ∙ e ∙ sym (mark_is k l) in
      subst (λ f. root f m ≡ root f k) same
      ((at.passed m (omega arith)).1 ∙ ap (λ i. root now (get_or firsts i 0)) marked ∙ sym (at.passed k (omega arith)).1)

  pub ends_kept : (now new : List ℕ) (n first : ℕ) (is_new : Bool) → n < length labels → first < length labels →
      length labels ≡ length now → get_or marks first 0 ≡ get_or marks n 0 → IsJoined now new n first is_new →
      KeepsEndsTied labels forest now → KeepsEndsTied labels forest new
  ends_kept now new n first is_new h k long same j kept R P firsts ends at =
      tied_joined R P firsts now new n first is_new j (omega arith) (omega arith)
      (ends n first h k (sym (mark_is n h) ∙ sym same ∙ mark_is first k)) (kept R P firsts ends at)

  pub mark_read : All (λ l. l < length forest) labels → (n mark : ℕ) → n < length labels → mark ≡ get_or marks n mark →
      (mark ≡ get_or marks n 0) × (mark < length forest)
  mark_read below n mark h is =
      let long : length marks ≡ length labels = ap length are ∙ length-map labels (root forest) in
      let e : mark ≡ get_or marks n 0 = is ∙ get_or_default marks n mark 0 (omega arith) in
      (e, subst (λ m. m < length forest) (sym e) (mark_below below n h))

-- ---- the loop

pub read_twice : (l : List ℕ) (n a b : ℕ) → n < length l → a ≡ get_or l n a → b ≡ get_or l n b → a ≡ b
read_twice l n a b h e f = e ∙ get_or_default l n a b h ∙ sym f

pub or_same : (a b : Bool) → b ≡ false → a ≡ (a || b)
or_same true b e = refl
or_same false b e = sym e

-- what holds once the first n places are passed
pub record AreEndedSo (old : Labels) (count : ℕ) (marks : List ℕ) (n : ℕ) (now : Labels) (listed : List ℕ) (joined : Bool) : Type 0 where
  pub further : AreJoinedFurther old now joined
  pub firsts : AreFirsts count marks n listed now.forest.items
  pub tied : KeepsEndsTied old.labels.items old.forest.items now.forest.items

module _ (old : Labels) (count : ℕ) (marks : List ℕ) (long : length old.labels.items ≡ length old.forest.items)
    (below : All (λ l. l < length old.forest.items) old.labels.items) (all : count ≡ length old.labels.items)
    (are : marks ≡ map (root old.forest.items) old.labels.items) (n : ℕ) (within : n < count) (mark : ℕ)
    (its : mark ≡ get_or marks n mark) (now : Labels) (firsts : List ℕ) (joined : Bool)
    (so : AreEndedSo old count marks n now firsts joined) where
  read : (mark ≡ get_or marks n 0) × (mark < length old.forest.items)
  read = mark_read old.labels.items old.forest.items marks are below n mark (omega arith) its

  pub mark_within : mark < length firsts
  mark_within = let long_too = so.firsts.long in let less = read.1 in omega arith

  in_count : get_or marks n 0 < count
  in_count = subst (λ m. m < count) read.0 (let less = read.1 in omega arith)

  module _ (first : ℕ) (is : first ≡ get_or firsts mark first) where
    -- the first place of the mark
    first_is : first ≡ get_or firsts (get_or marks n 0) 0
    first_is = is ∙ get_or_default firsts mark first 0 mark_within ∙ ap (λ m. get_or firsts m 0) read.0

    pub ended_first : first ≡ count → (new : Labels) (listed : List ℕ) (flag : Bool) → new ≡ now → listed ≡ set firsts mark n →
        flag ≡ joined → AreEndedSo old count marks (n + 1) new listed flag
    ended_first none new listed flag same set_so still = record {
      further = subst (λ L. AreJoinedFurther old L flag) (sym same) (subst (AreJoinedFurther old now) (sym still) so.further);
      firsts =
          subst (λ (L : Labels). AreFirsts count marks (n + 1) listed L.forest.items) (sym same)
          (subst (λ l. AreFirsts count marks (n + 1) l now.forest.items) (sym (set_so ∙ ap (λ m. set firsts m n) read.0))
          (first_of_mark count marks n firsts now.forest.items within in_count so.firsts (sym first_is ∙ none)));
      tied = subst (λ (L : Labels). KeepsEndsTied old.labels.items old.forest.items L.forest.items) (sym same) so.tied;
    }

    module _ (some : first ≡ count → ⊥) where
      before : (first < n) × (get_or marks first 0 ≡ get_or marks n 0)
      before = is_first count marks n firsts now.forest.items within in_count so.firsts first first_is some

      pub both_within : (n < length now.forest.items) × (first < length now.forest.items)
      both_within =
          let less = before.0 in
          let long_too = so.further.long in
          (omega arith, omega arith)

      pub ended_join : (new : Labels) (listed : List ℕ) (flag is_new : Bool) → new.labels.items ≡ now.labels.items →
          IsJoined now.forest.items new.forest.items n first is_new → listed ≡ firsts → flag ≡ (joined || is_new) →
          AreEndedSo old count marks (n + 1) new listed flag
      ended_join new listed flag is_new same j still told =
          let less = before.0 in
          let long_too = so.further.long in
          record {
            further =
                subst (AreJoinedFurther old new) (sym told)
                (further_through old now new joined is_new so.further (further_by_join now new n first is_new j same));
            firsts =
                subst (λ l. AreFirsts count marks (n + 1) l new.forest.items) (sym still)
                (joined_with_first count marks n firsts now.forest.items within in_count so.firsts first new.forest.items is_new
                first_is some j);
            tied =
                ends_kept old.labels.items old.forest.items marks are now.forest.items new.forest.items n first is_new
                (omega arith) (omega arith) (omega arith) before.1 j so.tied;
          }
