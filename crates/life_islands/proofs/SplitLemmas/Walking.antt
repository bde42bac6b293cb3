-- A walk of one period, in which cells are joined.
use Rattle.std.proofs.Common.{◌≡◌, ℕ, suc, ◌+◌, ◌<◌, ◌≤◌, Bool, true, false, List, length, get_or, inl, inr, sym, refl, ap, subst, ◌∙◌, arith, true≢false}
use Rattle.std.specs.List.{Contains, range_with_len}
use Rattle.std.proofs.lemmas.Bool.{cases_lt}
use Rattle.std.proofs.lemmas.List.{get_or-map, length-map}
use Rattle.std.proofs.lemmas.List.Elements.{Contains-get_or, at_from_Contains}
use Rattle.std.proofs.lemmas.List.FromFn.{get_or-range_with_len, length-range_with_len}
use Rattle.life_model.specs.Cell.{Cell, origin, plus}
use Rattle.life_model.specs.Rule.{Rule}
use Rattle.life_model.specs.Generation.{Generation, cells, contains, empty}
use Rattle.life_model.specs.Evolution.{generation, next}
use Rattle.life_model.specs.Recurrence.{RecursBy}
use Rattle.life_model.proofs.Recurrences.{generation-zero}
use Rattle.life_objects.specs.Union.{generations}
use Rattle.life_objects.proofs.Many.{generations-zero}
use Rattle.life_parts.specs.Parts.Apart.{AreHeldApart}
use Rattle.life_parts.specs.Parts.Ties.{AreTied, IsIn, itself}
use Rattle.life_parts.proofs.PartsLemmas.Deciding.{decided}
use Rattle.life_parts.proofs.PartsLemmas.Ends.{both_in, contains-later}
use Rattle.life_parts.proofs.PartsLemmas.Evolving.{at_first, in_at_first}
use Rattle.life_islands.specs.declared.labels.Labels.{Labels}
use Rattle.life_classes.specs.Forest.{root}
use Rattle.life_islands.specs.Heirs.{AreHeirs}
use Rattle.life_islands.specs.Labels.{AreJoinedFurther, AreTiedFirsts, AreTiedLabels, Fits, KeepsTied, joined_sets, mark_of, sets_by, sets_of}
use Rattle.life_islands.specs.Splits.{MakeUp}
use Rattle.life_classes.proofs.Forests.{root-le, root-stays}
use Rattle.life_islands.proofs.Further.{further_fits, same_sets}
use Rattle.life_islands.proofs.Labelled.{in_set, listed_cell, of_listed, of_set, place_in_list, sets_make_up}
use Rattle.life_islands.proofs.Touched.{numbered_fits}
use Rattle.life_islands.proofs.Whole.{pairs_of_those, those_held_apart}
use Rattle.life_islands.specs.Split.Rounds.{AreHeldUntil, AreJoinedTied, AreParted, HaveArrived, HaveWalked}
use Rattle.life_islands.proofs.SplitLemmas.Walks.{ends_tied, ends_whole, first_labels_tied, first_mark, heirs_tied, heirs_tied_here, next_of_whole, plus_nothing, sets_next}

-- ---- generations of what recurs

pub comes_again : (R : Rule) (P : Generation) (k : ℕ) (d : Cell) → RecursBy R P (suc k) d → (c : Cell) → contains P c ≡ true →
    contains (next R (generation R P k)) (plus c d) ≡ true
unfolding generation
comes_again R P k d r c h =
    ap (λ n. contains (generation R P n) (plus c d)) (let e : suc k ≡ 0 + suc k = omega arith in e)
    ∙ contains-later R P (suc k) d r 0 c ∙ at_first R P c h

pub comes_next : (R : Rule) (P : Generation) (k : ℕ) (c : Cell) → contains (generation R P (suc k)) c ≡ true →
    contains (next R (generation R P k)) (plus c origin) ≡ true
unfolding generation
comes_next R P k c h = ap (contains (next R (generation R P k))) (plus_nothing c) ∙ h

-- ---- the first generation

pub arrived_first : (R : Rule) (P : Generation) (L : Labels) (b : Bool) → L.labels.items ≡ range_with_len 0 (length (cells P)) →
    AreJoinedTied R P L.forest.items → HaveArrived R P 0 L b
arrived_first R P L b numbers firsts = record {
  fits = subst (λ G. Fits G L) (sym (generation-zero R P)) (numbered_fits P L (record { labels = numbers; long = firsts.long }));
  firsts = firsts;
  labels = subst (λ G. AreTiedLabels R P (cells P) 0 (λ c. c) G L.labels.items) (sym (generation-zero R P))
      (subst (AreTiedLabels R P (cells P) 0 (λ c. c) P) (sym numbers) (first_labels_tied R P));
  held = λ _. record {
    before = λ m h. absurd (omega arith);
    now = ap (λ G. sets_by G L.labels.items L.forest.items) (generation-zero R P)
        ∙ ap (λ ls. sets_by P ls L.forest.items) numbers ∙ sym (generations-zero R (joined_sets P L.forest.items));
  };
}

-- before anything is joined each label is tied to itself
pub none_joined_yet : (R : Rule) (P : Generation) → AreJoinedTied R P (range_with_len 0 (length (cells P)))
none_joined_yet R P =
    let N = length (cells P) in
    let f = range_with_len 0 N in
    let long = length-range_with_len 0 N in
    record {
      long = long;
      tied = λ k l h i same.
          let own : (m : ℕ) → m < N → root f m ≡ m = λ m z. root-stays f m (let e = get_or-range_with_len 0 N m m z in omega arith) in
          let one : k ≡ l = sym (own k (omega arith)) ∙ same ∙ own l (omega arith) in
          subst (λ m. AreTied R P 0 (get_or (cells P) k origin) 0 (get_or (cells P) m origin)) one
          (itself 0 (get_or (cells P) k origin) (at_first R P (get_or (cells P) k origin) (listed_cell P (cells P) k refl (omega arith))));
    }

-- ---- what is joined in a generation

module _ (R : Rule) (P : Generation) (n : ℕ) (L M : Labels) (a b c : Bool) (at : HaveArrived R P n L a)
    (further : AreJoinedFurther L M b) (kept : KeepsTied R (generation R P n) L M)
    (here : AreHeldApart R (generation R P n) (sets_of (generation R P n) M)) (none : c ≡ false → (a ≡ false) × (b ≡ false)) where
  pub firsts_then : AreJoinedTied R P M.forest.items
  firsts_then = record {
    long = further.long ∙ at.firsts.long;
    tied = kept P n (cells P) refl at.labels at.firsts.tied;
  }

  pub walked : HaveWalked R P n M c
  walked = record {
    arrived = record {
      fits = further_fits (generation R P n) L M b further at.fits;
      firsts = firsts_then;
      labels = subst (AreTiedLabels R P (cells P) n (λ e. e) (generation R P n)) (sym further.labels) at.labels;
      held = λ e.
          let no = none e in
          let h = at.held no.0 in
          let forest = further.same no.1 in
          record {
            before = λ m l. subst (λ f. AreHeldApart R (generation R P m) (generations R (joined_sets P f) m)) (sym forest) (h.before m l);
            now = same_sets (generation R P n) L M b further no.1 ∙ h.now
                ∙ ap (λ f. generations R (joined_sets P f) n) (sym forest);
          };
    };
    here = here;
  }

-- what is joined in the first generation is known from the beginning
pub walked_first : (R : Rule) (P : Generation) (L M : Labels) (b : Bool) → L.labels.items ≡ range_with_len 0 (length (cells P)) →
    AreJoinedTied R P L.forest.items → AreJoinedFurther L M b → KeepsTied R P L M → AreHeldApart R P (sets_of P M) →
    HaveWalked R P 0 M false
walked_first R P L M b numbers firsts further kept here =
    let at = arrived_first R P L true numbers firsts in
    let kept_then = subst (λ G. KeepsTied R G L M) (sym (generation-zero R P)) kept in
    let here_then = subst (λ G. AreHeldApart R G (sets_of G M)) (sym (generation-zero R P)) here in
    let joined = firsts_then R P 0 L M true b true at further kept_then here_then (λ e. absurd (true≢false e)) in
    record { arrived = arrived_first R P M false (further.labels ∙ numbers) joined; here = here_then }

-- ---- the next generation

module _ (R : Rule) (P : Generation) (n : ℕ) (L M : Labels) (a : Bool) (at : HaveWalked R P n L a)
    (fits : Fits (generation R P (suc n)) M) (same : M.forest.items ≡ L.forest.items)
    (heirs : AreHeirs R (generation R P n) L origin (generation R P (suc n)) M) where
  now_then : AreHeldUntil R P n L → sets_of (generation R P (suc n)) M ≡ generations R (joined_sets P L.forest.items) (suc n)
  unfolding generation
  now_then h =
      sets_next R (generation R P n) L at.arrived.fits at.here (generation R P (suc n)) M fits heirs same refl
      (joined_sets P L.forest.items) n h.now

  held_then : AreHeldUntil R P n L → (m : ℕ) → m < suc n →
      AreHeldApart R (generation R P m) (generations R (joined_sets P L.forest.items) m)
  held_then h m l =
      elim (cases_lt m n) [
        | inl less ↦ h.before m less
        | inr no_less ↦
            let here : n ≡ m = omega arith in
            subst (λ k. AreHeldApart R (generation R P k) (generations R (joined_sets P L.forest.items) k)) here
            (subst (AreHeldApart R (generation R P n)) h.now at.here)
      ]

  pub arrived_next : HaveArrived R P (suc n) M a
  arrived_next = record {
    fits = fits;
    firsts = subst (AreJoinedTied R P) (sym same) at.arrived.firsts;
    labels =
        heirs_tied_here R (generation R P n) L at.arrived.fits P n (cells P) refl at.arrived.labels at.arrived.firsts.tied
        (generation R P (suc n)) M heirs;
    held = λ e.
        let h = at.arrived.held e in
        record {
          before = λ m l. subst (λ f. AreHeldApart R (generation R P m) (generations R (joined_sets P f) m)) (sym same) (held_then h m l);
          now = now_then h ∙ ap (λ f. generations R (joined_sets P f) (suc n)) (sym same);
        };
  }

-- ---- the end of a period

module _ (R : Rule) (P : Generation) (forest : List ℕ) (long : length forest ≡ length (cells P)) where
  first_marked : (c : Cell) → contains P c ≡ true → mark_of P (range_with_len 0 (length (cells P))) forest c < length forest
  first_marked c h =
      let m = place_in_list P (cells P) refl c h in
      let inside : m.0 < length (cells P) = m.1 in
      let is = first_mark P forest m.0 c m.1 m.2 in
      let less = root-le forest m.0 in
      omega arith

  pub first_make_up : MakeUp P (joined_sets P forest)
  first_make_up = sets_make_up P (range_with_len 0 (length (cells P))) forest first_marked

  pub first_sets_tied : AreTiedFirsts R P (cells P) forest → (H : Generation) → Contains (joined_sets P forest) H → (c e : Cell) →
      contains H c ≡ true → contains H e ≡ true → AreTied R P 0 c 0 e
  first_sets_tied tied H one c e a b =
      let firsts = range_with_len 0 (length (cells P)) in
      let x = of_listed P firsts forest H one c a in
      let y = of_set P firsts forest (mark_of P firsts forest c) empty e x.0 (ap (λ A. contains A e) x.2 ∙ b) in
      let i = place_in_list P (cells P) refl c x.1 in
      let j = place_in_list P (cells P) refl e y.0 in
      let inside : i.0 < length (cells P) = i.1 in
      let inside_too : j.0 < length (cells P) = j.1 in
      let roots : root forest i.0 ≡ root forest j.0 =
      sym (first_mark P forest i.0 c i.1 i.2) ∙ sym y.1 ∙ first_mark P forest j.0 e j.1 j.2 in
      subst (λ q. AreTied R P 0 q 0 e) i.2 (subst (AreTied R P 0 (get_or (cells P) i.0 origin) 0) j.2 (tied i.0 j.0 (omega arith) (omega arith) roots))

module _ (R : Rule) (P : Generation) (k : ℕ) (d : Cell) (L E : Labels) (at : HaveWalked R P k L false)
    (r : RecursBy R P (suc k) d) (least : (n : ℕ) (e : Cell) → RecursBy R P n e → suc k ≤ n)
    (fits : Fits P E) (same : E.forest.items ≡ L.forest.items) (heirs : AreHeirs R (generation R P k) L d P E)
    (kept : (m j : ℕ) → m < length (cells P) → j < length (cells P) →
    root L.forest.items (get_or E.labels.items m 0) ≡ root L.forest.items (get_or E.labels.items j 0) →
    root L.forest.items m ≡ root L.forest.items j) where
  abbrev Hs : List Generation
  Hs = joined_sets P L.forest.items

  until : AreHeldUntil R P k L
  until = at.arrived.held refl

  held_all : (n : ℕ) → n < suc k → AreHeldApart R (generation R P n) (generations R Hs n)
  held_all n h =
      elim (cases_lt n k) [
        | inl less ↦ until.before n less
        | inr no_less ↦
            let here : k ≡ n = omega arith in
            subst (λ m. AreHeldApart R (generation R P m) (generations R Hs m)) here
            (subst (AreHeldApart R (generation R P k)) until.now at.here)
      ]

  -- what comes to a moved cell of a set a period later came from P
  from_P : (Q : Generation) → Contains Hs Q → (c : Cell) → IsIn R Q (suc k) (plus c d) → contains P c ≡ true
  unfolding generation
  from_P Q one c h =
      let place = at_from_Contains Hs Q one in
      let G = generation R P k in
      let long = length-map Hs (λ A. generation R A k) in
      let longs = ap length until.now in
      let inside : place.0 < length Hs = place.1 in
      let set : get_or (sets_of G L) place.0 empty ≡ generation R Q k =
      ap (λ As. get_or As place.0 empty) until.now ∙ get_or-map (λ A. generation R A k) Hs place.0 empty empty inside
      ∙ ap (λ A. generation R A k) (place.2 empty) in
      let there : Contains (sets_of G L) (generation R Q k) =
      subst (Contains (sets_of G L)) set (Contains-get_or (sets_of G L) place.0 empty (omega arith)) in
      let later : IsIn R P (suc k) (plus c d) = next_of_whole R G L at.arrived.fits at.here (generation R Q k) there (plus c d) h in
      in_at_first R P c
      (sym (contains-later R P (suc k) d r 0 c)
      ∙ ap (λ n. contains (generation R P n) (plus c d)) (let e : 0 + suc k ≡ suc k = omega arith in e) ∙ later)

  pub parted : AreParted R P L.forest.items
  parted Ks those =
      let firsts = at.arrived.firsts in
      let up = first_make_up R P L.forest.items firsts.long in
      decided R P Ks (suc k) d r least (those.together ∙ up.together) those.once those.some
      (λ n h. those_held_apart Hs Ks those R n (generation R P n) (held_all n h))
      (λ Q one c e h l.
      λ A listed a.
      let from = those.from Q one in
      ends_whole R (generation R P k) L at.arrived.fits at.here P E d fits heirs same k until.now kept Q from c e
      (from_P Q from c h) (from_P Q from e l) h l A (those.from A listed) a)
      (λ i x h.
      pairs_of_those Hs Ks those (λ c e. AreTied R P 0 c 0 e) (first_sets_tied R P L.forest.items firsts.long firsts.tied)
      (get_or Ks i x) (Contains-get_or Ks i x h))

-- what is joined at the end is tied
pub ends_joined_tied : (R : Rule) (P : Generation) (k : ℕ) (d : Cell) (L E : Labels) (forest : List ℕ) (a : Bool) → HaveWalked R P k L a →
    RecursBy R P (suc k) d → Fits P E → E.forest.items ≡ L.forest.items → AreHeirs R (generation R P k) L d P E →
    length forest ≡ length E.forest.items →
    (((m j : ℕ) → m < length E.labels.items → j < length E.labels.items →
    root E.forest.items (get_or E.labels.items m 0) ≡ root E.forest.items (get_or E.labels.items j 0) →
    AreTied R P 0 (get_or (cells P) m origin) 0 (get_or (cells P) j origin)) →
    AreTiedFirsts R P (cells P) E.forest.items → AreTiedFirsts R P (cells P) forest) →
    AreJoinedTied R P forest
ends_joined_tied R P k d L E forest a at r fits same heirs long joins =
    let tied = subst (AreTiedFirsts R P (cells P)) (sym same) at.arrived.firsts.tied in
    let labels = heirs_tied R (generation R P k) L at.arrived.fits P k (cells P) refl at.arrived.labels at.arrived.firsts.tied P E d heirs in
    let as_long = fits.long in
    record {
      long = long ∙ ap length same ∙ at.arrived.firsts.long;
      tied = joins (λ m j h i roots. ends_tied R P E E.forest.items k d fits refl labels tied r m j (omega arith) (omega arith) roots) tied;
    }

-- where all cells are joined they are the only part
pub joined_as_one : (R : Rule) (P : Generation) (forest : List ℕ) → AreJoinedTied R P forest →
    ((k : ℕ) → k < length forest → root forest k ≡ root forest 0) → AreParted R P forest
joined_as_one R P forest firsts all Ks those =
    let numbers = range_with_len 0 (length (cells P)) in
    let Hs = joined_sets P forest in
    let up = first_make_up R P forest firsts.long in
    let mark = mark_of P numbers forest in
    let one = λ (c : Cell) (h : contains P c ≡ true).
    let m = place_in_list P (cells P) refl c h in
    let long = firsts.long in
    let inside : m.0 < length (cells P) = m.1 in
    first_mark P forest m.0 c m.1 m.2 ∙ all m.0 (omega arith) in
    record {
      together = those.together ∙ up.together;
      parts = λ i x h.
          let K = get_or Ks i x in
          let listed = those.from K (Contains-get_or Ks i x h) in
          record {
            nonempty = those.some i x h;
            within = λ c a. (of_listed P numbers forest K listed c a).1;
            tied = pairs_of_those Hs Ks those (λ c e. AreTied R P 0 c 0 e) (first_sets_tied R P forest firsts.long firsts.tied) K
                (Contains-get_or Ks i x h);
            whole = λ c e a t.
                let b = of_listed P numbers forest K listed c a in
                let here = in_at_first R P e (both_in R P 0 0 c e t).1 in
                ap (λ A. contains A e) (sym b.2) ∙ in_set P numbers forest (mark c) empty e b.0 here (one e here ∙ sym (one c b.1));
          };
      once = those.once;
    }
