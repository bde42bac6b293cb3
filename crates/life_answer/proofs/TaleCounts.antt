-- How often each tale occurs, in the order of tales.
use Rattle.std.proofs.Common.{◌≡◌, ℕ, zero, suc, ◌+◌, ◌<◌, Bool, true, false, cond, T, List, [], ◌∷◌, length, map, count_by, fold, Ordering, Less, Equal, Greater, Option, Some, None, inl, inr, sym, refl, ap, subst, ◌∙◌, true≢false, ◌&&◌, arith}
use Rattle.std.specs.FinMap as finmap
use Rattle.std.specs.FinMap.Entries as sorted
use Rattle.std.specs.List.{AllPairs, Contains}
use Rattle.std.specs.Option.{unwrap_or}
use Rattle.std.specs.Ordering.{is_eq, is_lt, ordering_reverse}
use Rattle.std.proofs.lemmas.Bool.{cases_Bool}
use Rattle.std.proofs.lemmas.List.Elements.{All-contains_itself, All-weaker}
use Rattle.std.proofs.lemmas.List.Kept.{AllPairs-cons}
use Rattle.std.proofs.lemmas.List.Sums.{sum_by-cons}
use Rattle.std.proofs.lemmas.Option.{none-some, same_Some}
use Rattle.life_objects.proofs.Lists.{AllPairs-nil, Contains-head, Contains-later, head_or_later}
use Rattle.life_answer.specs.CountedTales.{counted_tales, same_tale, tale_cmp, with_tale, with_tale_by_order}
use Rattle.life_answer.specs.declared.tale.Engines.{Engines}
use Rattle.life_answer.specs.declared.tale.Tale.{Tale}
use Rattle.life_growth.proofs.FatesLemmas.Finding.{cases_Option}
use Rattle.life_answer.proofs.TaleOrders.{same_by_test, tale_total, test_by_same}
use Rattle.life_model.proofs.Tests.{first_holds, second_holds}

abbrev pub Tally : Type 0
Tally = finmap.FinMap tale_cmp ℕ

abbrev pub once_more : Tally → Tale → Tally
once_more m t = finmap.insert m t (unwrap_or (finmap.get m t) 0 + 1)

abbrev pub tally_of : List Tale → Tally
tally_of ts = fold once_more finmap.empty ts

abbrev pub Line : Type 0
Line = Tale × ℕ

abbrev pub found : Tale → List Line → Option ℕ
found q es = sorted.find tale_cmp q es

-- the number, unless it is 0
abbrev pub counted : ℕ → Option ℕ
counted zero = None
counted (suc n) = Some (suc n)

one_counted : (n : ℕ) → Some (unwrap_or (counted n) 0 + 1) ≡ counted (n + 1)
one_counted zero = refl
one_counted (suc n) = ap Some (let e : suc n + 1 ≡ suc (n + 1) = omega arith in e) ∙ ap counted (let e : suc (n + 1) ≡ suc n + 1 = omega arith in e)

-- ---- what is found for a tale

pub count-cons : (q t : Tale) (ts : List Tale) → count_by (same_tale q) (t ∷ ts) ≡ cond (same_tale q t) 1 0 + count_by (same_tale q) ts
count-cons q t ts = sum_by-cons (λ (s : Tale). cond (same_tale q s) 1 0) t ts

after_one : (m : Tally) (f : Tale → ℕ) (t : Tale) → ((q : Tale) → finmap.get m q ≡ counted (f q)) → (q : Tale) →
    finmap.get (once_more m t) q ≡ counted (f q + cond (same_tale q t) 1 0)
after_one m f t before q =
    finmap.get-insert tale_total m t (unwrap_or (finmap.get m t) 0 + 1) q
    ∙ elim (cases_Bool (same_tale q t)) [
      | inl same ↦
          ap (λ b. cond b (Some (unwrap_or (finmap.get m t) 0 + 1)) (finmap.get m q)) same
          ∙ ap (λ s. Some (unwrap_or (finmap.get m s) 0 + 1)) (sym (same_by_test q t same))
          ∙ ap (λ o. Some (unwrap_or o 0 + 1)) (before q) ∙ one_counted (f q)
          ∙ ap (λ b. counted (f q + cond b 1 0)) (sym same)
      | inr other ↦
          ap (λ b. cond b (Some (unwrap_or (finmap.get m t) 0 + 1)) (finmap.get m q)) other
          ∙ before q ∙ ap counted (let e : f q ≡ f q + 0 = omega arith in e)
          ∙ ap (λ b. counted (f q + cond b 1 0)) (sym other)
    ]

after_all : (ts : List Tale) (m : Tally) (f : Tale → ℕ) → ((q : Tale) → finmap.get m q ≡ counted (f q)) → (q : Tale) →
    finmap.get (fold once_more m ts) q ≡ counted (f q + count_by (same_tale q) ts)
after_all [] m f before q = before q ∙ ap counted (let e : f q ≡ f q + 0 = omega arith in e)
after_all (t ∷ ts) m f before q =
    after_all ts (once_more m t) (λ s. f s + cond (same_tale s t) 1 0) (after_one m f t before) q
    ∙ ap counted (let e = count-cons q t ts in
    let z : (f q + cond (same_tale q t) 1 0) + count_by (same_tale q) ts ≡ f q + count_by (same_tale q) (t ∷ ts) = omega arith in z)

pub tally_is : (ts : List Tale) (q : Tale) → finmap.get (tally_of ts) q ≡ counted (count_by (same_tale q) ts)
tally_is ts q = after_all ts finmap.empty (λ s. 0) (λ s. finmap.get-empty tale_cmp s) q
    ∙ ap counted (let e : 0 + count_by (same_tale q) ts ≡ count_by (same_tale q) ts = omega arith in e)

-- ---- lines in order

first_so : (a b : Bool) → T (a && b) → a ≡ true
first_so true b h = refl
first_so false b h = absurd h

less : (o : Ordering) → is_lt o ≡ true → o ≡ Less
less Less h = refl
less Equal h = absurd (true≢false (sym h))
less Greater h = absurd (true≢false (sym h))

abbrev pub below : Tale → List Line → Bool
below t es = sorted.below_all tale_cmp t es

abbrev pub rising : List Line → Bool
rising es = sorted.is_sorted tale_cmp es

pub below_each : (t : Tale) (es : List Line) → T (below t es) → (e : Line) → Contains es e → tale_cmp t e.0 ≡ Less
below_each t [] h e one = let none : one.0 < 0 = one.1 in absurd (omega arith)
below_each t (f ∷ es) h e one =
    elim (head_or_later f e es one.0 one.1 one.2) [
      | inl same ↦ ap (λ (g : Line). tale_cmp t g.0) (sym same) ∙ less (tale_cmp t f.0) (first_so (is_lt (tale_cmp t f.0)) (below t es) h)
      | inr later ↦ below_each t es (second_holds (is_lt (tale_cmp t f.0)) (below t es) h) e later
    ]

not_below : (s t : Tale) → tale_cmp s t ≡ Less → same_tale t s ≡ false
not_below s t h = ap is_eq (tale_total.antisymm t s ∙ ap ordering_reverse h)

pub found_line : (es : List Line) (t : Tale) (n : ℕ) → T (rising es) → Contains es (t, n) → found t es ≡ Some n
found_line [] t n h one = let none : one.0 < 0 = one.1 in absurd (omega arith)
found_line (e ∷ es) t n h one =
    elim (head_or_later e (t, n) es one.0 one.1 one.2) [
      | inl same ↦
          ap (λ b. cond b (Some e.1) (found t es)) (test_by_same t e.0 (ap (λ (g : Line). g.0) (sym same)))
          ∙ ap (λ (g : Line). Some g.1) same
      | inr later ↦
          ap (λ b. cond b (Some e.1) (found t es))
          (not_below e.0 t (below_each e.0 es (first_holds (below e.0 es) (rising es) h) (t, n) later))
          ∙ found_line es t n (second_holds (below e.0 es) (rising es) h) later
    ]

pub line_found : (es : List Line) (t : Tale) (n : ℕ) → found t es ≡ Some n → Contains es (t, n)
line_found [] t n e = absurd (none-some n e)
line_found (e ∷ es) t n h =
    elim (cases_Bool (same_tale t e.0)) [
      | inl same ↦
          let number : e.1 ≡ n = same_Some e.1 n (sym (ap (λ b. cond b (Some e.1) (found t es)) same) ∙ h) in
          let tales : e.0 ≡ t = sym (same_by_test t e.0 same) in
          subst (Contains (e ∷ es)) (λ i. (tales i, number i)) (Contains-head e es)
      | inr other ↦
          Contains-later e (t, n) es
          (line_found es t n (sym (ap (λ b. cond b (Some e.1) (found t es)) other) ∙ h))
    ]

pub pairs_rise : (es : List Line) → T (rising es) → AllPairs (λ s t. tale_cmp s.0 t.0 ≡ Less) es
pairs_rise [] h = AllPairs-nil (λ s t. tale_cmp s.0 t.0 ≡ Less)
pairs_rise (e ∷ es) h =
    AllPairs-cons (λ s t. tale_cmp s.0 t.0 ≡ Less) e es
    (All-weaker (Contains es) (λ f. tale_cmp e.0 f.0 ≡ Less) (below_each e.0 es (first_holds (below e.0 es) (rising es) h)) es (All-contains_itself es))
    (pairs_rise es (second_holds (below e.0 es) (rising es) h))

pub none_found : (e : Line) (es : List Line) (t : Tale) → T (rising (e ∷ es)) → tale_cmp t e.0 ≡ Less → found t es ≡ None
none_found e es t h early =
    elim (cases_Option (found t es)) [
      | inl q ↦
          absurd (true≢false (ap is_lt (sym (below_each e.0 es (first_holds (below e.0 es) (rising es) h) (t, q.0)
          (line_found es t q.0 q.1)) ∙ tale_total.antisymm e.0 t ∙ ap ordering_reverse early)))
      | inr none ↦ none
    ]

-- ---- the lines of a tally are what counting one tale after another makes

-- the engines of a line: its tale, and how many have it
abbrev pub engines_of : Line → Engines
engines_of line = record { tale = line.0; count = line.1 }

put_by : (t : Tale) (e : Line) (es : List Line) (v : ℕ) (o : Ordering) → tale_cmp t e.0 ≡ o → T (rising (e ∷ es)) →
    v ≡ unwrap_or (found t (e ∷ es)) 0 + 1 →
    map engines_of (sorted.put tale_cmp t (unwrap_or (found t es) 0 + 1) es) ≡ with_tale t (map engines_of es) →
    map engines_of (sorted.by_order o ((t, v) ∷ e ∷ es) ((e.0, v) ∷ es) (e ∷ sorted.put tale_cmp t v es))
    ≡ with_tale_by_order o t (engines_of e) (map engines_of es) (with_tale t (map engines_of es))
put_by t e es v Less same h again later =
    let new : v ≡ 1 = again ∙ ap (λ b. unwrap_or (cond b (Some e.1) (found t es)) 0 + 1) (ap is_eq same)
    ∙ ap (λ o. unwrap_or o 0 + 1) (none_found e es t h same) in
    ap (λ n. engines_of (t, n) ∷ engines_of e ∷ map engines_of es) new
put_by t e es v Equal same h again later =
    let more : v ≡ e.1 + 1 = again ∙ ap (λ b. unwrap_or (cond b (Some e.1) (found t es)) 0 + 1) (ap is_eq same) in
    ap (λ n. engines_of (e.0, n) ∷ map engines_of es) more
put_by t e es v Greater same h again later =
    let still : v ≡ unwrap_or (found t es) 0 + 1 =
    again ∙ ap (λ b. unwrap_or (cond b (Some e.1) (found t es)) 0 + 1) (ap is_eq same) in
    ap (λ n. engines_of e ∷ map engines_of (sorted.put tale_cmp t n es)) still ∙ ap (λ ls. engines_of e ∷ ls) later

put_is : (t : Tale) (es : List Line) → T (rising es) →
    map engines_of (sorted.put tale_cmp t (unwrap_or (found t es) 0 + 1) es) ≡ with_tale t (map engines_of es)
put_is t [] h = refl
put_is t (e ∷ es) h =
    put_by t e es (unwrap_or (found t (e ∷ es)) 0 + 1) (tale_cmp t e.0) refl h refl
    (put_is t es (second_holds (below e.0 es) (rising es) h))

all_put : (ts : List Tale) (m : Tally) →
    fold (λ lines tale. with_tale tale lines) (map engines_of (finmap.entries m)) ts
    ≡ map engines_of (finmap.entries (fold once_more m ts))
all_put [] m = refl
all_put (t ∷ ts) m =
    let lines = finmap.entries m in
    ap (λ ls. fold (λ lines tale. with_tale tale lines) ls ts)
    (sym (put_is t lines (finmap.entries_sorted m))
    ∙ ap (λ o. map engines_of (sorted.put tale_cmp t (unwrap_or o 0 + 1) lines)) (sym (finmap.get-entries m t))
    ∙ ap (map engines_of) (sym (finmap.entries-insert tale_total m t (unwrap_or (finmap.get m t) 0 + 1))))
    ∙ all_put ts (once_more m t)

no_line : (es : List Line) → length es ≡ 0 → map engines_of es ≡ []
no_line [] e = refl
no_line (e ∷ es) h = absurd (omega arith)

pub counted-is : (ts : List Tale) → counted_tales ts ≡ map engines_of (finmap.entries (tally_of ts))
unfolding counted_tales
counted-is ts =
    ap (λ ls. fold (λ lines tale. with_tale tale lines) ls ts)
    (sym (no_line (finmap.entries (finmap.empty {X = ℕ} {R = tale_cmp}))
    (sym (finmap.len-entries finmap.empty) ∙ finmap.len-empty tale_cmp ℕ)))
    ∙ all_put ts finmap.empty
