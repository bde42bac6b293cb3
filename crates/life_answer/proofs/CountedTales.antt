-- The lines of counted tales, their numbers and their sum.
use Rattle.std.proofs.Common.{◌≡◌, ℕ, zero, suc, ◌+◌, ◌*◌, ◌≤◌, ◌<◌, Bool, true, false, cond, T, List, [], ◌∷◌, length, map, count_by, fold, Ordering, Less, Equal, Greater, Some, inl, inr, sym, refl, ap, subst, ◌∙◌, arith}
use Rattle.std.specs.FinMap as finmap
use Rattle.std.specs.FinMap.Entries as sorted
use Rattle.std.specs.List.{AllPairs, Contains, sum_by}
use Rattle.std.specs.List.Sorted.{IsPermutation}
use Rattle.std.specs.Option.{unwrap_or}
use Rattle.std.specs.Ordering.{is_eq}
use Rattle.std.proofs.lemmas.List.Sorted.{sum_by-IsPermutation}
use Rattle.std.proofs.lemmas.List.Sums.{sum_by-cons}
use Rattle.std.proofs.lemmas.Option.{none-some, same_Some}
use Rattle.life_objects.proofs.Lists.{AllPairs-map, Contains-head, Contains-later, head_or_later}
use Rattle.life_objects.proofs.DecidedLemmas.Kept.{Contains-map}
use Rattle.life_answer.specs.CountedTales.{counted_tales, engines_in, same_tale, tale_cmp}
use Rattle.life_answer.specs.declared.tale.Engines.{Engines}
use Rattle.life_answer.specs.declared.tale.Tale.{Tale}
use Rattle.life_answer.proofs.Permuted.{sum_by-map}
use Rattle.life_answer.proofs.TaleCounts.{Line, Tally, below, count-cons, counted, counted-is, engines_of, found, found_line, line_found, none_found, once_more, pairs_rise, rising, tally_is, tally_of}
use Rattle.life_answer.proofs.TaleOrders.{same_by_test, tale_exact, tale_total, test_by_same}
use Rattle.life_model.proofs.Tests.{second_holds}

pub counted-any_order : (ts us : List Tale) → IsPermutation ts us → counted_tales ts ≡ counted_tales us
counted-any_order ts us order =
    counted-is ts ∙
    ap (λ m. map engines_of (finmap.entries m)) (finmap.same_map tale_total tale_exact (tally_of ts) (tally_of us) (λ q.
    tally_is ts q
    ∙ ap counted (sym (sum_by-IsPermutation (λ (s : Tale). cond (same_tale q s) 1 0) ts us order))
    ∙ sym (tally_is us q)))
    ∙ sym (counted-is us)

-- ---- the sum

-- the sum over the lines of the number of each times what g says of its tale
abbrev pub total : (Tale → ℕ) → List Line → ℕ
total g es = sum_by (λ (line : Line). line.1 * g line.0) es

total-cons : (g : Tale → ℕ) (e : Line) (es : List Line) → total g (e ∷ es) ≡ e.1 * g e.0 + total g es
total-cons g e es = sum_by-cons (λ (line : Line). line.1 * g line.0) e es

module _ (g : Tale → ℕ) (t : Tale) (e : Line) (es : List Line) (h : T (rising (e ∷ es))) (v : ℕ)
    (again : v ≡ unwrap_or (found t (e ∷ es)) 0 + 1)
    (fewer : total g (sorted.put tale_cmp t (unwrap_or (found t es) 0 + 1) es) ≡ total g es + g t) where
  here : (b : Bool) → same_tale t e.0 ≡ b → v ≡ unwrap_or (cond b (Some e.1) (found t es)) 0 + 1
  here b same = again ∙ ap (λ b. unwrap_or (cond b (Some e.1) (found t es)) 0 + 1) same

  put_up : (o : Ordering) → tale_cmp t e.0 ≡ o →
      total g (sorted.by_order o ((t, v) ∷ e ∷ es) ((e.0, v) ∷ es) (e ∷ sorted.put tale_cmp t v es)) ≡ total g (e ∷ es) + g t
  put_up Less same =
      let new : v ≡ 1 = here false (ap is_eq same) ∙ ap (λ o. unwrap_or o 0 + 1) (none_found e es t h same) in
      let more : total g ((t, v) ∷ e ∷ es) ≡ v * g t + total g (e ∷ es) = total-cons g (t, v) (e ∷ es) in
      let once : v * g t ≡ 1 * g t = ap (λ n. n * g t) new in
      more ∙ (omega arith)
  put_up Equal same =
      let one_more : v ≡ e.1 + 1 = here true (ap is_eq same) in
      let alike : g t ≡ g e.0 = ap g (same_by_test t e.0 (ap is_eq same)) in
      let one : total g ((e.0, v) ∷ es) ≡ v * g e.0 + total g es = total-cons g (e.0, v) es in
      let two : total g (e ∷ es) ≡ e.1 * g e.0 + total g es = total-cons g e es in
      let times : v * g e.0 ≡ (e.1 + 1) * g e.0 = ap (λ n. n * g e.0) one_more in
      one ∙ (omega arith)
  put_up Greater same =
      let later : v ≡ unwrap_or (found t es) 0 + 1 = here false (ap is_eq same) in
      let rest : total g (sorted.put tale_cmp t v es) ≡ total g es + g t =
      ap (λ n. total g (sorted.put tale_cmp t n es)) later ∙ fewer in
      let one : total g (e ∷ sorted.put tale_cmp t v es) ≡ e.1 * g e.0 + total g (sorted.put tale_cmp t v es) =
      total-cons g e (sorted.put tale_cmp t v es) in
      let two : total g (e ∷ es) ≡ e.1 * g e.0 + total g es = total-cons g e es in
      one ∙ (omega arith)

one_up : (g : Tale → ℕ) (t : Tale) (es : List Line) → T (rising es) →
    total g (sorted.put tale_cmp t (unwrap_or (found t es) 0 + 1) es) ≡ total g es + g t
one_up g t [] h = let e : total g ((t, 1) ∷ []) ≡ 1 * g t + total g [] = total-cons g (t, 1) [] in e ∙ (omega arith)
one_up g t (e ∷ es) h =
    put_up g t e es h (unwrap_or (found t (e ∷ es)) 0 + 1) refl (one_up g t es (second_holds (below e.0 es) (rising es) h))
    (tale_cmp t e.0) refl

all_after : (g : Tale → ℕ) (ts : List Tale) (m : Tally) →
    total g (finmap.entries (fold once_more m ts)) ≡ total g (finmap.entries m) + sum_by g ts
all_after g [] m = omega arith
all_after g (t ∷ ts) m =
    let lines = finmap.entries m in
    let one : total g (finmap.entries (once_more m t)) ≡ total g lines + g t =
    ap (total g) (finmap.entries-insert tale_total m t (unwrap_or (finmap.get m t) 0 + 1))
    ∙ ap (λ o. total g (sorted.put tale_cmp t (unwrap_or o 0 + 1) lines)) (finmap.get-entries m t)
    ∙ one_up g t lines (finmap.entries_sorted m) in
    let rest = all_after g ts (once_more m t) in
    let e : sum_by g (t ∷ ts) ≡ g t + sum_by g ts = sum_by-cons g t ts in
    omega arith

no_lines : (g : Tale → ℕ) (es : List Line) → length es ≡ 0 → total g es ≡ 0
no_lines g [] e = refl
no_lines g (e ∷ es) h = absurd (omega arith)

one_each : (ts : List Tale) → sum_by (λ (t : Tale). 1) ts ≡ length ts
one_each [] = refl
one_each (t ∷ ts) =
    let e : sum_by (λ (t : Tale). 1) (t ∷ ts) ≡ 1 + sum_by (λ (t : Tale). 1) ts = sum_by-cons (λ (t : Tale). 1) t ts in
    let rest = one_each ts in
    omega arith

-- ---- counted tales

line_back : (es : List Line) (e : Engines) → Contains (map engines_of es) e → Contains es (e.tale, e.count)
line_back [] e one = let none : one.0 < 0 = one.1 in absurd (omega arith)
line_back (f ∷ es) e one =
    elim (head_or_later (engines_of f) e (map engines_of es) one.0 one.1 one.2) [
      | inl same ↦ subst (Contains (f ∷ es)) (ap (λ (g : Engines). (g.tale, g.count)) same) (Contains-head f es)
      | inr later ↦ Contains-later f (e.tale, e.count) es (line_back es e later)
    ]

engines_in-sum : (es : List Engines) → engines_in es ≡ sum_by (λ (e : Engines). e.count) es
engines_in-sum [] = refl
engines_in-sum (e ∷ es) =
    ap (λ n. e.count + n) (engines_in-sum es) ∙ sym (sum_by-cons (λ (f : Engines). f.count) e es)

module _ (ts : List Tale) where
  abbrev lines : List Line
  lines = finmap.entries (tally_of ts)

  in_order : T (rising lines)
  in_order = finmap.entries_sorted (tally_of ts)

  found-is : (t : Tale) → found t lines ≡ counted (count_by (same_tale t) ts)
  found-is t = sym (finmap.get-entries (tally_of ts) t) ∙ tally_is ts t

  number_of : (n k : ℕ) → counted k ≡ Some n → (1 ≤ n) × (n ≡ k)
  number_of n zero e = absurd (none-some n e)
  number_of n (suc k) e = let same : suc k ≡ n = same_Some (suc k) n e in (omega arith, sym same)

  pub line_number : (e : Engines) → Contains (counted_tales ts) e → (1 ≤ e.count) × (e.count ≡ count_by (same_tale e.tale) ts)
  line_number e one =
      number_of e.count (count_by (same_tale e.tale) ts)
      (sym (found-is e.tale) ∙ found_line lines e.tale e.count in_order (line_back lines e (subst (λ ls. Contains ls e) (counted-is ts) one)))

  some_number : (k : ℕ) → 1 ≤ k → counted k ≡ Some k
  some_number zero h = absurd (omega arith)
  some_number (suc k) h = refl

  pub its_line : (t : Tale) → Contains ts t →
      Contains (counted_tales ts) (record { tale = t; count = count_by (same_tale t) ts })
  its_line t one =
      subst (λ ls. Contains ls (record { tale = t; count = count_by (same_tale t) ts })) (sym (counted-is ts))
      (Contains-map engines_of lines (t, count_by (same_tale t) ts)
      (line_found lines t (count_by (same_tale t) ts)
      (found-is t ∙ some_number (count_by (same_tale t) ts) (counts_itself ts t one))))
    where
      counts_itself : (us : List Tale) (t : Tale) → Contains us t → 1 ≤ count_by (same_tale t) us
      counts_itself [] t one = let none : one.0 < 0 = one.1 in absurd (omega arith)
      counts_itself (u ∷ us) t one =
          let e = count-cons t u us in
          elim (head_or_later u t us one.0 one.1 one.2) [
            | inl same ↦
                let first : cond {A = ℕ} (same_tale t u) 1 0 ≡ 1 = ap (λ b. cond {A = ℕ} b 1 0) (test_by_same t u (sym same)) in
                omega arith
            | inr later ↦ let rest = counts_itself us t later in omega arith
          ]

  pub lines_rise : AllPairs (λ e f. tale_cmp e.tale f.tale ≡ Less) (counted_tales ts)
  lines_rise =
      subst (AllPairs (λ e f. tale_cmp e.tale f.tale ≡ Less)) (sym (counted-is ts))
      (AllPairs-map (λ e f. tale_cmp e.tale f.tale ≡ Less) engines_of lines (pairs_rise lines in_order))

  -- the lines give a sum over all tales
  pub lines_total : (g : Tale → ℕ) → sum_by (λ (e : Engines). e.count * g e.tale) (counted_tales ts) ≡ sum_by g ts
  lines_total g =
      let all = all_after g ts finmap.empty in
      let none : total g (finmap.entries (finmap.empty {X = ℕ} {R = tale_cmp})) ≡ 0 =
      no_lines g (finmap.entries finmap.empty) (sym (finmap.len-entries finmap.empty) ∙ finmap.len-empty tale_cmp ℕ) in
      ap (sum_by (λ (e : Engines). e.count * g e.tale)) (counted-is ts)
      ∙ sum_by-map (λ (e : Engines). e.count * g e.tale) engines_of lines ∙ (omega arith)

  pub lines_add_up : engines_in (counted_tales ts) ≡ length ts
  lines_add_up =
      engines_in-sum (counted_tales ts)
      ∙ (λ i. sum_by (λ (e : Engines). (let same : e.count ≡ e.count * 1 = omega arith in same) i) (counted_tales ts))
      ∙ lines_total (λ t. 1) ∙ one_each ts
