-- What is found for a set is its onset, period and displacement where it settles, and none where it doesn't.
use Rattle.std.proofs.Common.{◌≡◌, ℕ, zero, suc, ◌+◌, ◌-◌, ◌<◌, ◌≤◌, ◌⊎◌, inl, inr, Bool, true, false, cond, Decides, Option, Some, None, is_some, sym, refl, ap, subst, ◌∙◌, true≢false, ℤ, List, arith}
use Rattle.std.proofs.lemmas.Slice.Eq.{slice_eq-Decides}
use Rattle.std.proofs.lemmas.Bool.{cases_Bool, cases_lt}
use Rattle.std.proofs.lemmas.Bool.Decides.{Decides-like}
use Rattle.life_model.specs.Cell.{origin, plus, opposite}
use Rattle.life_model.specs.Rule.{Rule}
use Rattle.life_model.specs.Generation.{Generation, cells, from_list, empty}
use Rattle.life_model.specs.Evolution.{generation}
use Rattle.life_model.specs.Symmetry.{normal, translate_of, corner}
use Rattle.life_model.specs.Recurrence.{SettlesAt, Recurrence, Settles}
use Rattle.life_model.proofs.Cells.{same_cell-is, pair}
use Rattle.life_model.proofs.Generations.{from_list-cells}
use Rattle.life_model.proofs.Moves.{moved-empty}
use Rattle.life_model.proofs.Recurrences.{shape, way, move_from_shape, settles_from_shape, recurs_from_shape, shape_from_move, shape_from_recurs, Settles-one, Settles-other_bound, onset-period-least, corner-empty}
use Rattle.life_answer.specs.declared.finding.Outcome.TheVariants.{Recurs, Unresolved, Large, Ash}
use Rattle.life_answer.specs.declared.part.Part.{Part}
use Rattle.life_answer.specs.Recurrence.{same_shape, first_from, comes_again, first_return, first_onset}
use Rattle.life_answer.specs.Answers.{recurrence_outcome, outcome_at, outcome_from, outcome_of}

-- ---- one shape

same_shape-is : (G H : Generation) → Decides (same_shape G H) (normal G ≡ normal H)
same_shape-is G H =
    Decides-like (same_shape G H)
    (λ e. sym (from_list-cells (normal G)) ∙ ap from_list e ∙ from_list-cells (normal H))
    (λ e. ap cells e)
    (slice_eq-Decides same_cell-is (cells (normal G)) (cells (normal H)) (same_shape G H) refl)

-- ---- the first number that passes

pub record IsFirst (test : ℕ → Bool) (from end first : ℕ) : Type 0 where
  pub reached : from ≤ first
  pub below : first < end
  pub passes : test first ≡ true
  pub before : (m : ℕ) → from ≤ m → m < first → test m ≡ false

pub first_from-found : (test : ℕ → Bool) (count n first : ℕ) → first_from test n count ≡ Some first → IsFirst test n (n + count) first
first_from-found test zero n first e = absurd cc
first_from-found test (suc count) n first e =
    elim (cases_Bool (test n)) [
      | inl passed ↦
          let here : n ≡ first = cc in
          record {
            reached = omega arith;
            below = omega arith;
            passes = ap test (sym here) ∙ passed;
            before = λ m h k. absurd (omega arith);
          }
      | inr failed ↦
          let r = first_from-found test count (n + 1) first (let s : first_from test (n + 1) count ≡ Some first = ap (λ b. cond b (Some n) (first_from test (n + 1) count)) (sym failed) ∙ e in s) in
          let reached = r.reached in
          let below = r.below in
          record {
            reached = omega arith;
            below = omega arith;
            passes = r.passes;
            before = λ m h k. elim (cases_lt n m) [ inl later ↦ r.before m (omega arith) k | inr same ↦ ap test (let s : m ≡ n = omega arith in s) ∙ failed ];
          }
    ]

pub first_from-first : (test : ℕ → Bool) (count n first : ℕ) → n ≤ first → first < n + count → test first ≡ true
    → ((m : ℕ) → n ≤ m → m < first → test m ≡ false) → first_from test n count ≡ Some first
first_from-first test zero n first h k passes before = absurd (omega arith)
first_from-first test (suc count) n first h k passes before =
    elim (cases_lt n first) [
      | inl later ↦
          ap (λ b. cond b (Some n) (first_from test (n + 1) count)) (before n (omega arith) later)
          ∙ first_from-first test count (n + 1) first (omega arith) (omega arith) passes (λ m l. before m (omega arith))
      | inr same ↦
          let here : first ≡ n = omega arith in
          ap (λ b. cond b (Some n) (first_from test (n + 1) count)) (ap test (sym here) ∙ passes) ∙ ap Some (sym here)
    ]

pub first_from-nowhere : (test : ℕ → Bool) (count n : ℕ) → ((m : ℕ) → n ≤ m → m < n + count → test m ≡ false) → first_from test n count ≡ None
first_from-nowhere test zero n none = refl
first_from-nowhere test (suc count) n none =
    ap (λ b. cond b (Some n) (first_from test (n + 1) count)) (none n (omega arith) (omega arith))
    ∙ first_from-nowhere test count (n + 1) (λ m h k. none m (omega arith) (omega arith))

pub first_from-none : (test : ℕ → Bool) (count n m : ℕ) → first_from test n count ≡ None → n ≤ m → m < n + count → test m ≡ false
first_from-none test zero n m e h k = absurd (omega arith)
first_from-none test (suc count) n m e h k =
    elim (cases_Bool (test n)) [
      | inl passed ↦ absurd (let s : ◌≡◌ {A = Option ℕ} (Some n) None = ap (λ b. cond b (Some n) (first_from test (n + 1) count)) (sym passed) ∙ e in cc)
      | inr failed ↦
          elim (cases_lt n m) [
            | inl later ↦ first_from-none test count (n + 1) m (ap (λ b. cond b (Some n) (first_from test (n + 1) count)) (sym failed) ∙ e) (omega arith) (omega arith)
            | inr same ↦ ap test (let s : m ≡ n = omega arith in s) ∙ failed
          ]
    ]

is_none : (o : Option ℕ) → is_some o ≡ false → o ≡ None
is_none None e = refl
is_none (Some n) e = absurd (true≢false e)

-- ---- generations that recur

module _ (R : Rule) (G : Generation) where
  comes_again-is : (g n : ℕ) → Decides (comes_again R G g n) (shape R G (g + n) ≡ shape R G g)
  comes_again-is g n = same_shape-is (generation R G (g + n)) (generation R G g)

  still_way : (g n : ℕ) → shape R G (g + n) ≡ shape R G g → generation R G g ≡ empty → way R G g n ≡ origin
  still_way g n e none =
      let later : generation R G (g + n) ≡ empty = move_from_shape R G g n e ∙ ap (λ H. translate_of H (way R G g n)) none ∙ moved-empty (way R G g n) in
      (λ i. plus (opposite (corner (none i))) (corner (later i))) ∙ (λ i. plus (opposite (corner-empty i)) (corner-empty i))

  module _ (b : ℕ) where
    -- a generation settles exactly where it has a first return
    no_return : (g : ℕ) → is_some (first_return R G b g) ≡ false → SettlesAt R G b g → ⊥
    no_return g none s =
        let n = s.steps in
        let within : g + n ≤ b = s.within in
        let later : 1 ≤ n = s.later in
        let e : shape R G (g + n) ≡ shape R G g = shape_from_move R G g n s.by s.again in
        true≢false (sym ((comes_again-is g n).1 e) ∙ first_from-none (comes_again R G g) (b - g) 1 n (is_none (first_return R G b g) none) later (omega arith))

    -- the least return of the first generation that has one is the period
    settles_by_first : (g n : ℕ) → ((h : ℕ) → h < g → SettlesAt R G b h → ⊥) → g < b → IsFirst (comes_again R G g) 1 (1 + (b - g)) n → Settles R G b (record { onset = g; period = n; displacement = way R G g n })
    settles_by_first g n before early r =
        let later : 1 ≤ n = r.reached in
        let below = r.below in
        let e : shape R G (g + n) ≡ shape R G g = (comes_again-is g n).0 r.passes in
        record {
          settles = settles_from_shape R G b g n later (omega arith) e;
          first = λ h s. let not_before : h < g → ⊥ = λ k. before h k s in omega arith;
          recurs = recurs_from_shape R G g n later e;
          least = λ m d again.
              let fits : 1 ≤ m = again.later in
              let not_below : m < n → ⊥ = λ k.
              true≢false (sym ((comes_again-is g m).1 (shape_from_recurs R G g m d again)) ∙ r.before m fits k) in
              omega arith;
          unmoved = still_way g n e;
        }

    -- what is found: a settling with its finding, or that there is none
    pub record IsSettled : Type 0 where
      pub recurrence : Recurrence
      pub settles : Settles R G b recurrence
      pub found : outcome_of R G b ≡ recurrence_outcome R G recurrence

    pub record IsUnsettled : Type 0 where
      pub nowhere : (g : ℕ) → SettlesAt R G b g → ⊥
      pub found : outcome_of R G b ≡ Unresolved

    found_by : (o : Option ℕ) → first_onset R G b ≡ o → outcome_of R G b ≡ outcome_from R G b o
    unfolding outcome_of
    found_by o e = ap (outcome_from R G b) e

    return_of : (g : ℕ) (r : Option ℕ) → is_some r ≡ true → (n : ℕ) × (r ≡ Some n)
    return_of g None e = absurd (true≢false (sym e))
    return_of g (Some n) e = (n, refl)

    onset_cases : (o : Option ℕ) → first_onset R G b ≡ o → IsSettled ⊎ IsUnsettled
    onset_cases None e = inr (record {
      nowhere = λ g s.
          let within : g + s.steps ≤ b = s.within in
          let later : 1 ≤ s.steps = s.later in
          no_return g (first_from-none (λ g. is_some (first_return R G b g)) b 0 g e (omega arith) (omega arith)) s;
      found = found_by None e;
    })
    onset_cases (Some g) e =
        let first = first_from-found (λ g. is_some (first_return R G b g)) b 0 g e in
        let n = return_of g (first_return R G b g) first.passes in
        let below : g < 0 + b = first.below in
        inl (record {
          recurrence = record { onset = g; period = n.0; displacement = way R G g n.0 };
          settles = settles_by_first g n.0 (λ h k. no_return h (first.before h (omega arith) k)) (omega arith)
              (first_from-found (comes_again R G g) (b - g) 1 n.0 n.1);
          found = found_by (Some g) e ∙ ap (outcome_at R G g) n.1;
        })

    pub settled_or_not : IsSettled ⊎ IsUnsettled
    settled_or_not = onset_cases (first_onset R G b) refl

    pub outcome-settled : (r : Recurrence) → Settles R G b r → outcome_of R G b ≡ recurrence_outcome R G r
    outcome-settled r s =
        elim settled_or_not [
          | inl found ↦ found.found ∙ ap (recurrence_outcome R G) (Settles-one R G b b found.recurrence r found.settles s)
          | inr none ↦ absurd (none.nowhere r.onset s.settles)
        ]

    pub outcome-nowhere : ((g : ℕ) → SettlesAt R G b g → ⊥) → outcome_of R G b ≡ Unresolved
    outcome-nowhere none =
        elim settled_or_not [
          | inl found ↦ absurd (none found.recurrence.onset found.settles.settles)
          | inr not ↦ not.found
        ]

    settled_apart : (r : Recurrence) → recurrence_outcome R G r ≡ Unresolved → ⊥
    settled_apart r e = cc

    pub nowhere_by_outcome : (g : ℕ) → outcome_of R G b ≡ Unresolved → SettlesAt R G b g → ⊥
    nowhere_by_outcome g e s =
        elim settled_or_not [
          | inl found ↦ settled_apart found.recurrence (sym found.found ∙ e)
          | inr not ↦ not.nowhere g s
        ]

    settles_same : (r : Recurrence) (onset period : ℕ) (dx dy : ℤ) (code : List ℕ) → recurrence_outcome R G r ≡ Recurs onset period dx dy code
        → Settles R G b r → Settles R G b (record { onset = onset; period = period; displacement = (dx, dy) })
    settles_same r onset period dx dy code e s =
        let onsets : r.onset ≡ onset = cc in
        let periods : r.period ≡ period = cc in
        let left : r.displacement.0 ≡ dx = cc in
        let down : r.displacement.1 ≡ dy = cc in
        subst (Settles R G b) (λ i. record { onset = onsets i; period = periods i; displacement = pair left down i }) s

    pub settles_by_outcome : (onset period : ℕ) (dx dy : ℤ) (code : List ℕ) → outcome_of R G b ≡ Recurs onset period dx dy code
        → Settles R G b (record { onset = onset; period = period; displacement = (dx, dy) })
    settles_by_outcome onset period dx dy code e =
        elim settled_or_not [
          | inl found ↦ settles_same found.recurrence onset period dx dy code (sym found.found ∙ e) found.settles
          | inr not ↦ absurd (let apart : Unresolved ≡ Recurs onset period dx dy code = sym not.found ∙ e in cc)
        ]

    ash_apart_settled : (r : Recurrence) (onset : ℕ) (parts : List Part) → recurrence_outcome R G r ≡ Ash onset parts → ⊥
    ash_apart_settled r onset parts e = cc

    -- no such finding is an ash
    pub outcome-no_ash : (onset : ℕ) (parts : List Part) → outcome_of R G b ≡ Ash onset parts → ⊥
    outcome-no_ash onset parts e =
        elim settled_or_not [
          | inl found ↦ ash_apart_settled found.recurrence onset parts (sym found.found ∙ e)
          | inr not ↦ (let apart : Unresolved ≡ Ash onset parts = sym not.found ∙ e in cc)
        ]

    large_apart_settled : (r : Recurrence) (m : ℕ) → recurrence_outcome R G r ≡ Large m → ⊥
    large_apart_settled r m e = cc

    -- no such finding is that a generation is too large
    pub outcome-no_large : (first : ℕ) → outcome_of R G b ≡ Large first → ⊥
    outcome-no_large first e =
        elim settled_or_not [
          | inl found ↦ large_apart_settled found.recurrence first (sym found.found ∙ e)
          | inr not ↦ (let apart : Unresolved ≡ Large first = sym not.found ∙ e in cc)
        ]

  pub outcome-more : (b c : ℕ) (r : Recurrence) → Settles R G b r → r.onset + r.period ≤ c → outcome_of R G c ≡ outcome_of R G b
  outcome-more b c r s h = outcome-settled c r (Settles-other_bound R G b r s c h) ∙ sym (outcome-settled b r s)

  pub outcome-less : (b c : ℕ) (r : Recurrence) → Settles R G b r → c < r.onset + r.period → outcome_of R G c ≡ Unresolved
  outcome-less b c r s h =
      outcome-nowhere c (λ g t. let enough : r.onset + r.period ≤ c = onset-period-least R G b r s c g t in let no : ⊥ = omega arith in no)
