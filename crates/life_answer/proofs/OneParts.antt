-- Ash of exactly one part is that part alone, so that the pattern recurs from the onset of its ash on.
use Rattle.std.proofs.Common.{◌≡◌, ◌≢◌, ℕ, ◌+◌, ◌-◌, ◌*◌, ◌≤◌, min, Bool, true, false, cond, List, [], ◌∷◌, ◌++◌, length, map, Option, Some, None, ℤ, inl, inr, refl, sym, ap, subst, ◌∙◌, arith}
use Rattle.std.specs.List.{All}
use Rattle.std.proofs.lemmas.Bool.Decides.{eqb_tells}
use Rattle.std.proofs.lemmas.List.{length-append, length-map}
use Rattle.std.proofs.lemmas.List.Elements.{All-head, All-tail}
use Rattle.life_model.specs.Rule.{Rule}
use Rattle.life_model.specs.Generation.{Generation, empty}
use Rattle.life_model.specs.Evolution.{generation}
use Rattle.life_model.specs.Recurrence.{AreOneObject, RecursBy, Recurrence, Settles, SettlesAt}
use Rattle.life_model.specs.Symmetry.{translate_of}
use Rattle.life_model.proofs.Objects.{AreOneObject-swap}
use Rattle.life_model.proofs.Recurrences.{generation-add, generation-zero}
use Rattle.life_objects.specs.Ash.{HasFallenApart, IsObject}
use Rattle.life_objects.specs.Limits.{objects_bound_limit}
use Rattle.life_objects.specs.Onset.{IsAshOnset}
use Rattle.life_objects.specs.Union.{union_of}
use Rattle.life_objects.proofs.Phases.{phase_is_one}
use Rattle.life_objects.proofs.Recurring.{RecursBy-sooner}
use Rattle.life_objects.proofs.Settling.{both_onsets}
use Rattle.life_objects.proofs.Unions.{union-empty}
use Rattle.life_objects.specs.Decided.Decided.{ash_of}
use Rattle.life_parts.specs.Independent.Independent.{independent_parts_of}
use Rattle.life_parts.proofs.IndependentLemmas.Finest.{are_the_parts}
use Rattle.life_answer.specs.Answers.{outcome_of}
use Rattle.life_answer.specs.Apgcode.{code_of}
use Rattle.life_answer.specs.Census.{ash_onset, census_found, census_of, counted_parts, fallen_of, part_code, unless_one}
use Rattle.life_answer.specs.Counted.{all_come_again, code_bound, counted_as, counted_of}
use Rattle.life_answer.specs.Parts.{counted_codes, objects_in, single}
use Rattle.life_answer.specs.Questions.{outcome_to}
use Rattle.life_answer.specs.declared.finding.Outcome.{Outcome}
use Rattle.life_answer.specs.declared.finding.Outcome.TheVariants.{Ash, Grows, Large, Recurs}
use Rattle.life_answer.specs.declared.part.Part.{Part}
use Rattle.life_answer.specs.declared.question.Question.TheVariants.{Objects}
use Rattle.life_answer.specs.declared.tale.Engines.{Engines}
use Rattle.life_answer.proofs.Ashes.{ash_is_so}
use Rattle.life_answer.proofs.Codes.{codes_tell_objects}
use Rattle.life_answer.proofs.Findings.{outcome-more, outcome-no_ash, outcome-settled, settled_or_not, settles_by_outcome}
use Rattle.life_answer.proofs.Growing.{allowed, before, growing-else}
use Rattle.life_answer.proofs.Limits.{limited-else}
use Rattle.life_answer.proofs.Onsets.{onset_of_census}
use Rattle.life_answer.proofs.PartCodes.{from_start, part_code-is}
use Rattle.life_answer.proofs.Tallying.{counted_all}
use Rattle.life_answer.specs.Told.{growth_told}

-- ---- what counts as one set

-- a set that is not empty is no union of no sets
some_sets : (P : Generation) (Qs : List Generation) → P ≢ empty → union_of Qs ≡ P → 1 ≤ length Qs
some_sets P [] some together = absurd (some (sym together))
some_sets P (Q ∷ Qs) some together = omega arith

-- and where it is the union of one, it is that one
one_set : (P : Generation) (Qs : List Generation) → union_of Qs ≡ P → length Qs ≡ 1 → Qs ≡ P ∷ []
one_set P [] together one = absurd (omega arith)
one_set P (Q ∷ []) together one = ap (λ H. H ∷ []) (sym (union-empty Q) ∙ together)
one_set P (Q ∷ (S ∷ Qs)) together one = absurd (omega arith)

module _ (R : Rule) (b : ℕ) where
  module _ (P : Generation) (object : IsObject R b P) where
    abbrev Qs : List Generation
    Qs = independent_parts_of R b P

    together : union_of Qs ≡ P
    together = (are_the_parts R b P object.recurs).together

    some_by : (all : Bool) → 1 ≤ length (cond all Qs (P ∷ []))
    some_by true = some_sets P Qs object.nonempty together
    some_by false = omega arith

    -- an object counts as one set or more
    counts_as_some : (near : Bool) → 1 ≤ length (counted_as near R b P)
    counts_as_some true = omega arith
    counts_as_some false = some_by (all_come_again R objects_bound_limit Qs)

    one_by : (all : Bool) → length (cond all Qs (P ∷ [])) ≡ 1 → cond all Qs (P ∷ []) ≡ P ∷ []
    one_by true one = one_set P Qs together one
    one_by false one = refl

    -- and where it counts as one, as itself
    counts_as_itself : (near : Bool) → length (counted_as near R b P) ≡ 1 → counted_as near R b P ≡ P ∷ []
    counts_as_itself true one = refl
    counts_as_itself false one = one_by (all_come_again R objects_bound_limit Qs) one

  module _ (near : Bool) where
    -- objects that count as one set are one object, which counts as itself
    pub one_object : (Ps : List Generation) → All (IsObject R b) Ps → length (counted_of near R b Ps) ≡ 1 →
        (P : Generation) × (Ps ≡ P ∷ []) × (counted_of near R b Ps ≡ P ∷ [])
    one_object [] objects one = absurd (omega arith)
    one_object (P ∷ []) objects one =
        let here = All-head (IsObject R b) P [] objects in
        let long = length-append (counted_as near R b P) [] in
        (P, refl, ap (λ Qs. Qs ++ []) (counts_as_itself P here near (omega (arith, long))))
    one_object (P ∷ (Q ∷ Ps)) objects one =
        let rest = All-tail (IsObject R b) P (Q ∷ Ps) objects in
        let first = counts_as_some P (All-head (IsObject R b) P (Q ∷ Ps) objects) near in
        let second = counts_as_some Q (All-head (IsObject R b) Q Ps rest) near in
        let long = length-append (counted_as near R b P) (counted_of near R b (Q ∷ Ps)) in
        let longer = length-append (counted_as near R b Q) (counted_of near R b Ps) in
        absurd (omega (arith, long, longer))

    -- so they are counted as one part, with the code of that object
    pub one_part : (Ps : List Generation) → All (IsObject R b) Ps → objects_in (counted_parts near R b Ps) ≡ 1 →
        (P : Generation) × (Ps ≡ P ∷ []) × (counted_parts near R b Ps ≡ single (part_code R (code_bound b) P) ∷ [])
    one_part Ps objects one =
        let code = part_code R (code_bound b) in
        let number = counted_all (map code (counted_of near R b Ps)) in
        let long = length-map (counted_of near R b Ps) code in
        let found = one_object Ps objects (omega (arith, number, long, one)) in
        (found.0, found.1, ap (λ Qs. counted_codes (map code Qs)) found.2)

-- ---- what recurs then

-- A pattern that has fallen apart into one part recurs, from the onset of its ash on.
pub record RecursAsOne (R : Rule) (G : Generation) (b onset : ℕ) (code : List ℕ) : Type 0 where
  pub recurrence : Recurrence
  pub settles : Settles R G (2 * b) recurrence
  pub from_onset : recurrence.onset ≡ onset
  pub short : recurrence.period ≤ b
  pub coded : code ≡ code_of R (generation R G recurrence.onset) recurrence.period recurrence.displacement

module _ (R : Rule) (G P : Generation) (b onset : ℕ) (fallen : HasFallenApart R b G (P ∷ [])) (first : IsAshOnset R b G onset) where
  object : IsObject R b P
  object = All-head (IsObject R b) P [] fallen.objects

  alone : P ≡ generation R G b
  alone = sym (union-empty P) ∙ fallen.together

  again : SettlesAt R G (2 * b) b
  again =
      let r = object.recurs in
      let soon : r.steps ≤ b = r.within in
      record {
        steps = r.steps;
        by = r.by;
        later = r.recurs.later;
        within = omega arith;
        again = sym (generation-add R G b r.steps)
            ∙ subst (λ H. generation R H r.steps ≡ translate_of H r.by) alone r.recurs.again;
      }

  module _ (r : Recurrence) (s : Settles R G (2 * b) r) where
    abbrev H : Generation
    H = generation R G r.onset

    by_then : r.onset ≤ b
    by_then = s.first b again

    becomes : generation R H (b - r.onset) ≡ P
    becomes =
        let early = by_then in
        generation-add R G r.onset (b - r.onset)
        ∙ ap (generation R G) (let e : r.onset + (b - r.onset) ≡ b = omega arith in e) ∙ sym alone

    short_period : r.period ≤ b
    short_period =
        let o = object.recurs in
        let soon : o.steps ≤ b = o.within in
        let least = s.least o.steps o.by
        (RecursBy-sooner R H r.period r.displacement s.recurs (b - r.onset) o.steps o.by
        (subst (λ K. RecursBy R K o.steps o.by) (sym becomes) o.recurs)) in
        omega arith

    one_code : part_code R (code_bound b) P ≡ code_of R H r.period r.displacement
    one_code =
        let B : ℕ = code_bound b in
        let o = object.recurs in
        let soon : o.steps ≤ b = o.within in
        let start = from_start R P o.steps o.by o.recurs B (omega arith) in
        part_code-is R B P start
        ∙ (codes_tell_objects R P G B (2 * b)
        (record { onset = 0; period = start.period; displacement = start.displacement }) r start.settles s).1
        (AreOneObject-swap R H (generation R P 0)
        (subst (AreOneObject R H) (becomes ∙ sym (generation-zero R P)) (phase_is_one R H (b - r.onset))))

    as_one : RecursAsOne R G b onset (part_code R (code_bound b) P)
    as_one = record {
      recurrence = r;
      settles = s;
      from_onset = both_onsets R G b onset first (2 * b) r s;
      short = short_period;
      coded = one_code;
    }

  pub recurs_as_one : RecursAsOne R G b onset (part_code R (code_bound b) P)
  recurs_as_one = elim (settled_or_not R G (2 * b)) [
    | inl found ↦ as_one found.recurrence found.settles
    | inr none ↦ absurd (none.nowhere b again)
  ]

-- ---- what is found

module _ (near : Bool) (R : Rule) (G : Generation) (b onset : ℕ) (told : List Part) (found : census_of near R G b ≡ Ash onset told)
    (one : objects_in told ≡ 1) where
  pub one_recurs : (code : List ℕ) × (told ≡ single code ∷ []) × RecursAsOne R G b onset code
  one_recurs =
      let ash = ash_is_so near R b G onset told found in
      let part = one_part R b near ash.0 ash.1.objects (sym (ap objects_in ash.2) ∙ one) in (
        part_code R (code_bound b) part.0,
        ash.2 ∙ part.2,
        recurs_as_one R G part.0 b onset (subst (HasFallenApart R b G) part.1 ash.1) (onset_of_census R G b near onset told found),
      )

pub found_as_one : (R : Rule) (G : Generation) (b onset : ℕ) (code : List ℕ) (one : RecursAsOne R G b onset code) →
    outcome_of R G (2 * b) ≡ Recurs onset one.recurrence.period one.recurrence.displacement.0 one.recurrence.displacement.1 code
found_as_one R G b onset code one =
    let r = one.recurrence in
    outcome-settled R G (2 * b) r one.settles
    ∙ (λ i. Recurs (one.from_onset i) r.period r.displacement.0 r.displacement.1 (sym one.coded i))

-- ---- what is reported

pub one_reported : (recurring : Outcome) (onset : ℕ) (parts : List Part) → objects_in parts ≡ 1 →
    unless_one recurring (Ash onset parts) ≡ recurring
one_reported recurring onset parts one = elim (eqb_tells (objects_in parts) 1) [
  | inl same ↦ ap (λ t. cond t recurring (Ash onset parts)) same.0
  | inr apart ↦ absurd (apart.1 one)
]

pub more_reported : (recurring : Outcome) (onset : ℕ) (parts : List Part) → objects_in parts ≢ 1 →
    unless_one recurring (Ash onset parts) ≡ Ash onset parts
more_reported recurring onset parts more = elim (eqb_tells (objects_in parts) 1) [
  | inl same ↦ absurd (more same.1)
  | inr apart ↦ ap (λ t. cond t recurring (Ash onset parts)) apart.0
]

module _ (near : Bool) (R : Rule) (G : Generation) (b : ℕ) where
  abbrev recurring : Outcome
  recurring = outcome_of R G (2 * b)

  -- what is reported of ash of one part is what becomes of the pattern
  recurs_by : (onset : ℕ) (found : Option (List Generation)) (start period : ℕ) (dx dy : ℤ) (code : List ℕ) →
      unless_one recurring (census_found near R b onset found) ≡ Recurs start period dx dy code →
      recurring ≡ Recurs start period dx dy code
  recurs_by onset None start period dx dy code e = absurd cc
  recurs_by onset (Some Ps) start period dx dy code e =
      elim (eqb_tells (objects_in (counted_parts near R b Ps)) 1) [
        | inl same ↦ sym (one_reported recurring onset (counted_parts near R b Ps) same.1) ∙ e
        | inr apart ↦
            absurd (let no : Ash onset (counted_parts near R b Ps) ≡ Recurs start period dx dy code =
            sym (more_reported recurring onset (counted_parts near R b Ps) apart.1) ∙ e in cc)
      ]

  fallen_recurs : (start period : ℕ) (dx dy : ℤ) (code : List ℕ) → fallen_of near R G b ≡ Recurs start period dx dy code →
      recurring ≡ Recurs start period dx dy code
  unfolding census_of
  fallen_recurs start period dx dy code e = recurs_by (ash_onset R G b) (ash_of R b (generation R G b)) start period dx dy code e

  same_parts : (at onset : ℕ) (told parts : List Part) → Ash at told ≡ Ash onset parts → told ≡ parts
  same_parts at onset told parts e = cc

  -- what is reported as ash has not just one part
  ash_by : (at : ℕ) (found : Option (List Generation)) (onset : ℕ) (parts : List Part) →
      unless_one recurring (census_found near R b at found) ≡ Ash onset parts →
      (census_found near R b at found ≡ Ash onset parts) × (objects_in parts ≢ 1)
  ash_by at None onset parts e = absurd cc
  ash_by at (Some Ps) onset parts e =
      let told = counted_parts near R b Ps in
      elim (eqb_tells (objects_in told) 1) [
        | inl same ↦ absurd (outcome-no_ash R G (2 * b) onset parts (sym (one_reported recurring at told same.1) ∙ e))
        | inr apart ↦
            let is : Ash at told ≡ Ash onset parts = sym (more_reported recurring at told apart.1) ∙ e in
            (is, subst (λ ps. objects_in ps ≢ 1) (same_parts at onset told parts is) apart.1)
      ]

  fallen_is_ash : (onset : ℕ) (parts : List Part) → fallen_of near R G b ≡ Ash onset parts →
      (census_of near R G b ≡ Ash onset parts) × (objects_in parts ≢ 1)
  unfolding census_of
  fallen_is_ash onset parts e = ash_by (ash_onset R G b) (ash_of R b (generation R G b)) onset parts e

  module _ (limit : Option ℕ) (horizon : ℕ) where
    abbrev outcome : Outcome
    outcome = outcome_to (Objects b limit near horizon) R G

    -- what is neither growth nor too large is what is reported of what is to fall apart
    else_fallen : (other : Outcome) → outcome ≡ other → ((lines : List Engines) → other ≡ Grows lines → ⊥) →
        ((first : ℕ) → other ≡ Large first → ⊥) → fallen_of near R G b ≡ other
    else_fallen other e no_growth no_large =
        let c : ℕ = allowed near limit R G b in
        (limited-else R G (3 * b) limit (fallen_of near R G b) other
        (growing-else (growth_told near R (min horizon c) (generation R G c)) (before near limit R G b) other e no_growth) no_large).1

    pub reported_recurs : (onset period : ℕ) (dx dy : ℤ) (code : List ℕ) → outcome ≡ Recurs onset period dx dy code → (c : ℕ) →
        onset + period ≤ c → outcome_of R G c ≡ Recurs onset period dx dy code
    reported_recurs onset period dx dy code e c enough =
        let other : Outcome = Recurs onset period dx dy code in
        let is = fallen_recurs onset period dx dy code (else_fallen other e (λ lines no. cc) (λ first no. cc)) in
        let r : Recurrence = record { onset = onset; period = period; displacement = (dx, dy) } in
        outcome-more R G (2 * b) c r (settles_by_outcome R G (2 * b) onset period dx dy code is) enough ∙ is

    pub reported_ash : (onset : ℕ) (parts : List Part) → outcome ≡ Ash onset parts →
        (census_of near R G b ≡ Ash onset parts) × (objects_in parts ≢ 1)
    reported_ash onset parts e = fallen_is_ash onset parts (else_fallen (Ash onset parts) e (λ lines no. cc) (λ first no. cc))
