-- The counts of a closing count objects.
use Rattle.std.proofs.Common.{◌≡◌, ℕ, zero, suc, ◌+◌, ◌<◌, Bool, true, false, cond, ◌||◌, List, [], ◌∷◌, ◌++◌, Option, length, get_or, Ok, Err, Result, refl, sym, ap, subst, ◌∙◌, arith, Decides, ℤ, zero-add}
use Rattle.std.proofs.lemmas.Bool.{false≢true, or_right}
use Rattle.std.proofs.lemmas.List.Folds.{list_any-append, list_any_at}
use Rattle.std.proofs.lemmas.List.Elements.{All-map, Contains-append_right}
use Rattle.std.specs.List.{All, Contains, list_any, count_by}
use Rattle.census_bundle.specs.declared.bundle.Entry.{Entry}
use Rattle.life_answer.specs.Answers.{finding_with, outcome_of}
use Rattle.life_answer.specs.Questions.{answer_to, answer_to_question, finding_to, outcome_to}
use Rattle.life_answer.specs.Apgcode.{code_of}
use Rattle.life_answer.specs.declared.finding.Answer.{Answer}
use Rattle.life_answer.specs.declared.finding.Answer.TheVariants.{Found, Refused}
use Rattle.life_answer.specs.declared.finding.Finding.{Finding}
use Rattle.life_answer.specs.declared.finding.Outcome.{Outcome}
use Rattle.life_answer.specs.declared.finding.Outcome.TheVariants.{Recurs, Large, Ash}
use Rattle.life_answer.specs.declared.part.Part.{Part}
use Rattle.life_answer.specs.declared.question.Question.TheVariants as question
use Rattle.life_answer.proofs.Codes.{codes_tell_objects}
use Rattle.life_answer.proofs.Findings.{outcome-settled, settles_by_outcome}
use Rattle.life_answer.proofs.Limits.{limited-else, limited-same}
use Rattle.life_answer.proofs.Texts.{answer-found, answer-no_ash}
use Rattle.life_model.specs.Evolution.{generation}
use Rattle.life_model.specs.Recurrence.{AreOneObject, Recurrence, Settles}
use Rattle.life_model.specs.Rule.{Rule}
use Rattle.life_text.specs.declared.rle.RleFault.{RleFault}
use Rattle.life_text.specs.Picture.{Picture, picture_of}
use Rattle.life_text.specs.Rle.{reading}
use Rattle.census_format.specs.Lines.{answer_to_entry, answers}
use Rattle.census_format.specs.Objects.{Object, object, objects, outcome_objects, same_object, distinct_elements, tally}
use Rattle.census_format.specs.ObjectCounts.{Resolves, settled_cells, settled_object, SettlesInto, CountsObject, CodesCountObjects}
use Rattle.census_format.specs.ObjectLaws.{one_object, same_itself}
use Rattle.census_format.proofs.Lost.{found_answer, found_kept, kept_answer}
use Rattle.census_format.proofs.Tallies.{objects-append, count_first, count_map, any_distinct, count_distinct}

-- ---- a pattern that is said to recur resolves into what is said

abbrev answer_in : ℕ → Option ℕ → Entry → Answer
answer_in bound most e = answer_to_entry (question.Settles bound most) e

answer_by : (e : Entry) (bound : ℕ) (most : Option ℕ) (r : Result Picture RleFault) → e.is_lost ≡ false → picture_of (reading e.text) ≡ r → answer_in bound most e ≡ answer_to (question.Settles bound most) r
unfolding answer_to_question
answer_by e bound most r kept read = kept_answer (question.Settles bound most) e kept ∙ ap (answer_to (question.Settles bound most)) read

found_parts : (r s : Rule) (f g : Finding) → Found r f ≡ Found s g → (r ≡ s) × (f ≡ g)
found_parts r s f g e = (cc, cc)

recurs_code : (o n o' n' : ℕ) (x y x' y' : ℤ) (c c' : List ℕ) → Recurs o n x y c ≡ Recurs o' n' x' y' c' → c ≡ c'
recurs_code o n o' n' x y x' y' c c' e = cc

not_large : (o n : ℕ) (x y : ℤ) (c : List ℕ) (first : ℕ) → Recurs o n x y c ≡ Large first → ⊥
not_large o n x y c first e = cc

said : (bound : ℕ) (most : Option ℕ) (e : Entry) (rule : Rule) (finding : Finding) (onset period : ℕ) (dx dy : ℤ) (code : List ℕ)
    → answer_in bound most e ≡ Found rule finding → finding.outcome ≡ Recurs onset period dx dy code
    → (r : Result Picture RleFault) → picture_of (reading e.text) ≡ r → (s : Resolves bound most e) × (object rule code ≡ settled_object bound most e s)
said bound most e rule finding onset period dx dy code is recurs (Err fault) read =
    let kept = found_kept (question.Settles bound most) e rule finding is in
    absurd (let fails = sym is ∙ answer_by e bound most (Err fault) kept read in cc)
said bound most e rule finding onset period dx dy code is recurs (Ok pattern) read =
    let R = pattern.rule in
    let G = pattern.cells in
    let kept = found_kept (question.Settles bound most) e rule finding is in
    let parts = found_parts rule R finding (finding_to (question.Settles bound most) R G) (sym is ∙ answer_by e bound most (Ok pattern) kept read) in
    let becomes : outcome_to (question.Settles bound most) R G ≡ Recurs onset period dx dy code = ap (λ (f : Finding). f.outcome) (sym parts.1) ∙ recurs in
    let found = limited-else R G bound most (outcome_of R G bound) (Recurs onset period dx dy code) becomes (not_large onset period dx dy code) in
    let recurrence : Recurrence = record { onset = onset; period = period; displacement = (dx, dy) } in
    let settles : Settles R G bound recurrence = settles_by_outcome R G bound onset period dx dy code found.1 in
    let codes : code ≡ code_of R (generation R G onset) period (dx, dy) = recurs_code _ _ _ _ _ _ _ _ _ _ (sym found.1 ∙ outcome-settled R G bound recurrence settles) in (
      record { rule = R; cells = G; kept = kept; reads = read; recurrence = recurrence; settles = settles; small = found.0 },
      ap (λ r. object r code) parts.0 ∙ ap (object R) codes,
    )

-- and a pattern that resolves is said to
to_say : (bound : ℕ) (most : Option ℕ) (e : Entry) (s : Resolves bound most e) → answer_in bound most e ≡ Found s.rule (finding_with s.cells
    (Recurs s.recurrence.onset s.recurrence.period s.recurrence.displacement.0 s.recurrence.displacement.1 (settled_object bound most e s).code))
to_say bound most e s =
    kept_answer (question.Settles bound most) e s.kept ∙ answer-found (question.Settles bound most) e.text (record { rule = s.rule; cells = s.cells }) s.reads
    ∙ ap (λ o. Found s.rule (finding_with s.cells o))
    (limited-same s.rule s.cells bound most (outcome_of s.rule s.cells bound) s.small ∙ outcome-settled s.rule s.cells bound s.recurrence s.settles)

-- ---- the patterns of an object

-- whether this object is that of the outcome
shows : Object → Rule → Outcome → Bool
shows k rule (Recurs onset period dx dy code) = same_object k (object rule code)
shows k rule _ = false

-- whether this object is said
says : Object → Answer → Bool
says k (Found rule finding) = shows k rule finding.outcome
says k (Refused number) = false

count_shown : (k : Object) (rule : Rule) (outcome : Outcome) (rest : List Object) → ((onset : ℕ) (parts : List Part) → outcome ≡ Ash onset parts → ⊥)
    → count_by (same_object k) (outcome_objects rule outcome ++ rest) ≡ cond (shows k rule outcome) 1 0 + count_by (same_object k) rest
unfolding shows
count_shown k rule (Recurs onset period dx dy code) rest apart = count_first (same_object k) (object rule code) rest
count_shown k rule (Ash onset parts) rest apart = absurd (apart onset parts refl)
count_shown k rule _ rest apart = sym (zero-add (count_by (same_object k) rest))

-- where it is asked which generation recurs, nothing has fallen apart
no_ash : (bound : ℕ) (most : Option ℕ) (e : Entry) (rule : Rule) (finding : Finding) → answer_in bound most e ≡ Found rule finding
    → (onset : ℕ) (parts : List Part) → finding.outcome ≡ Ash onset parts → ⊥
no_ash bound most e rule finding is onset parts ash =
    answer-no_ash e.text bound most rule finding onset parts (found_answer (question.Settles bound most) e rule finding is) ash

count_said : (bound : ℕ) (most : Option ℕ) (k : Object) (e : Entry) (a : Answer) (rest : List Answer) → answer_in bound most e ≡ a
    → count_by (same_object k) (objects (a ∷ rest)) ≡ cond (says k a) 1 0 + count_by (same_object k) (objects rest)
unfolding says
count_said bound most k e (Found rule finding) rest is = count_shown k rule finding.outcome (objects rest) (no_ash bound most e rule finding is)
count_said bound most k e (Refused number) rest is = sym (zero-add (count_by (same_object k) (objects rest)))

count_of_object : (bound : ℕ) (most : Option ℕ) (k : Object) (es : List Entry) → count_by (same_object k) (objects (answers (question.Settles bound most) es)) ≡ count_by (λ (e : Entry). says k (answer_in bound most e)) es
count_of_object bound most k [] = refl
count_of_object bound most k (e ∷ es) =
    count_said bound most k e (answer_in bound most e) (answers (question.Settles bound most) es) refl
    ∙ ap (λ n. cond (says k (answer_in bound most e)) 1 0 + n) (count_of_object bound most k es)
    ∙ sym (count_first (λ (x : Entry). says k (answer_in bound most x)) e es)

module _ (bound : ℕ) (most : Option ℕ) (pattern : Entry) (s : Resolves bound most pattern) where
  abbrev into : Entry → Type 0
  into e = SettlesInto bound most e s.rule (settled_cells bound most pattern s)

  -- two patterns that resolve under one rule have one code exactly if they settle into one object
  one_code : (e : Entry) (r : Resolves bound most e) → settled_object bound most pattern s ≡ settled_object bound most e r → into e
  one_code e r is =
      let rules : s.rule ≡ r.rule = ap (λ (k : Object). k.rule) is in
      let R = s.rule in
      let settles : Settles R r.cells bound r.recurrence = subst (λ q. Settles q r.cells bound r.recurrence) (sym rules) r.settles in
      let codes : code_of R (generation R s.cells s.recurrence.onset) s.recurrence.period s.recurrence.displacement ≡ code_of R (generation R r.cells r.recurrence.onset) r.recurrence.period r.recurrence.displacement =
      ap (λ (k : Object). k.code) is ∙ ap (λ q. code_of q (generation q r.cells r.recurrence.onset) r.recurrence.period r.recurrence.displacement) (sym rules) in
      let told = codes_tell_objects R r.cells s.cells bound bound r.recurrence s.recurrence settles s.settles in
      record { resolves = r; same_rule = sym rules; one = subst (λ q. AreOneObject R (generation q r.cells r.recurrence.onset) (settled_cells bound most pattern s)) rules (told.0 (sym codes)) }

  told_by : (e : Entry) → into e → says (settled_object bound most pattern s) (answer_in bound most e) ≡ true
  unfolding shows says
  told_by e h =
      let r = h.resolves in
      let R = s.rule in
      let settles : Settles R r.cells bound r.recurrence = subst (λ q. Settles q r.cells bound r.recurrence) h.same_rule r.settles in
      let one : AreOneObject R (generation R r.cells r.recurrence.onset) (settled_cells bound most pattern s) = subst (λ q. AreOneObject R (generation q r.cells r.recurrence.onset) (settled_cells bound most pattern s)) h.same_rule h.one in
      let told = codes_tell_objects R r.cells s.cells bound bound r.recurrence s.recurrence settles s.settles in
      let codes : code_of R (generation R r.cells r.recurrence.onset) r.recurrence.period r.recurrence.displacement ≡ code_of R (generation R s.cells s.recurrence.onset) s.recurrence.period s.recurrence.displacement = told.1 one in
      let same : settled_object bound most e r ≡ settled_object bound most pattern s = ap (λ q. object q (code_of q (generation q r.cells r.recurrence.onset) r.recurrence.period r.recurrence.displacement)) h.same_rule ∙ ap (object R) codes in
      ap (says (settled_object bound most pattern s)) (to_say bound most e r) ∙ ap (same_object (settled_object bound most pattern s)) same ∙ same_itself (settled_object bound most pattern s)

  tells_shown : (e : Entry) (rule : Rule) (finding : Finding) (outcome : Outcome) → answer_in bound most e ≡ Found rule finding → finding.outcome ≡ outcome
      → shows (settled_object bound most pattern s) rule outcome ≡ true → into e
  unfolding shows
  tells_shown e rule finding (Recurs onset period dx dy code) is recurs holds =
      let r = said bound most e rule finding onset period dx dy code is recurs (picture_of (reading e.text)) refl in
      one_code e r.0 (one_object (settled_object bound most pattern s) (object rule code) holds ∙ r.1)
  tells_shown e rule finding _ is becomes fails = absurd (false≢true fails)

  tells_by : (e : Entry) (a : Answer) → answer_in bound most e ≡ a → says (settled_object bound most pattern s) a ≡ true → into e
  unfolding says
  tells_by e (Found rule finding) is holds = tells_shown e rule finding finding.outcome is refl holds
  tells_by e (Refused number) is fails = absurd (false≢true fails)

  test_tells : (e : Entry) → Decides (says (settled_object bound most pattern s) (answer_in bound most e)) (into e)
  test_tells e = (λ holds. tells_by e (answer_in bound most e) refl holds, told_by e)

-- ---- the lines

shown_outcome : (bound : ℕ) (most : Option ℕ) (k : Object) (e : Entry) (rule : Rule) (finding : Finding) (outcome : Outcome) (rest : List Object)
    → answer_in bound most e ≡ Found rule finding → finding.outcome ≡ outcome → list_any (same_object k) (outcome_objects rule outcome ++ rest) ≡ true
    → (P : Type 0) → ((r : Resolves bound most e) → k ≡ settled_object bound most e r → P) → (list_any (same_object k) rest ≡ true → P) → P
shown_outcome bound most k e rule finding (Recurs onset period dx dy code) rest is recurs holds P here there =
    elim (same_object k (object rule code)) as (λ b. same_object k (object rule code) ≡ b → (b || list_any (same_object k) rest) ≡ true → P) [
      | true ↦ λ same _. let r = said bound most e rule finding onset period dx dy code is recurs (picture_of (reading e.text)) refl in here r.0 (one_object k (object rule code) same ∙ r.1)
      | false ↦ λ _ rest'. there rest'
    ] refl holds
shown_outcome bound most k e rule finding (Ash onset parts) rest is ash holds P here there = absurd (no_ash bound most e rule finding is onset parts ash)
shown_outcome bound most k e rule finding _ rest is becomes holds P here there = there holds

shown_object : (bound : ℕ) (most : Option ℕ) (k : Object) (e : Entry) (a : Answer) (rest : List Answer) → answer_in bound most e ≡ a → list_any (same_object k) (objects (a ∷ rest)) ≡ true
    → (P : Type 0) → ((r : Resolves bound most e) → k ≡ settled_object bound most e r → P) → (list_any (same_object k) (objects rest) ≡ true → P) → P
shown_object bound most k e (Found rule finding) rest is holds P here there =
    shown_outcome bound most k e rule finding finding.outcome (objects rest) is refl holds P here there
shown_object bound most k e (Refused number) rest is holds P here there = there holds

record IsFrom (bound : ℕ) (most : Option ℕ) (es : List Entry) (k : Object) : Type 0 where
  pattern : Entry
  among : Contains es pattern
  resolves : Resolves bound most pattern
  named : k ≡ settled_object bound most pattern resolves

-- each object among these is that of a pattern
origin : (bound : ℕ) (most : Option ℕ) (k : Object) (es : List Entry) → list_any (same_object k) (objects (answers (question.Settles bound most) es)) ≡ true → IsFrom bound most es k
origin bound most k [] fails = absurd (false≢true fails)
origin bound most k (e ∷ es) holds =
    shown_object bound most k e (answer_in bound most e) (answers (question.Settles bound most) es) refl holds (IsFrom bound most (e ∷ es) k)
    (λ r is. record { pattern = e; among = (0, omega arith, refl); resolves = r; named = is })
    (λ rest. let o = origin bound most k es rest in record { pattern = o.pattern; among = Contains-append_right (e ∷ []) es o.pattern o.among; resolves = o.resolves; named = o.named })

each_line : (bound : ℕ) (most : Option ℕ) (es : List Entry) → All (CountsObject bound most es) (tally same_object (objects (answers (question.Settles bound most) es)))
each_line bound most es =
    let ks = objects (answers (question.Settles bound most) es) in
    All-map (CountsObject bound most es) (λ k. (k, count_by (same_object k) ks)) (distinct_elements same_object ks) (λ i d lt.
    let k = get_or (distinct_elements same_object ks) i d in
    let any : list_any (same_object k) ks ≡ true = sym (any_distinct same_object one_object same_itself k ks) ∙ list_any_at (same_object k) (distinct_elements same_object ks) i d lt (same_itself k) in
    let o = origin bound most k es any in
    record {
      pattern = o.pattern;
      among = o.among;
      resolves = o.resolves;
      named = o.named;
      test = λ (e : Entry). says (settled_object bound most o.pattern o.resolves) (answer_in bound most e);
      tells = test_tells bound most o.pattern o.resolves;
      count = count_of_object bound most k es ∙ ap (λ x. count_by (λ (e : Entry). says x (answer_in bound most e)) es) o.named;
    })

objects_first : (k : Object) (a : Answer) (rest : List Answer) → list_any (same_object k) (objects (a ∷ rest)) ≡ (list_any (same_object k) (objects (a ∷ [])) || list_any (same_object k) (objects rest))
objects_first k a rest = ap (list_any (same_object k)) (objects-append (a ∷ []) rest) ∙ list_any-append (same_object k) (objects (a ∷ [])) (objects rest)

-- the object of a pattern is among these
objects_any : (bound : ℕ) (most : Option ℕ) (k : Object) (e : Entry) (es : List Entry) (i : ℕ) → i < length es → get_or es i e ≡ e → list_any (same_object k) (objects (answer_in bound most e ∷ [])) ≡ true → list_any (same_object k) (objects (answers (question.Settles bound most) es)) ≡ true
objects_any bound most k e [] i lt is one = absurd (omega arith)
objects_any bound most k e (x ∷ es) zero lt is one =
    objects_first k (answer_in bound most x) (answers (question.Settles bound most) es) ∙ ap (λ (y : Entry). list_any (same_object k) (objects (answer_in bound most y ∷ [])) || list_any (same_object k) (objects (answers (question.Settles bound most) es))) is
    ∙ ap (λ b. b || list_any (same_object k) (objects (answers (question.Settles bound most) es))) one
objects_any bound most k e (x ∷ es) (suc i) lt is one =
    objects_first k (answer_in bound most x) (answers (question.Settles bound most) es) ∙ ap (λ b. list_any (same_object k) (objects (answer_in bound most x ∷ [])) || b) (objects_any bound most k e es i (omega arith) is one)
    ∙ or_right (list_any (same_object k) (objects (answer_in bound most x ∷ []))) true refl

each_pattern : (bound : ℕ) (most : Option ℕ) (es : List Entry) (e : Entry) → Contains es e → (r : Resolves bound most e)
    → count_by (λ line. same_object (settled_object bound most e r) line.0) (tally same_object (objects (answers (question.Settles bound most) es))) ≡ 1
each_pattern bound most es e at r =
    let ks = objects (answers (question.Settles bound most) es) in
    let k = settled_object bound most e r in
    let one : list_any (same_object k) (objects (answer_in bound most e ∷ [])) ≡ true =
    ap (λ a. list_any (same_object k) (objects (a ∷ []))) (to_say bound most e r) ∙ ap (λ b. b || false) (same_itself k) in
    count_map (λ x. (x, count_by (same_object x) ks)) (λ line. same_object k line.0) (distinct_elements same_object ks)
    ∙ count_distinct same_object one_object same_itself k ks (objects_any bound most k e es at.0 at.1 at.2 one)

pub codes_count_objects : CodesCountObjects
codes_count_objects bound most es = (each_line bound most es, each_pattern bound most es)
