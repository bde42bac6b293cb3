-- The rows of a pattern say that it grows exactly if it does.
use Rattle.std.proofs.Common.{◌≡◌, ℕ, Bool, true, List, ◌∷◌, Option, Result, Ok, Err, bytes_eq, codes, refl, sym, ap, ◌∙◌, arith}
use Rattle.std.proofs.lemmas.Bool.{false≢true}
use Rattle.census_bundle.specs.declared.bundle.Entry.{Entry}
use Rattle.census_format.specs.Found.{outcome_of}
use Rattle.census_format.specs.Lines.{pattern_row, pattern_rows, rows_behind, saying_rows}
use Rattle.census_format.proofs.Lost.{found_kept, kept_answer}
use Rattle.census_merge.specs.Runs.Growing.{HasGrown, growing_rows}
use Rattle.census_merge.proofs.RunsLemmas.Fallen.{answer_by, answer_in}
use Rattle.census_rows.specs.Kinds.{said}
use Rattle.life_answer.specs.Answers.{finding_with}
use Rattle.life_answer.specs.Questions.{finding_to, outcome_to}
use Rattle.life_answer.specs.Told.{told_of_engines}
use Rattle.life_answer.specs.declared.finding.Answer.{Answer}
use Rattle.life_answer.specs.declared.finding.Answer.TheVariants.{Found, Refused}
use Rattle.life_answer.specs.declared.finding.Finding.{Finding}
use Rattle.life_answer.specs.declared.finding.Outcome.{Outcome}
use Rattle.life_answer.specs.declared.finding.Outcome.TheVariants.{Ash, Grows, Large, Recurs, Unresolved}
use Rattle.life_answer.specs.declared.question.Question.TheVariants.{Objects}
use Rattle.life_answer.specs.declared.tale.Engines.{Engines}
use Rattle.life_answer.proofs.Growing.{outcome_is_so, sooner_told}
use Rattle.life_answer.proofs.Texts.{answer-found, same_finding}
use Rattle.life_model.specs.Rule.{Rule}
use Rattle.life_text.specs.declared.rle.RleFault.{RleFault}
use Rattle.life_text.specs.Picture.{Picture, picture_of}
use Rattle.life_text.specs.Rle.{reading}

-- the word is `grows`
abbrev says_growth : List ℕ → Bool
says_growth word = bytes_eq word (codes "grows")

module _ (near : Bool) (bound : ℕ) (most : Option ℕ) (horizon : ℕ) (e : Entry) where
  abbrev answer : Answer
  answer = answer_in near bound most horizon e

  -- ---- what grows is said to grow

  abbrev lines : HasGrown bound most horizon e → List Engines
  lines g = told_of_engines near g.rule g.within g.engines

  answer_grows : (g : HasGrown bound most horizon e) → answer ≡ Found g.rule (finding_with g.cells (Grows (lines g)))
  answer_grows g =
      kept_answer (Objects bound most near horizon) e g.kept
      ∙ answer-found (Objects bound most near horizon) e.text (record { rule = g.rule; cells = g.cells }) g.reads
      ∙ ap (λ o. Found g.rule (finding_with g.cells o))
      (sooner_told near most g.rule g.cells bound horizon g.seen g.age g.within g.debris g.engines g.growth g.grown g.passed
      g.soon g.early g.small)

  pub rows_grow : (c i : ℕ) (g : HasGrown bound most horizon e) →
      pattern_rows (Objects bound most near horizon) c i e ≡ growing_rows c i g.rule g.cells e.name (lines g)
  unfolding saying_rows
  rows_grow c i g = ap (λ found. pattern_row c i found e.name ∷ rows_behind c i found) (answer_grows g)

  -- ---- and nothing else is said to grow

  grown_by : (rule : Rule) (finding : Finding) (engines : List Engines) → answer ≡ Found rule finding → finding.outcome ≡ Grows engines
      → (r : Result Picture RleFault) → picture_of (reading e.text) ≡ r → HasGrown bound most horizon e
  grown_by rule finding engines is grows (Err fault) read =
      let kept = found_kept (Objects bound most near horizon) e rule finding is in
      absurd (let fails = sym is ∙ answer_by near bound most horizon e kept (Err fault) read in cc)
  grown_by rule finding engines is grows (Ok pattern) read =
      let R = pattern.rule in
      let G = pattern.cells in
      let kept = found_kept (Objects bound most near horizon) e rule finding is in
      let same = same_finding rule R finding (finding_to (Objects bound most near horizon) R G)
      (sym is ∙ answer_by near bound most horizon e kept (Ok pattern) read) in
      let becomes : outcome_to (Objects bound most near horizon) R G ≡ Grows engines =
      ap (λ (f : Finding). f.outcome) (sym same) ∙ grows in
      let q = outcome_is_so near most R G bound horizon engines becomes in
      record {
        rule = R;
        cells = G;
        kept = kept;
        reads = read;
        age = q.0;
        within = q.4;
        engines = q.8;
        debris = q.9;
        growth = q.10;
        seen = q.0;
        grown = omega arith;
        passed = q.6;
        soon = q.7;
        early = q.2;
        small = q.3;
      }

  by_outcome : (rule : Rule) (finding : Finding) (outcome : Outcome) → answer ≡ Found rule finding → finding.outcome ≡ outcome
      → says_growth (said (outcome_of (Found rule (record { population = finding.population; outcome = outcome })))).word ≡ true
      → HasGrown bound most horizon e
  by_outcome rule finding (Grows engines) is becomes says =
      grown_by rule finding engines is becomes (picture_of (reading e.text)) refl
  by_outcome rule finding (Recurs onset period dx dy code) is becomes says = absurd (false≢true says)
  by_outcome rule finding (Ash onset parts) is becomes says = absurd (false≢true says)
  by_outcome rule finding Unresolved is becomes says = absurd (false≢true says)
  by_outcome rule finding (Large first) is becomes says = absurd (false≢true says)

  by_answer : (a : Answer) → answer ≡ a → says_growth (said (outcome_of a)).word ≡ true → HasGrown bound most horizon e
  by_answer (Found rule finding) is says = by_outcome rule finding finding.outcome is refl says
  by_answer (Refused fault) is says = absurd (false≢true says)

  pub said_to_grow : (said (outcome_of answer)).word ≡ codes "grows" → HasGrown bound most horizon e
  said_to_grow is = by_answer answer refl (ap says_growth is)
