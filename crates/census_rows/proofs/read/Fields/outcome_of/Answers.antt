use Rattle.std.proofs.Common.{◌≡◌, ◌++◌, ◌∷◌, List, ℕ, [], true, decimal, refl, sym, ◌∙◌, drop}
use Rattle.census_rows.specs.declared.row.Outcome.{Outcome}
use Rattle.census_rows.specs.declared.row.Outcome.TheVariants.{Found, Bad}
use Rattle.census_rows.specs.Kinds.{said_of, texts_of}
use Rattle.census_rows.specs.Lines.{fields_text, outcome_fields, HasNoBlank, EndsField, IsOutcome, SameOutcome}
use Rattle.census_rows.proofs.FieldTexts.{first-field, ends-behind}
use Rattle.census_rows.proofs.EachKind.{first-word, found-not-bad}
use Rattle.census_rows.proofs.read.Fields.outcome_of.Goals as goal

-- a fault is read
read-bad : (c : goal.After-number) (o : Outcome) (after : List ℕ) → c.args.self.now.whole ≡ true → IsOutcome o → EndsField after
    → HasNoBlank c.args.found.now → EndsField c.args.self.now.rest.now
    → c.args.found.now ++ c.args.self.now.rest.now ≡ drop 1 (fields_text (outcome_fields o)) ++ after
    → (c.number.new.self.whole ≡ true) × SameOutcome (Bad c.number.result) o × (c.number.new.self.rest.now ≡ after)
read-bad c (Found rule population f) after whole is ends plain ends0 e =
    let told = (first-word (Found rule population f) c.args.found.now c.args.self.now.rest.now after plain ends0 ends e).0 in
    absurd (found-not-bad f (sym told ∙ c.are_same.ensures.yes c.if-are_same.true))
read-bad c (Bad fault) after whole is ends plain ends0 e =
    let begins = (first-word (Bad fault) c.args.found.now c.args.self.now.rest.now after plain ends0 ends e).1 in
    let s = c.number.ensures.all fault after whole is.0 ends (first-field (decimal fault) [] _ after begins) in
    (s.0, (refl, refl, refl, (refl, s.1, tt)), s.2)

pub returns-then-are_same-clause-all : goal.returns-then-are_same-clause-all
returns-then-are_same-clause-all c = λ o after whole is ends plain ends0 e. read-bad c o after whole is ends plain ends0 e

-- what was found is read: its rule, its population and its other fields
read-found : (c : goal.After-finding) (o : Outcome) (after : List ℕ) → c.args.self.now.whole ≡ true → IsOutcome o → EndsField after
    → HasNoBlank c.args.found.now → EndsField c.args.self.now.rest.now
    → c.args.found.now ++ c.args.self.now.rest.now ≡ drop 1 (fields_text (outcome_fields o)) ++ after
    → (c.finding.new.self.whole ≡ true) × SameOutcome (Found c.word.result c.number-else-are_same.result c.finding.result) o
    × (c.finding.new.self.rest.now ≡ after)
read-found c (Found rule population f) after whole is ends plain ends0 e =
    let begins = first-word (Found rule population f) c.args.found.now c.args.self.now.rest.now after plain ends0 ends e in
    let fs = texts_of (said_of f).fields in
    let s1 = c.word.ensures.all rule.now (fields_text (decimal population ∷ fs) ++ after) whole is.0 refl (first-field rule.now (decimal population ∷ fs) _ after begins.1) in
    let s2 = c.number-else-are_same.ensures.all population (fields_text fs ++ after) s1.0 is.1.0 (ends-behind fs after ends) (first-field (decimal population) fs _ after s1.2) in
    let s3 = c.finding.ensures.all f after s2.0 is.1.1 ends begins.0 s2.2 in
    (s3.0, (s3.1.0, s3.1.1, s3.1.2, (refl, s1.1, (refl, s2.1, s3.1.3))), s3.2)
read-found c (Bad fault) after whole is ends plain ends0 e =
    let told = (first-word (Bad fault) c.args.found.now c.args.self.now.rest.now after plain ends0 ends e).0 in
    absurd (cc (c.are_same.ensures.no told, c.if-are_same.false))

pub returns-else-are_same-clause-all : goal.returns-else-are_same-clause-all
returns-else-are_same-clause-all c = λ o after whole is ends plain ends0 e. read-found c o after whole is ends plain ends0 e
