-- What the counts of a closing say of the objects that patterns fall apart into, by what these count as.
use Rattle.std.specs.Prelude.{◌≡◌, ℕ, Bool, true, false, List, Option, count_by}
use Rattle.std.specs.List.{All, Contains, sum_by}
use Rattle.census_bundle.specs.declared.bundle.Entry.{Entry}
use Rattle.life_answer.specs.Apgcode.{code_of}
use Rattle.life_answer.specs.Counted.{code_bound}
use Rattle.life_answer.specs.declared.question.Question.TheVariants as question
use Rattle.life_model.specs.Cell.{Cell}
use Rattle.life_model.specs.Generation.{Generation}
use Rattle.life_model.specs.Recurrence.{Settles}
use Rattle.life_model.specs.Rule.{Rule}
use Rattle.census_format.specs.Lines.{answers}
use Rattle.census_format.specs.Objects.{Object, object, objects, same_object, tally}
use Rattle.census_merge.specs.Runs.Fallen.{CountsIn, FallsApart, counted_sets}

-- P recurs within the bound, and this is the rule and P's code.
pub record IsCoded (bound : ℕ) (R : Rule) (P : Generation) (k : Object) : Type 0 where
  pub period : ℕ
  pub displacement : Cell
  pub settles : Settles R P bound (record { onset = 0; period = period; displacement = displacement })
  pub named : k ≡ object R (code_of R P period displacement)

-- a bound within which each set that counts recurs: an object does so within the bound asked for
abbrev pub coming_bound : Bool → ℕ → ℕ
coming_bound true bound = bound
coming_bound false bound = code_bound bound

-- The line has the rule and the code of a set that one of these patterns counts as. Its number is how many such sets, of all
-- the patterns, are one object with that set under that rule.
pub record CountsPartsOfObject (near : Bool) (bound : ℕ) (most : Option ℕ) (es : List Entry) (line : Object × ℕ) : Type 0 where
  pub pattern : Entry
  pub among : Contains es pattern
  pub fallen : FallsApart bound most pattern
  pub part : Generation
  pub of_it : Contains (counted_sets near bound most pattern fallen) part
  pub coded : IsCoded (coming_bound near bound) fallen.rule part line.0
  pub number : Entry → ℕ
  pub counts : (e : Entry) → CountsIn near bound most fallen.rule part e (number e)
  pub sum : line.1 ≡ sum_by number es

-- the rules and codes of the `code` lines of a collection, and their numbers
abbrev pub code_counts : (near : Bool) (bound : ℕ) (most : Option ℕ) (horizon : ℕ) → List Entry → List (Object × ℕ)
code_counts near bound most horizon es = tally same_object (objects (answers (question.Objects bound most near horizon) es))

-- Exactly one of these lines has the rule and P's code.
pub record HasOneLine (bound : ℕ) (R : Rule) (P : Generation) (lines : List (Object × ℕ)) : Type 0 where
  pub shown : Object
  pub coded : IsCoded bound R P shown
  pub once : count_by (λ line. same_object shown line.0) lines ≡ 1

-- each set that these patterns count as, if they fall apart, has one line
abbrev pub PartsHaveOneLine : (near : Bool) (bound : ℕ) (most : Option ℕ) (horizon : ℕ) → List Entry → Type 0
PartsHaveOneLine near bound most horizon es =
    (e : Entry) → Contains es e → (f : FallsApart bound most e) → (P : Generation) → Contains (counted_sets near bound most e f) P
    → HasOneLine (coming_bound near bound) f.rule P (code_counts near bound most horizon es)

-- Each `code` line of a collection counts an object, and each object has one line.
abbrev pub CodesCountObjectsOfAsh : Type 0
CodesCountObjectsOfAsh =
    (near : Bool) (bound : ℕ) (most : Option ℕ) (horizon : ℕ) (es : List Entry)
    → All (CountsPartsOfObject near bound most es) (code_counts near bound most horizon es) × PartsHaveOneLine near bound most horizon es
