-- The meaning of the counts of a closing for objects.
use Rattle.std.specs.Prelude.{◌≡◌, ℕ, Bool, false, List, Option, Ok, count_by}
use Rattle.std.specs.Bool.{Decides}
use Rattle.std.specs.List.{All, Contains}
use Rattle.census_bundle.specs.declared.bundle.Entry.{Entry}
use Rattle.life_answer.specs.Apgcode.{code_of}
use Rattle.life_answer.specs.Limited.{StaysWithin}
use Rattle.life_model.specs.Evolution.{generation}
use Rattle.life_model.specs.Generation.{Generation}
use Rattle.life_model.specs.Recurrence.{AreOneObject, Recurrence, Settles}
use Rattle.life_model.specs.Rule.{Rule}
use Rattle.life_text.specs.Picture.{picture_of}
use Rattle.life_text.specs.Rle.{reading}
use Rattle.life_answer.specs.declared.question.Question.TheVariants as question
use Rattle.census_format.specs.Lines.{answers}
use Rattle.census_format.specs.Objects.{Object, object, objects, same_object, tally}

-- The pattern isn't lost. It is a set of cells under a rule that settles within the bound, and none of its generations up to
-- the bound is too large.
pub record Resolves (bound : ℕ) (most : Option ℕ) (e : Entry) : Type 0 where
  pub rule : Rule
  pub cells : Generation
  pub kept : e.is_lost ≡ false
  pub reads : picture_of (reading e.text) ≡ Ok (record { rule = rule; cells = cells })
  pub recurrence : Recurrence
  pub settles : Settles rule cells bound recurrence
  pub small : StaysWithin most rule cells bound

-- the set that it settles into
abbrev pub settled_cells : (bound : ℕ) (most : Option ℕ) (e : Entry) → Resolves bound most e → Generation
settled_cells bound most e r = generation r.rule r.cells r.recurrence.onset

-- its rule and its code
abbrev pub settled_object : (bound : ℕ) (most : Option ℕ) (e : Entry) → Resolves bound most e → Object
settled_object bound most e r =
    object r.rule (code_of r.rule (settled_cells bound most e r) r.recurrence.period r.recurrence.displacement)

-- The pattern settles within the bound, under this rule, into one object with this set.
pub record SettlesInto (bound : ℕ) (most : Option ℕ) (e : Entry) (R : Rule) (H : Generation) : Type 0 where
  pub resolves : Resolves bound most e
  pub same_rule : resolves.rule ≡ R
  pub one : AreOneObject R (settled_cells bound most e resolves) H

-- The line has the rule and code of one of the patterns, and its number is that of the patterns that settle, under this
-- rule, into the object of that one.
pub record CountsObject (bound : ℕ) (most : Option ℕ) (es : List Entry) (line : Object × ℕ) : Type 0 where
  pub pattern : Entry
  pub among : Contains es pattern
  pub resolves : Resolves bound most pattern
  pub named : line.0 ≡ settled_object bound most pattern resolves
  pub test : Entry → Bool
  pub tells : (e : Entry) → Decides (test e) (SettlesInto bound most e resolves.rule (settled_cells bound most pattern resolves))
  pub count : line.1 ≡ count_by test es

-- Each `code` line of a collection counts an object, and each pattern that resolves has one line of its rule and code.
abbrev pub CodesCountObjects : Type 0
CodesCountObjects =
    (bound : ℕ) (most : Option ℕ) (es : List Entry)
    → All (CountsObject bound most es) (tally same_object (objects (answers (question.Settles bound most) es)))
    × ((e : Entry) → Contains es e → (r : Resolves bound most e) → count_by (λ line. same_object (settled_object bound most e r) line.0) (tally same_object (objects (answers (question.Settles bound most) es))) ≡ 1)
