-- How many of the sets that a pattern counts as, if it falls apart, are one object with a given set.
use Rattle.std.specs.Prelude.{◌≡◌, ℕ, ◌*◌, Bool, false, List, Option, Ok, count_by}
use Rattle.std.specs.Bool.{Decides}
use Rattle.std.specs.List.{Contains}
use Rattle.census_bundle.specs.declared.bundle.Entry.{Entry}
use Rattle.life_answer.specs.Counted.{counted_of}
use Rattle.life_answer.specs.Limited.{StaysWithin}
use Rattle.life_model.specs.Generation.{Generation}
use Rattle.life_model.specs.Recurrence.{AreOneObject}
use Rattle.life_model.specs.Rule.{Rule}
use Rattle.life_objects.specs.Ash.{HasFallenApart}
use Rattle.life_text.specs.Picture.{picture_of}
use Rattle.life_text.specs.Rle.{reading}

-- The pattern isn't lost. It is a set of cells under a rule whose generation at the bound is ash of these parts, and none of
-- its generations up to three times the bound is too large.
pub record FallsApart (bound : ℕ) (most : Option ℕ) (e : Entry) : Type 0 where
  pub rule : Rule
  pub cells : Generation
  pub kept : e.is_lost ≡ false
  pub reads : picture_of (reading e.text) ≡ Ok (record { rule = rule; cells = cells })
  pub parts : List Generation
  pub ash : HasFallenApart rule bound cells parts
  pub small : StaysWithin most rule cells (3 * bound)

-- what it counts as: its objects, if what is near one another is one object, otherwise the independent parts of each
abbrev pub counted_sets : (near : Bool) (bound : ℕ) (most : Option ℕ) (e : Entry) → FallsApart bound most e → List Generation
counted_sets near bound most e f = counted_of near f.rule bound f.parts

-- n of these parts are one object with P
pub record AreCounted (R : Rule) (P : Generation) (parts : List Generation) (n : ℕ) : Type 0 where
  pub test : Generation → Bool
  pub tells : (Q : Generation) → Contains parts Q → Decides (test Q) (AreOneObject R Q P)
  pub count : n ≡ count_by test parts

-- n is how many of the sets that the pattern counts as are one object with P, if it falls apart under this rule. Otherwise n is
-- 0.
pub record CountsIn (near : Bool) (bound : ℕ) (most : Option ℕ) (R : Rule) (P : Generation) (e : Entry) (n : ℕ) : Type 0 where
  pub fallen : (f : FallsApart bound most e) → f.rule ≡ R → AreCounted R P (counted_sets near bound most e f) n
  pub zero : ((f : FallsApart bound most e) → f.rule ≡ R → ⊥) → n ≡ 0
