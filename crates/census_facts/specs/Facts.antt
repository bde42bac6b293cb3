-- Facts about a pattern.
use Rattle.std.specs.Prelude.{ℕ, ℤ, List, map}
use Rattle.life_answer.specs.declared.part.Part.{Part}
use Rattle.life_answer.specs.declared.tale.Engines.{Engines}
use Rattle.census_facts.specs.declared.fact.Fact.{Fact}
use Rattle.census_facts.specs.declared.fact.Worth.{Worth}
use Rattle.census_facts.specs.declared.fact.Worth.TheVariants as worth

-- a number, a width and a height, a displacement to the right and down, bytes, parts, or engines
pub data Content : Type 0 where
  number : ℕ → Content
  size : ℕ → ℕ → Content
  moves : ℤ → ℤ → Content
  text : List ℕ → Content
  parts : List Part → Content
  engines : List Engines → Content

-- a name, and the content that is reported under it
pub record Thing : Type 0 where
  pub name : List ℕ
  pub content : Content

abbrev pub thing : List ℕ → Content → Thing
thing name content = record { name = name; content = content }

abbrev pub content_of : Worth → Content
content_of (worth.Number n) = number n
content_of (worth.Size width height) = size width height
content_of (worth.Moves dx dy) = moves dx dy
content_of (worth.Text bytes) = text bytes.now
content_of (worth.Parts list) = parts list.now
content_of (worth.Engines list) = engines list.now

abbrev pub thing_of : Fact → Thing
thing_of fact = thing fact.name.now (content_of fact.worth)

abbrev pub things_in : List Fact → List Thing
things_in facts = map thing_of facts
