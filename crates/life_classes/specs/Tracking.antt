-- Classes that are followed from generation to generation.
use Rattle.std.specs.Prelude.{◌≡◌, ◌≢◌, ℕ, ◌≤◌, List, [], ◌∷◌, ◌++◌, map}
use Rattle.std.specs.List.{All, AllPairs}
use Rattle.life_model.specs.Cell.{Cell}
use Rattle.life_model.specs.Rule.{Rule}
use Rattle.life_model.specs.Generation.{Generation, empty, from_list, keep}
use Rattle.life_model.specs.Evolution.{generation}
use Rattle.life_objects.specs.Apart.{AreApart, AreApartBefore}
use Rattle.life_objects.specs.Union.{union_of}
use Rattle.life_objects.specs.Whole.{StaysWhole}
use Rattle.life_classes.specs.declared.class.Class.{Class}
use Rattle.life_classes.specs.Nearness.{reaches}

abbrev pub first_sets : List Class → List Generation
first_sets cs = map (λ c. c.first) cs

abbrev pub last_sets : List Class → List Generation
last_sets cs = map (λ c. c.last) cs

-- the class of some cells at the start
abbrev pub at_first : List Cell → Class
at_first cs = record { first = from_list cs; last = from_list cs }

-- the class of one cell
abbrev pub class_of_cell : Cell → Class
class_of_cell c = record { first = from_list (c ∷ []); last = from_list (c ∷ []) }

-- a class one generation later, if G has all cells of that generation
abbrev pub moved_on : Generation → Class → Class
moved_on G c = record { first = c.first; last = keep G (reaches 1 c.last) }

-- a class n generations later, if no other class influences it
abbrev pub after : Rule → ℕ → Class → Class
after R n c = record { first = c.first; last = generation R c.last n }

-- the last cells of any two classes are apart
abbrev pub AreApartNow : List Class → Type 0
AreApartNow cs = AllPairs (λ c d. AreApart c.last d.last) cs

-- The first cells of the classes together are G, and their last cells are what has become of them n generations
-- later. Any two classes were apart in each generation before that, and no split for b generations tears one of them.
pub record AreTracked (R : Rule) (b n : ℕ) (G : Generation) (cs : List Class) : Type 0 where
  pub together : union_of (first_sets cs) ≡ G
  pub whole : All (λ c. StaysWhole R b G c.first) cs
  pub before : AllPairs (λ c d. AreApartBefore R n c.first d.first) cs
  pub later : All (λ c. c.last ≡ generation R c.first n) cs

-- at most one class has a cell left
abbrev pub AreFew : List Class → Type 0
AreFew cs = AllPairs (λ c d. c.last ≢ empty → d.last ≢ empty → ⊥) cs

-- among any other classes, the first list may be replaced by the second
abbrev pub LeadTo : List Class → List Class → Type 0
LeadTo cs ds =
    (R : Rule) (b n : ℕ) (G : Generation) (rest : List Class) → n ≤ b → AreTracked R b n G (cs ++ rest) →
    AreTracked R b n G (ds ++ rest)
