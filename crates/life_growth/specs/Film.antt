-- Classes found backwards, from one generation to the one before.
use Rattle.std.specs.Prelude.{◌≡◌, ◌≢◌, true, List}
use Rattle.std.specs.List.{All, AllPairs, Contains}
use Rattle.life_model.specs.Cell.{Cell}
use Rattle.life_model.specs.Rule.{Rule}
use Rattle.life_model.specs.Generation.{Generation, contains, empty}
use Rattle.life_model.specs.Evolution.{next}
use Rattle.life_objects.specs.Apart.{AreApart}
use Rattle.life_objects.specs.Union.{union_of}

-- Two cells are linked if they are in one of the pieces, or in pieces that each bear a cell of one of the sets Qs.
pub data AreLinked (R : Rule) (pieces Qs : List Generation) : Cell → Cell → Type 0 where
  itself : (c : Cell) → AreLinked R pieces Qs c c
  swapped : (c d : Cell) → AreLinked R pieces Qs c d → AreLinked R pieces Qs d c
  through : (c d e : Cell) → AreLinked R pieces Qs c d → AreLinked R pieces Qs d e → AreLinked R pieces Qs c e
  within : (N : Generation) (c d : Cell) → Contains pieces N → contains N c ≡ true → contains N d ≡ true →
      AreLinked R pieces Qs c d
  bearing : (Q N M : Generation) (c d q r : Cell) → Contains Qs Q → Contains pieces N → Contains pieces M →
      contains N c ≡ true → contains M d ≡ true → contains (next R N) q ≡ true → contains (next R M) r ≡ true →
      contains Q q ≡ true → contains Q r ≡ true → AreLinked R pieces Qs c d

-- P and O are apart, and bear no cells of one set of Qs.
pub record AreSeparate (R : Rule) (Qs : List Generation) (P O : Generation) : Type 0 where
  pub now : AreApart P O
  pub later : (Q : Generation) (q r : Cell) → Contains Qs Q → contains (next R P) q ≡ true →
      contains (next R O) r ≡ true → contains Q q ≡ true → contains Q r ≡ true → ⊥

-- The sets make up G, each of linked cells, and any two of them are separate.
pub record AreJoined (R : Rule) (G : Generation) (pieces Qs Ps : List Generation) : Type 0 where
  pub together : union_of Ps ≡ G
  pub nonempty : All (λ P. P ≢ empty) Ps
  pub linked : (P : Generation) (c d : Cell) → Contains Ps P → contains P c ≡ true → contains P d ≡ true →
      AreLinked R pieces Qs c d
  pub separate : AllPairs (AreSeparate R Qs) Ps
