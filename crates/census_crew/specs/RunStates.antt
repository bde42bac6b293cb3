-- The state of a run.
use mathlib.Core.HLevel.{Unit-prop}
use denote.Struct.Props as logic
use Rattle.census_bundle.specs.Sizes.{IsWithinCounts}
use Rattle.census_book.specs.Progress.{Progress}
use Rattle.census_crew.specs.declared.tally.Tally.{Tally}
use Rattle.census_crew.specs.Tallying.{TalliesTaken}
use Rattle.life_answer.specs.Questions.{HasHorizon, IsAnswered}
use Rattle.life_answer.specs.declared.question.Question.{Question}
use Rattle.life_answer.specs.declared.question.Question.TheVariants.{Objects, Settles}

-- the collector's bundle is small, its question has a bound that is answered, and the patterns that it took were counted
pub record IsRunState (p : Progress) (t : Tally) : Type 0 where
  pub small : IsWithinCounts p.bundle
  pub lawful : IsAnswered p.question
  pub counted : TalliesTaken t p.bundle p.question p.taken

-- there is at most one proof of it
HasHorizon-prop : (question : Question) → IsProp (HasHorizon question)
HasHorizon-prop (Settles bound cells) = Unit-prop
HasHorizon-prop (Objects bound cells near horizon) = Prim.hlevel logic.props

pub IsRunState-prop : (p : Progress) (t : Tally) → IsProp (IsRunState p t)
IsRunState-prop p t = Prim.hlevel (HasHorizon-prop, logic.props)
