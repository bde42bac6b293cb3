-- A set that goes on from a start by steps and is never near another.
use Rattle.std.specs.Prelude.{◌≡◌, ℕ, ◌<◌, ◌≤◌, true, pos, List}
use Rattle.life_model.specs.Cell.{Cell, plus}
use Rattle.life_model.specs.Generation.{Generation, contains}
use Rattle.life_objects.specs.Apart.{AreNear}
use Rattle.life_growth.specs.Meeting.Sums.{Step, and_then, rest_after, times}
use Rattle.life_growth.specs.Relations.Relations.{IsSumOf}
use Rattle.life_things.specs.Fields.{IsFieldOf}
use Rattle.life_things.specs.declared.field.Field.{Field}

-- no cell of P, moved by d, is near one of Q
abbrev pub IsClear : Generation → Cell → Generation → Type 0
IsClear P d Q = (c e : Cell) → contains P c ≡ true → contains Q e ≡ true → AreNear (plus c d) e → ⊥

-- the rest of the way from s to the time of Q and to a move by d
abbrev pub left_to : Step → Cell → Step
left_to s d = rest_after (pos 0, d) s

-- Wherever P is at the time of Q, moved by s and then by the steps, each made any number of times, it is not near Q.
abbrev pub StaysClear : Generation → Generation → Step → List Step → Type 0
StaysClear P Q s us = (d : Cell) → IsSumOf us (left_to s d) → IsClear P d Q

-- P stays clear of Q where a step is made first, any number of times from `from` to before `until`
abbrev pub StaysClearBetween : Generation → Generation → Step → Step → List Step → ℕ → ℕ → Type 0
StaysClearBetween P Q s u us from until =
    (n : ℕ) → from ≤ n → n < until → StaysClear P Q (and_then s (times n u)) us

-- P stays clear of Q where a step is made first, fewer times than `from` or at least `until` times
pub record StaysClearOutside (P Q : Generation) (s u : Step) (us : List Step) (from until : ℕ) : Type 0 where
  pub before : (n : ℕ) → n < from → StaysClear P Q (and_then s (times n u)) us
  pub after : (n : ℕ) → until ≤ n → StaysClear P Q (and_then s (times n u)) us

-- all sets that can be near each other only in the field stay clear
abbrev pub IsClearOver : Field → Step → List Step → Type 0
IsClearOver f s us = (P Q : Generation) → IsFieldOf f P Q → StaysClear P Q s us
