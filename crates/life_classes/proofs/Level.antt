-- Tags of one row, each joined with the tag before it if that is near.
use Rattle.std.proofs.Common.{◌≡◌, ℕ, zero, suc, ◌-◌, ◌<◌, ◌≤◌, ℤ, pos, ◌+ℤ◌, ◌-ℤ◌, ◌≤ℤ◌, List, length, get_or, inl, inr, sym, ap, ◌∙◌, arith}
use Rattle.std.proofs.lemmas.Bool.{cases_lt}
use Rattle.std.proofs.lemmas.Int.{ints}
use Rattle.life_classes.specs.declared.tags.Tag.{Tag}
use Rattle.life_classes.specs.Forest.{root}
use Rattle.life_classes.specs.Tags.{AreRisingTags}
use Rattle.life_classes.specs.Ties.{IsTiedAround}

abbrev pub no_tag : Tag
no_tag = record { number = pos 0; label = 0 }

abbrev pub number_of_tag : List Tag → ℕ → ℤ
number_of_tag ts k = (get_or ts k no_tag).number

abbrev pub root_of_tag : List Tag → List ℕ → ℕ → ℕ
root_of_tag ts f k = root f (get_or ts k no_tag).label

-- each tag is joined with the next, if their numbers are at most two apart
abbrev pub AreJoinedInRows : List Tag → List ℕ → Type 0
AreJoinedInRows ts f =
    (k : ℕ) → suc k < length ts → number_of_tag ts (suc k) ≤ℤ (number_of_tag ts k +ℤ pos 2) →
    root_of_tag ts f k ≡ root_of_tag ts f (suc k)

module _ (ts : List Tag) (f : List ℕ) (rise : AreRisingTags ts) (joined : AreJoinedInRows ts f) where
  -- a row of tags, each at most two from the one before it
  pub level : (i j : ℕ) → i ≤ j → j < length ts → number_of_tag ts j ≤ℤ (number_of_tag ts i +ℤ pos 2) →
      root_of_tag ts f i ≡ root_of_tag ts f j
  level i zero le h near = ap (root_of_tag ts f) (let z : i ≡ 0 = omega arith in z)
  level i (suc j) le h near = elim (cases_lt j i) [
    | inl here ↦ ap (root_of_tag ts f) (let z : i ≡ suc j = omega arith in z)
    | inr more ↦
        let up = rise i j no_tag more (omega arith) in
        let on = rise j (suc j) no_tag (omega arith) h in
        level i j more (omega arith) (omega (arith, ints)) ∙ joined j h (omega (arith, ints))
  ]

  pub around_one : (k n : ℕ) (low : ℤ) → IsTiedAround ts f n low → k < length ts → (low -ℤ pos 2) ≤ℤ number_of_tag ts k →
      number_of_tag ts k ≤ℤ (low +ℤ pos 2) → root_of_tag ts f k ≡ root_of_tag ts f n
  around_one k n low w h from to = elim (cases_lt k w.place) [
    | inl before ↦
        let p = w.place - 1 in
        let inside = w.within in
        let up = rise k p no_tag (omega arith) (omega arith) in
        let less = w.less p no_tag (omega arith) (omega arith) in
        level k p (omega arith) (omega arith) (omega (arith, ints))
        ∙ w.last no_tag (omega arith) (omega (arith, ints)) no_tag no_tag
    | inr after ↦
        let least = w.least w.place no_tag (omega arith) (omega arith) in
        let up = rise w.place k no_tag after h in
        sym (level w.place k after h (omega (arith, ints))) ∙ w.next no_tag (omega arith) (omega (arith, ints)) no_tag no_tag
  ]
