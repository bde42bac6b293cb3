-- Rows that are spelled alike and count alike.
use Rattle.std.proofs.Common.{◌≡◌, ◌+◌, Bool, List, [], ◌∷◌, ◌++◌, map, ap, ◌∙◌, sym, refl, arith}
use Rattle.std.proofs.lemmas.List.{map-append}
use Rattle.census_readback.specs.Counts.{Counts, counted_by, line_counted, part_counted}
use Rattle.census_readback.specs.Shapes.{lines_that}
use Rattle.census_rows.specs.Kinds.{said}
use Rattle.census_rows.specs.Lines.{spelling}
use Rattle.census_rows.specs.declared.row.Outcome.{Outcome}
use Rattle.census_rows.specs.declared.row.Row.{Row}
use Rattle.census_rows.specs.declared.row.Row.TheVariants.{Open, Line, Part, Engine, Emits, Code, Close, End}

-- it asks only for the class of an outcome
abbrev pub IsOfClass : (Outcome → Bool) → Type 0
IsOfClass kind = (o p : Outcome) → (said o).class ≡ (said p).class → kind o ≡ kind p

pub record Agree (xs ys : List Row) : Type 0 where
  pub spelled : map spelling xs ≡ map spelling ys
  pub counts : (k : Counts) → counted_by k xs ≡ counted_by k ys
  pub lines : (kind : Outcome → Bool) → IsOfClass kind → lines_that kind xs ≡ lines_that kind ys

pub agree-none : Agree [] []
agree-none = record { spelled = refl; counts = λ k. refl; lines = λ kind same. refl }

pub counted-then : (k : Counts) (xs ys : List Row) → counted_by k (xs ++ ys) ≡ counted_by (counted_by k xs) ys
counted-then k [] ys = refl
counted-then k (Open c n name ∷ xs) ys = counted-then k xs ys
counted-then k (Line c i o name ∷ xs) ys = counted-then (line_counted k (said o)) xs ys
counted-then k (Part c i code n ∷ xs) ys = counted-then (part_counted k code.now n) xs ys
counted-then k (Engine c i e p x y n ∷ xs) ys = counted-then k xs ys
counted-then k (Emits c i e code n ∷ xs) ys = counted-then k xs ys
counted-then k (Code c rule code n ∷ xs) ys = counted-then k xs ys
counted-then k (Close c n a b d ∷ xs) ys = counted-then k xs ys
counted-then k (End n p ∷ xs) ys = counted-then k xs ys

pub lines-then : (kind : Outcome → Bool) (xs ys : List Row) → lines_that kind (xs ++ ys) ≡ lines_that kind xs + lines_that kind ys
lines-then kind [] ys = (let e : lines_that kind ys ≡ 0 + lines_that kind ys = omega arith in e)
lines-then kind (x ∷ xs) ys = (let inner = lines-then kind xs ys in omega (arith, inner))

pub agree-append : (xs ys us vs : List Row) → Agree xs us → Agree ys vs → Agree (xs ++ ys) (us ++ vs)
agree-append xs ys us vs a b = record {
  spelled = map-append spelling xs ys ∙ (λ j. a.spelled j ++ b.spelled j) ∙ sym (map-append spelling us vs);
  counts = λ k. counted-then k xs ys ∙ b.counts (counted_by k xs) ∙ ap (λ z. counted_by z vs) (a.counts k) ∙ sym (counted-then k us vs);
  lines = λ kind same. lines-then kind xs ys ∙ (λ j. a.lines kind same j + b.lines kind same j) ∙ sym (lines-then kind us vs);
}

-- one row, and others after it
pub agree-one : (r q : Row) (rs qs : List Row) → Agree (r ∷ []) (q ∷ []) → Agree rs qs → Agree (r ∷ rs) (q ∷ qs)
agree-one r q rs qs a b = agree-append (r ∷ []) rs (q ∷ []) qs a b
