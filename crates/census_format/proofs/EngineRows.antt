-- The rows of engines, one after another.
use Rattle.std.proofs.Common.{◌≡◌, ℕ, suc, ◌+◌, ◌<◌, List, [], ◌∷◌, ◌++◌, length, take, Some, sym, ap, ◌∙◌, arith, append_assoc, append-nil, slice_get}
use Rattle.std.proofs.lemmas.List.{length-take}
use Rattle.life_answer.specs.declared.tale.Engines.{Engines}
use Rattle.census_rows.specs.Lines.{text_of}
use Rattle.census_rows.proofs.Texts.{text-append}
use Rattle.census_format.specs.Lines.{engine_rows, rows_of_engines}
use Rattle.life_answer.proofs.Taken.{take_one_more}

module _ (c i : ℕ) where
  rows-append : (e : ℕ) (lines : List Engines) (engines : Engines) →
      rows_of_engines c i e (lines ++ engines ∷ [])
      ≡ rows_of_engines c i e lines ++ engine_rows c i (e + length lines) engines
  rows-append e [] engines =
      append-nil (engine_rows c i e engines)
      ∙ ap (λ n. engine_rows c i n engines) (let same : e ≡ e + 0 = omega arith in same)
  rows-append e (line ∷ lines) engines =
      ap (λ rows. engine_rows c i e line ++ rows)
      (rows-append (suc e) lines engines
      ∙ ap (λ n. rows_of_engines c i (suc e) lines ++ engine_rows c i n engines)
      (let same : suc e + length lines ≡ e + length (line ∷ lines) = omega arith in same))
      ∙ sym (append_assoc (engine_rows c i e line) (rows_of_engines c i (suc e) lines)
      (engine_rows c i (e + length (line ∷ lines)) engines))

  -- one more line
  pub rows_taken : (lines : List Engines) (n : ℕ) (engines : Engines) → n < length lines → slice_get lines n ≡ Some engines →
      text_of (rows_of_engines c i 1 (take (n + 1) lines))
      ≡ text_of (rows_of_engines c i 1 (take n lines)) ++ text_of (engine_rows c i (n + 1) engines)
  rows_taken lines n engines below at =
      let long : length (take n lines) ≡ n = let e = length-take n lines in omega arith in
      ap (λ ls. text_of (rows_of_engines c i 1 ls)) (take_one_more lines n engines at)
      ∙ ap text_of (rows-append 1 (take n lines) engines
      ∙ ap (λ k. rows_of_engines c i 1 (take n lines) ++ engine_rows c i k engines)
      (let same : 1 + length (take n lines) ≡ n + 1 = omega arith in same))
      ∙ text-append (rows_of_engines c i 1 (take n lines)) (engine_rows c i (n + 1) engines)
