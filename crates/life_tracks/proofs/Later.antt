-- The lines to the classes of a generation, from those to the classes of the one before.
use Rattle.std.proofs.Common.{◌≡◌, ℕ, suc, ◌<◌, List, length, get_or, sym, ap, subst, arith}
use Rattle.life_model.specs.Generation.{Generation, empty}
use Rattle.life_tracks.specs.declared.lines.Line.{Line}
use Rattle.life_tracks.specs.Lines.{AreLines, AreLinked, GoesOn, IsLine}
use Rattle.life_tracks.proofs.Ancestors.{ancestor-within}
use Rattle.life_tracks.proofs.GoingOn.{line_goes_on}

module _ (frames : ℕ → List Generation) (borne : ℕ → List ℕ) (T t : ℕ) (linked : AreLinked frames borne T) (within : t < T)
    (lines : List Line) (known : AreLines frames borne t lines) (firsts classes : List Generation) (parents : List ℕ)
    (firsts_are : firsts ≡ frames 0) (classes_are : classes ≡ frames (suc t)) (parents_are : parents ≡ borne t) where
  pub as_many : length parents ≡ length classes
  as_many =
      let count = linked.count t within in
      let first = ap length parents_are in
      let second = ap length classes_are in
      omega arith

  module _ (place : ℕ) (inside : place < length classes) where
    there : place < length (frames (suc t))
    there = let same = ap length classes_are in omega arith

    pub parent_within : get_or parents place 0 < length lines
    parent_within =
        let same = ap (λ ps. get_or ps place 0) parents_are in
        let low = linked.within t place within there in
        let long = known.count in
        omega arith

    module _ (d : Line) where
      abbrev before : Line
      before = get_or lines (get_or parents place 0) d

      known_line : IsLine frames borne t (get_or (borne t) place 0) before
      known_line =
          subst (λ ps. IsLine frames borne t (get_or (borne t) place 0) (get_or lines (get_or ps place 0) d)) (sym parents_are)
          (known.each (get_or (borne t) place 0) d (linked.within t place within there))

      pub origin_within : before.origin < length firsts
      origin_within =
          let same = ap length firsts_are in
          let first = known_line.origin in
          let low = ancestor-within borne frames T linked t (get_or (borne t) place 0) 0 (omega arith)
          (linked.within t place within there) (omega arith) in
          omega arith

      pub line_later : (after : Line) →
          GoesOn parents (get_or firsts before.origin empty) (get_or classes place empty) place before after →
          IsLine frames borne (suc t) place after
      line_later after on =
          line_goes_on frames borne t place (get_or firsts before.origin empty) (get_or classes place empty) before after
          known_line
          (subst (λ ps. GoesOn ps (get_or firsts before.origin empty) (get_or classes place empty) place before after)
          parents_are on)
          (λ i. get_or (firsts_are i) (known_line.origin i) empty) (λ i. get_or (classes_are i) place empty) there
