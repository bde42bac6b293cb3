-- Two things never meet where one stays clear of the other by the ways of both.
use Rattle.std.proofs.Common.{◌≡◌, ℕ, pos, ◌-ℤ◌, List, true, sym, ap, subst, ◌∙◌, arith}
use Rattle.std.proofs.lemmas.Int.{ints}
use Rattle.life_model.specs.Cell.{Cell, opposite, origin, plus}
use Rattle.life_model.specs.Generation.{Generation, contains}
use Rattle.life_model.specs.Symmetry.{translate_of}
use Rattle.life_model.proofs.Cells.{pair}
use Rattle.life_model.proofs.Symmetries.{contains-moved}
use Rattle.life_objects.specs.Apart.{AreNear}
use Rattle.life_objects.proofs.Distances.{AreNear-alike}
use Rattle.life_growth.specs.Things.{NeverMeet, Thing, move_of, time_then}
use Rattle.life_growth.specs.Meeting.Meeting.{steps_between}
use Rattle.life_growth.specs.Meeting.Sums.{Step, and_then}
use Rattle.life_growth.proofs.MeetingLemmas.Meeting.{back, forth, joined, parted}
use Rattle.life_growth.proofs.MeetingLemmas.Reach.{step_is}
use Rattle.life_things.specs.Clear.{StaysClear, left_to}

module _ (A B : Thing) where
  -- how much later the one stands than the other, in one place
  abbrev pub start_of : Step
  start_of = (pos A.time -ℤ pos B.time, origin)

  moved_there : (P : Generation) (c m : Cell) → contains P c ≡ true → contains (translate_of P m) (plus c m) ≡ true
  moved_there P c m of =
      contains-moved P m (plus c m) ∙ ap (contains P) (pair (omega (arith, ints)) (omega (arith, ints))) ∙ of

  module _ (k l : List ℕ) where
    abbrev m : Cell
    m = move_of A.ways k

    abbrev n : Cell
    n = move_of B.ways l

    together : time_then A k ≡ time_then B l → and_then (forth A.ways k) (back B.ways l) ≡ left_to start_of (plus m (opposite n))
    together e =
        step_is (and_then (forth A.ways k) (back B.ways l)) (left_to start_of (plus m (opposite n))) (omega (arith, ints))
        (omega (arith, ints)) (omega (arith, ints))

    same_time : (d : Cell) → and_then (forth A.ways k) (back B.ways l) ≡ left_to start_of d → time_then A k ≡ time_then B l
    same_time d e = let t = ap (λ (u : Step). u.0) e in omega (arith, ints)

    near_there : (c e d : Cell) → and_then (forth A.ways k) (back B.ways l) ≡ left_to start_of d → AreNear (plus c d) e →
        AreNear (plus c m) (plus e n)
    near_there c e d same near =
        let x = ap (λ (u : Step). u.1.0) same in
        let y = ap (λ (u : Step). u.1.1) same in
        AreNear-alike (plus c d) e (plus c m) (plus e n) (omega (arith, ints)) (omega (arith, ints)) near

    near_here : (g f : Cell) → AreNear g f → AreNear (plus (plus g (opposite m)) (plus m (opposite n))) (plus f (opposite n))
    near_here g f near =
        AreNear-alike g f (plus (plus g (opposite m)) (plus m (opposite n))) (plus f (opposite n)) (omega (arith, ints))
        (omega (arith, ints)) near

  pub never_by_clear : StaysClear A.set B.set start_of (steps_between A B) → NeverMeet A B
  never_by_clear clear k l e g f in_g in_f near =
      let q = joined A.ways B.ways k l in
      clear (plus (move_of A.ways k) (opposite (move_of B.ways l))) (q.0, q.1 ∙ together k l e)
      (plus g (opposite (move_of A.ways k))) (plus f (opposite (move_of B.ways l)))
      (sym (contains-moved A.set (move_of A.ways k) g) ∙ in_g) (sym (contains-moved B.set (move_of B.ways l) f) ∙ in_f)
      (near_here k l g f near)

  pub clear_by_never : NeverMeet A B → StaysClear A.set B.set start_of (steps_between A B)
  clear_by_never never d sum c e in_A in_B near =
      let q = parted A.ways B.ways sum.0 in
      let same : and_then (forth A.ways q.0) (back B.ways q.1) ≡ left_to start_of d = sym q.2 ∙ sum.1 in
      never q.0 q.1 (same_time q.0 q.1 d same) (plus c (move_of A.ways q.0)) (plus e (move_of B.ways q.1))
      (moved_there A.set c (move_of A.ways q.0) in_A) (moved_there B.set e (move_of B.ways q.1) in_B)
      (near_there q.0 q.1 c e d same near)

  -- never to meet is to stay clear, for what the machine has for these
  module _ (P Q : Generation) (s : Step) (us : List Step) (p : P ≡ A.set) (q : Q ≡ B.set) (r : s ≡ start_of)
      (t : us ≡ steps_between A B) where
    abbrev All : Type 0
    All = Generation × (Generation × (Step × List Step))

    abbrev Clear : All → Type 0
    Clear x = StaysClear x.0 x.1.0 x.1.1.0 x.1.1.1

    same : ◌≡◌ {A = All} (P, (Q, (s, us))) (A.set, (B.set, (start_of, steps_between A B)))
    same = λ i. (p i, (q i, (r i, t i)))

    pub never_by_machine : StaysClear P Q s us → NeverMeet A B
    never_by_machine clear = never_by_clear (subst Clear same clear)

    pub machine_by_never : NeverMeet A B → StaysClear P Q s us
    machine_by_never never = subst Clear (sym same) (clear_by_never never)
