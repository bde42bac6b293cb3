-- What falls apart: unions, later generations, greater bounds and moves of it.
use Rattle.std.proofs.Common.{◌≡◌, ◌≢◌, ℕ, ◌+◌, ◌-◌, ◌≤◌, List, [], ◌∷◌, ◌++◌, map, inl, inr, sym, ap, subst, ◌∙◌, arith}
use Rattle.std.specs.List.{Contains}
use Rattle.std.proofs.lemmas.List.Elements.{All-append, All-map, All-weaker}
use Rattle.life_model.specs.Cell.{Cell, opposite}
use Rattle.life_model.specs.Rule.{Rule}
use Rattle.life_model.specs.Generation.{Generation, contains, empty}
use Rattle.life_model.specs.Evolution.{generation, next}
use Rattle.life_model.specs.Symmetry.{translate_of}
use Rattle.life_model.proofs.Moves.{moved-empty, nothing_or_some}
use Rattle.life_model.proofs.Recurrences.{generation-add, generation-next, generation-zero}
use Rattle.life_model.proofs.Symmetries.{generation-moved}
use Rattle.life_objects.specs.Apart.{AreApartForEver}
use Rattle.life_objects.specs.Ash.{HasFallenApart, IsAsh, IsObject}
use Rattle.life_objects.specs.Piece.{IsUndivided, LivesThrough}
use Rattle.life_objects.specs.Union.{generations, union, union_of}
use Rattle.life_objects.proofs.Ashes.{AreApartForEver-later, IsAsh-bound, IsAsh-empty, IsAsh-later, object_lives, object_of}
use Rattle.life_objects.proofs.Lists.{AllPairs-append, AllPairs-map, AllPairs-weaker}
use Rattle.life_objects.proofs.Members.{found_now}
use Rattle.life_objects.proofs.Moving.{IsUndivided-moved, apart_moved_at, union-moved}
use Rattle.life_objects.proofs.OneList.{apart_from_rest, in_whole, rest_of, with_rest}
use Rattle.life_objects.proofs.Recurring.{RecursBy-moved, moved_back}
use Rattle.life_objects.proofs.Times.{generation-empty, generation-union_ever}
use Rattle.life_objects.proofs.Unions.{in_empty, union_of-append}
use Rattle.life_growth.specs.Engine.{FallsApart}
use Rattle.life_growth.proofs.Parts.{IsPart, apart_part, part_apart}

-- each set, moved by d
abbrev pub all_moved : List Generation → Cell → List Generation
all_moved Ps d = map (λ P. translate_of P d) Ps

union_of-moved : (Ps : List Generation) (d : Cell) → union_of (all_moved Ps d) ≡ translate_of (union_of Ps) d
union_of-moved [] d = sym (moved-empty d)
union_of-moved (P ∷ Ps) d = ap (union (translate_of P d)) (union_of-moved Ps d) ∙ sym (union-moved P (union_of Ps) d)

module _ (R : Rule) where
  -- ---- unions

  pub IsPart-ash : (b : ℕ) (G : Generation) (parts : List Generation) → IsAsh R b G parts → (P : Generation) →
      Contains parts P → IsPart R P G
  IsPart-ash b G parts ash P one = record {
    rest = rest_of R b G parts ash P one;
    together = with_rest R b G parts ash P one;
    apart = apart_from_rest R b G parts ash P one;
  }

  module _ (b : ℕ) (G H : Generation) (Ps Qs : List Generation) where
    IsAsh-both : IsAsh R b G Ps → IsAsh R b H Qs → AreApartForEver R G H → IsAsh R b (union G H) (Ps ++ Qs)
    IsAsh-both ash too far = record {
      together = union_of-append Ps Qs ∙ (λ i. union (ash.together i) (too.together i));
      apart = AllPairs-append (AreApartForEver R) Ps Qs ash.apart too.apart
          (λ P Q one two. part_apart R P G Q (IsPart-ash b G Ps ash P one)
          (apart_part R Q H G (IsPart-ash b H Qs too Q two) far));
      objects = All-append (IsObject R b) Ps Qs ash.objects too.objects;
    }

  pub settles_together : (b : ℕ) (P Q : Generation) (Ps Qs : List Generation) → AreApartForEver R P Q →
      HasFallenApart R b P Ps → HasFallenApart R b Q Qs → HasFallenApart R b (union P Q) (Ps ++ Qs)
  settles_together b P Q Ps Qs far ash too =
      subst (λ H. IsAsh R b H (Ps ++ Qs)) (sym (generation-union_ever R b P Q far))
      (IsAsh-both b (generation R P b) (generation R Q b) Ps Qs ash too (AreApartForEver-later R b P Q far))

  -- ---- time

  pub settles_later : (b n : ℕ) (P : Generation) (parts : List Generation) → HasFallenApart R b P parts →
      HasFallenApart R b (generation R P n) (generations R parts n)
  settles_later b n P parts ash =
      subst (λ H. IsAsh R b H (generations R parts n))
      (generation-add R P b n ∙ ap (generation R P) (let e : b + n ≡ n + b = omega arith in e) ∙ sym (generation-add R P n b))
      (IsAsh-later R b (generation R P b) parts ash n)

  pub settles_next : (b : ℕ) (P : Generation) (parts : List Generation) → HasFallenApart R b P parts →
      HasFallenApart R b (next R P) (generations R parts 1)
  settles_next b P parts ash =
      subst (λ H. HasFallenApart R b H (generations R parts 1))
      (ap (generation R P) (let e : 1 ≡ 0 + 1 = omega arith in e) ∙ generation-next R P 0 ∙ ap (next R) (generation-zero R P))
      (settles_later b 1 P parts ash)

  pub FallsApart-wider : (b c : ℕ) (P : Generation) → b ≤ c → FallsApart R b P → FallsApart R c P
  FallsApart-wider b c P le settles = (generations R settles.0 (c - b), IsAsh-bound R b c P settles.0 le settles.1)

  pub settles_empty : (b : ℕ) → HasFallenApart R b empty []
  settles_empty b = subst (λ H. IsAsh R b H []) (sym (generation-empty R b)) (IsAsh-empty R b)

  -- what has fallen apart into something lives for ever
  pub lives_on : (b : ℕ) (P : Generation) → FallsApart R b P → LivesThrough R b P → (n : ℕ) → generation R P n ≢ empty
  lives_on b P settles lives n gone =
      elim (nothing_or_some (generation R P b)) [
        | inl none ↦ lives none
        | inr some ↦
            let H = generation R P b in
            let ash = settles.1 in
            let Q = found_now R settles.0 some.0 (ap (λ K. contains K some.0) ash.together ∙ some.1) in
            let dead : generation R H n ≡ empty =
            generation-add R P b n ∙ ap (generation R P) (let e : b + n ≡ n + b = omega arith in e)
            ∙ sym (generation-add R P n b) ∙ ap (λ K. generation R K b) gone ∙ generation-empty R b in
            elim (nothing_or_some (generation R Q.0 n)) [
              | inl nothing ↦ object_lives R b Q.0 (object_of R b H settles.0 ash Q.0 Q.1) n nothing
              | inr cell ↦ in_empty cell.0
                  (ap (λ K. contains K cell.0) (sym dead) ∙ in_whole R b H settles.0 ash Q.0 Q.1 n cell.0 cell.1)
            ]
      ]

  -- ---- moves

  pub AreApartForEver-moved : (d : Cell) (P Q : Generation) → AreApartForEver R P Q →
      AreApartForEver R (translate_of P d) (translate_of Q d)
  AreApartForEver-moved d P Q far n = apart_moved_at R n P Q d (far n)

  pub nonempty_moved : (P : Generation) (d : Cell) → P ≢ empty → translate_of P d ≢ empty
  nonempty_moved P d some gone =
      some (sym (moved_back P d) ∙ ap (λ H. translate_of H (opposite d)) gone ∙ moved-empty (opposite d))

  IsObject-moved : (b : ℕ) (d : Cell) (P : Generation) → IsObject R b P → IsObject R b (translate_of P d)
  IsObject-moved b d P object = record {
    nonempty = nonempty_moved P d object.nonempty;
    recurs = record {
      steps = object.recurs.steps;
      by = object.recurs.by;
      within = object.recurs.within;
      recurs = RecursBy-moved R P object.recurs.steps object.recurs.by d object.recurs.recurs;
    };
    whole = λ n. subst (IsUndivided R b) (sym (generation-moved R P d n))
        (IsUndivided-moved R b (generation R P n) d (object.whole n));
  }

  pub settles_moved : (b : ℕ) (d : Cell) (P : Generation) (parts : List Generation) → HasFallenApart R b P parts →
      HasFallenApart R b (translate_of P d) (all_moved parts d)
  settles_moved b d P parts ash = record {
    together = union_of-moved parts d ∙ ap (λ H. translate_of H d) ash.together ∙ sym (generation-moved R P d b);
    apart = AllPairs-map (AreApartForEver R) (λ P. translate_of P d) parts
        (AllPairs-weaker (AreApartForEver R) (λ P Q. AreApartForEver R (translate_of P d) (translate_of Q d))
        (AreApartForEver-moved d) parts ash.apart);
    objects = All-map (IsObject R b) (λ P. translate_of P d) parts
        (All-weaker (IsObject R b) (λ P. IsObject R b (translate_of P d)) (IsObject-moved b d) parts ash.objects);
  }
