-- What is counted of what leaves an engine is reported as what it emits.
use Rattle.std.proofs.Common.{◌≡◌, ℕ, zero, suc, ◌+◌, ◌-◌, ◌<◌, ◌≤◌, Bool, List, [], ◌∷◌, ◌++◌, length, take, count_by, sym, refl, ap, subst, ◌∙◌, arith}
use Rattle.std.specs.List.{All}
use Rattle.std.proofs.lemmas.Grind.{flat_map-append}
use Rattle.std.proofs.lemmas.List.{append-nil, map-append, take_all, take_more}
use Rattle.std.proofs.lemmas.List.Elements.{All-append, All-cons, All-from_get_or, All-head, All-map, All-nil, All-tail}
use Rattle.life_model.specs.Generation.{Generation}
use Rattle.life_model.specs.Rule.{Rule}
use Rattle.life_objects.specs.Ash.{IsObject}
use Rattle.life_objects.specs.Kinds.{AreAlike}
use Rattle.life_objects.specs.Union.{generations}
use Rattle.life_objects.proofs.Many.{generations-zero}
use Rattle.life_growth.specs.Engine.{Emits, Way, joined}
use Rattle.life_growth.proofs.Alike.{count_joined, sum_to-alike}
use Rattle.life_answer.specs.Census.{counted_parts}
use Rattle.life_answer.specs.Tales.{tale_of}
use Rattle.life_answer.specs.declared.part.Part.{Part}
use Rattle.life_answer.proofs.AlikeCounts.{counted_alike}
use Rattle.life_answer.proofs.Tales.{emits_objects, tale_right}
use Rattle.life_apart.specs.Sets.{IsCourseBy, sets_of}
use Rattle.life_orbit.specs.Course.{Course}
use Rattle.life_growing.specs.Settled.Settling.{IsSettling, Settling}
use Rattle.life_growing.proofs.SettlingLemmas.Parting.{parts_are_alike, parts_by_then}
use Rattle.life_tracks.specs.Tracks.{way_of}
use Rattle.life_growing.specs.Emissions.{Emission, IsEmission, left_at, nothing_left}
use Rattle.life_census.specs.Counted.{AreCounted}
use Rattle.life_census.specs.Emitted.{parts_of_each}

-- what holds of each part of each holds of all
all_parts : (P : Course → Type 0) (lefts : List Settling) → All (λ left. All P left.parts) lefts → All P (parts_of_each lefts)
all_parts P [] each = All-nil P
all_parts P (left ∷ lefts) each =
    All-append P left.parts (parts_of_each lefts) (All-head (λ l. All P l.parts) left lefts each)
    (all_parts P lefts (All-tail (λ l. All P l.parts) left lefts each))

-- the sets of the parts of what leaves in a step
abbrev pub sets_left : List Settling → ℕ → List Generation
sets_left lefts n = sets_of (left_at lefts n).parts

-- step by step
sets_joined : (lefts : List Settling) (n : ℕ) → n ≤ length lefts →
    sets_of (parts_of_each (take n lefts)) ≡ joined (sets_left lefts) n
sets_joined lefts zero h = refl
sets_joined lefts (suc n) h =
    let last = left_at lefts n in
    ap (λ ls. sets_of (parts_of_each ls))
    (ap (λ k. take k lefts) (let e : suc n ≡ n + 1 = omega arith in e) ∙ take_more lefts n nothing_left (omega arith))
    ∙ ap sets_of (flat_map-append (λ (l : Settling). l.parts) (take n lefts) (last ∷ []))
    ∙ map-append (λ (o : Course). o.set) (parts_of_each (take n lefts)) (parts_of_each (last ∷ []))
    ∙ (λ i. sets_joined lefts n (omega arith) i ++ sets_of (append-nil last.parts i))

module _ (R : Rule) (b : ℕ) (E : Generation) (e : Emission) (found : IsEmission R b E e) where
  abbrev way : Way
  way = way_of e.path

  abbrev os : List Course
  os = parts_of_each e.lefts

  settling : (n : ℕ) → n < length e.lefts → IsSettling R b (way.left n) (left_at e.lefts n)
  settling n h = found.lefts.each n (let count = found.lefts.count in omega arith)

  each_left : (P : Settling → Type 0) → ((G : Generation) (s : Settling) → IsSettling R b G s → P s) → All P e.lefts
  each_left P of =
      All-from_get_or P e.lefts nothing_left (λ n h. of (way.left n) (left_at e.lefts n) (settling n h))

  each_object : (courses : List Course) → All (IsObject R b) (sets_of courses) → All (λ o. IsObject R b o.set) courses
  each_object [] objects = All-nil (λ o. IsObject R b o.set)
  each_object (o ∷ rest) objects =
      All-cons (λ o. IsObject R b o.set) o rest (All-head (IsObject R b) o.set (sets_of rest) objects)
      (each_object rest (All-tail (IsObject R b) o.set (sets_of rest) objects))

  by_rule : All (IsCourseBy R) os
  by_rule = all_parts (IsCourseBy R) e.lefts (each_left (λ s. All (IsCourseBy R) s.parts) (λ G s settles. settles.rule))

  objects_now : All (IsObject R b) (sets_of os)
  objects_now =
      All-map (IsObject R b) (λ (o : Course). o.set) os
      (all_parts (λ o. IsObject R b o.set) e.lefts
      (each_left (λ s. All (λ o. IsObject R b o.set) s.parts) (λ G s settles. each_object s.parts settles.ash.objects)))

  -- ---- what is emitted

  ashes : ℕ → List Generation
  ashes n = let left = left_at e.lefts n in generations R (sets_of left.parts) (b - length left.early)

  abbrev objects : List Generation
  objects = joined ashes way.period

  emits : Emits R b way objects
  unfolding ashes
  emits = record {
    ashes = ashes;
    each = λ n h. parts_by_then R b (way.left n) (left_at e.lefts n) (found.lefts.each n h);
    together = refl;
  }

  alike : AreAlike R (sets_of os) objects
  unfolding ashes emits
  alike kind fits =
      ap (λ ls. count_by kind (sets_of (parts_of_each ls))) (sym (take_all (length e.lefts) e.lefts (omega arith)))
      ∙ ap (count_by kind) (sets_joined e.lefts (length e.lefts) (omega arith) ∙ ap (joined (sets_left e.lefts)) found.lefts.count)
      ∙ count_joined kind (sets_left e.lefts) way.period
      ∙ sum_to-alike (λ n. count_by kind (sets_left e.lefts n)) (λ n. count_by kind (ashes n)) way.period
      (λ n h. parts_are_alike R b (way.left n) (left_at e.lefts n) (found.lefts.each n h) b (ashes n) (emits.each n h) kind fits)
      ∙ sym (count_joined kind ashes way.period)

  module _ (near : Bool) (parts : List Part) (counted : AreCounted near os parts) where
    parts_emitted : parts ≡ counted_parts near R b objects
    parts_emitted =
        let here = generations-zero R (sets_of os) in
        counted R b 0 by_rule (subst (All (IsObject R b)) (sym here) objects_now)
        ∙ ap (counted_parts near R b) here
        ∙ counted_alike R near b b (sets_of os) objects objects_now (emits_objects R b way objects emits) alike

    -- what is reported of the engine
    pub tale_found : tale_of near R b E
        ≡ record { period = way.period; dx = way.displacement.0; dy = way.displacement.1; emits = parts }
    tale_found =
        tale_right R near b E way objects found.engine emits
        ∙ (λ i. record { period = way.period; dx = way.displacement.0; dy = way.displacement.1; emits = sym parts_emitted i })
