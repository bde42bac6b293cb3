-- The counts of a closing count the objects that patterns fall apart into, by what these count as.
use Rattle.std.proofs.Common.{◌≡◌, ℕ, zero, suc, ◌≤◌, ℤ, Bool, List, [], ◌∷◌, Option, map, get_or, Decides}
use Rattle.std.proofs.Common.{refl, sym, ap, subst, ◌∙◌, arith}
use Rattle.std.specs.List.{All, Contains, count_by}
use Rattle.census_bundle.specs.declared.bundle.Entry.{Entry}
use Rattle.life_answer.specs.Census.{ash_onset, census_of, counted_parts, fallen_of, part_code}
use Rattle.life_answer.specs.Counted.{code_bound, counted_as, counted_of}
use Rattle.life_answer.proofs.PartCodes.{wider_code}
use Rattle.life_answer.proofs.Permuted.{count_by-map}
use Rattle.life_answer.specs.declared.finding.Answer.{Answer}
use Rattle.life_answer.specs.declared.finding.Answer.TheVariants.{Found, Refused}
use Rattle.life_answer.specs.declared.finding.Finding.{Finding}
use Rattle.life_answer.specs.declared.finding.Outcome.{Outcome}
use Rattle.life_answer.specs.declared.finding.Outcome.TheVariants.{Ash, Recurs}
use Rattle.life_answer.specs.declared.part.Part.{Part}
use Rattle.life_answer.specs.Parts.{single}
use Rattle.life_model.specs.Generation.{Generation}
use Rattle.life_model.specs.Recurrence.{AreOneObject}
use Rattle.life_model.specs.Rule.{Rule}
use Rattle.life_objects.specs.Ash.{RecursWithin}
use Rattle.census_format.specs.Objects.{Object, object, same_object}
use Rattle.census_format.specs.ObjectLaws.{one_object, same_itself}
use Rattle.census_format.specs.PartCounts.{fallen_as, outcome_as, parts_as, CountsParts}
use Rattle.census_format.proofs.PartCounts.{codes_count_parts}
use Rattle.census_merge.specs.Runs.Fallen.{FallsApart, AreCounted, CountsIn, counted_sets}
use Rattle.census_merge.specs.Runs.ObjectsOfAsh.{IsCoded, CountsPartsOfObject, code_counts, coming_bound, PartsHaveOneLine, CodesCountObjectsOfAsh}
use Rattle.census_merge.proofs.RunsLemmas.CodeCounts.{adding, as_counted, passing, some_count, some_sum}
use Rattle.census_merge.proofs.RunsLemmas.Fallen.{answer_in, fallen_either, said, said_one, to_say}
use Rattle.census_merge.proofs.RunsLemmas.PartCodes.{at_once, part_code-is, part_codes_tell}
use Rattle.census_merge.proofs.RunsLemmas.CountedSets.{count_in_any_order, counted_recurs, counted_told, sooner}

-- what is reported of what has fallen apart counts as its parts do, also where it is one part and recurs
recurs_as : (k : Object) (R : Rule) (onset period : ℕ) (dx dy : ℤ) (code : List ℕ) →
    outcome_as k R (Recurs onset period dx dy code) ≡ parts_as k R (single code ∷ [])
recurs_as k R onset period dx dy code = omega arith

one_as : (near : Bool) (R : Rule) (G : Generation) (b : ℕ) (k : Object) (onset : ℕ) (parts : List Part) →
    census_of near R G b ≡ Ash onset parts → outcome_as k R (fallen_of near R G b) ≡ parts_as k R parts
one_as near R G b k onset parts found =
    fallen_either near R G b onset parts found (λ o. outcome_as k R o ≡ parts_as k R parts) refl
    (λ period dx dy code e. recurs_as k R onset period dx dy code ∙ ap (parts_as k R) (sym e))

-- the object that is reported for a set
told : Rule → ℕ → Generation → Object
told R b P = object R (part_code R (code_bound b) P)

module _ (near : Bool) (bound : ℕ) (most : Option ℕ) (horizon : ℕ) where
  abbrev number : Object → Entry → ℕ
  number k e = fallen_as k (answer_in near bound most horizon e)

  abbrev counted_in : (e : Entry) → FallsApart bound most e → List Generation
  counted_in e f = counted_sets near bound most e f

  -- ---- one pattern

  -- if it falls apart, how many of the sets that count are reported as this object
  number-fallen : (k : Object) (e : Entry) (f : FallsApart bound most e)
      → number k e ≡ count_by (λ Q. same_object k (told f.rule bound Q)) (counted_in e f)
  unfolding told
  number-fallen k e f =
      let s = to_say near bound most horizon e f in
      let code = part_code f.rule (code_bound bound) in
      let counted = counted_of near f.rule bound s.found in
      ap (fallen_as k) s.is
      ∙ one_as near f.rule f.cells bound k (ash_onset f.rule f.cells bound) (counted_parts near f.rule bound s.found) s.census
      ∙ as_counted k f.rule (map code counted)
      ∙ count_by-map (λ c. same_object k (object f.rule c)) code counted
      ∙ count_in_any_order (λ Q. same_object k (object f.rule (code Q))) (counted_as near f.rule bound) f.parts s.found s.order

  record IsFrom (k : Object) (e : Entry) : Type 0 where
    fallen : FallsApart bound most e
    part : Generation
    of_it : Contains (counted_in e fallen) part
    is : k ≡ told fallen.rule bound part

  -- if there is one, it is reported for a part
  from_fallen : (k : Object) (e : Entry) (f : FallsApart bound most e) → 1 ≤ number k e → IsFrom k e
  from_fallen k e f some =
      let same = number-fallen k e f in
      let p = passing (λ Q. same_object k (told f.rule bound Q)) (counted_in e f) (omega (arith, same, some)) in
      record { fallen = f; part = p.one; of_it = p.among; is = one_object k (told f.rule bound p.one) p.passes }

  from_outcome : (k : Object) (e : Entry) (rule : Rule) (finding : Finding) (outcome : Outcome)
      → answer_in near bound most horizon e ≡ Found rule finding → finding.outcome ≡ outcome → 1 ≤ outcome_as k rule outcome
      → 1 ≤ number k e → IsFrom k e
  from_outcome k e rule finding (Ash onset parts) is ash more some =
      from_fallen k e (said near bound most horizon e rule finding onset parts is ash) some
  from_outcome k e rule finding (Recurs onset period dx dy code) is recurs more some =
      from_fallen k e (said_one near bound most horizon e rule finding onset period dx dy code is recurs) some
  from_outcome k e rule finding _ is becomes none some = absurd (omega arith)

  from_answer : (k : Object) (e : Entry) (a : Answer) → answer_in near bound most horizon e ≡ a → 1 ≤ fallen_as k a
      → 1 ≤ number k e → IsFrom k e
  from_answer k e (Found rule finding) is more some = from_outcome k e rule finding finding.outcome is refl more some
  from_answer k e (Refused fault) is none some = absurd (omega arith)

  from : (k : Object) (e : Entry) → 1 ≤ number k e → IsFrom k e
  from k e some = from_answer k e (answer_in near bound most horizon e) refl some some

  -- ---- one object

  comes_again : (e : Entry) (f : FallsApart bound most e) (P : Generation) → Contains (counted_in e f) P →
      RecursWithin f.rule (coming_bound near bound) P
  comes_again e f P of_it = counted_recurs f.rule bound near f.parts f.ash.objects P of_it

  coded : (R : Rule) (P : Generation) → RecursWithin R (coming_bound near bound) P →
      IsCoded (coming_bound near bound) R P (told R bound P)
  unfolding told
  coded R P again =
      let s = at_once R (coming_bound near bound) P again in
      record {
        period = s.period;
        displacement = s.displacement;
        settles = s.settles;
        named =
            ap (object R)
            (sym (wider_code R (coming_bound near bound) (code_bound bound) P (sooner near bound) again)
            ∙ part_code-is R (coming_bound near bound) P s);
      }

  module _ (R : Rule) (P : Generation) (one : RecursWithin R (coming_bound near bound) P) where
    abbrev this : Object
    this = told R bound P

    told_one : (Q : Generation) → RecursWithin R (coming_bound near bound) Q →
        Decides (same_object this (told R bound Q)) (AreOneObject R Q P)
    unfolding told
    told_one Q other =
        let tell = part_codes_tell R (code_bound bound) Q P (counted_told R bound near Q other) (counted_told R bound near P one) in (
          λ same. tell.0 (ap (λ (k : Object). k.code) (sym (one_object this (told R bound Q) same))),
          λ are_one. ap (λ c. same_object this (object R c)) (tell.1 are_one) ∙ same_itself this,
        )

    counted : (e : Entry) (f : FallsApart bound most e) → f.rule ≡ R → AreCounted R P (counted_in e f) (number this e)
    counted e f rules = record {
      test = λ Q. same_object this (told R bound Q);
      tells = λ Q at. told_one Q (subst (λ q. RecursWithin q (coming_bound near bound) Q) rules (comes_again e f Q at));
      count = number-fallen this e f ∙ ap (λ q. count_by (λ Q. same_object this (told q bound Q)) (counted_in e f)) rules;
    }

    none_fallen : (e : Entry) → ((f : FallsApart bound most e) → f.rule ≡ R → ⊥) → (n : ℕ) → number this e ≡ n → n ≡ 0
    unfolding told
    none_fallen e none zero is = refl
    none_fallen e none (suc n) is =
        let o = from this e (omega (arith, is)) in
        absurd (none o.fallen (sym (ap (λ (k : Object). k.rule) o.is)))

    counts : (e : Entry) → CountsIn near bound most R P e (number this e)
    counts e = record { fallen = counted e; zero = λ none. none_fallen e none (number this e) refl }

  -- ---- the lines

  line_counts : (es : List Entry) (line : Object × ℕ) → CountsParts bound most near horizon es line
      → CountsPartsOfObject near bound most es line
  line_counts es line c =
      let all = c.count in
      let some = c.some in
      let a = adding (number line.0) es (omega (arith, all, some)) in
      let o = from line.0 a.one a.adds in
      let R = o.fallen.rule in
      let P = o.part in
      let one = comes_again a.one o.fallen P o.of_it in
      record {
        pattern = a.one;
        among = a.among;
        fallen = o.fallen;
        part = P;
        of_it = o.of_it;
        coded = subst (IsCoded (coming_bound near bound) R P) (sym o.is) (coded R P one);
        number = number line.0;
        counts = λ e. subst (λ k. CountsIn near bound most R P e (number k e)) (sym o.is) (counts R P one e);
        sum = all;
      }

  each_line : (es : List Entry) → All (CountsPartsOfObject near bound most es) (code_counts near bound most horizon es)
  each_line es i d lt =
      line_counts es (get_or (code_counts near bound most horizon es) i d) ((codes_count_parts bound most near horizon es).0 i d lt)

  each_part : (es : List Entry) → PartsHaveOneLine near bound most horizon es
  each_part es e at f P of_it =
      let k = told f.rule bound P in
      let here = some_count (λ Q. same_object k (told f.rule bound Q)) P (counted_in e f) of_it (same_itself k) in
      let same = number-fallen k e f in
      let some : 1 ≤ number k e = omega (arith, here, same) in
      record {
        shown = k;
        coded = coded f.rule P (comes_again e f P of_it);
        once = (codes_count_parts bound most near horizon es).1 k (some_sum (number k) e es at some);
      }

pub codes_count_objects_of_ash : CodesCountObjectsOfAsh
codes_count_objects_of_ash near bound most horizon es =
    (each_line near bound most horizon es, each_part near bound most horizon es)
