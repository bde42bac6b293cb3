-- What is found on the way from the bound on.
use Rattle.std.proofs.Common.{Bool, true, false, ◌≡◌, ℕ, ◌+◌, ◌*◌, ◌-◌, ◌≤◌, List, [], Option, None, sym, ap, subst, ◌∙◌, arith}
use Rattle.std.specs.Bool.{OnTrue}
use Rattle.std.specs.List.{All}
use Rattle.std.proofs.lemmas.List.Elements.{All-nil}
use Rattle.life_model.specs.Rule.{Rule}
use Rattle.life_model.specs.Generation.{Generation}
use Rattle.life_model.specs.Evolution.{generation}
use Rattle.life_model.proofs.Recurrences.{generation-add, generation-zero}
use Rattle.life_objects.specs.Ash.{HasFallenApart, IsAsh}
use Rattle.life_objects.specs.Limits.{objects_bound_limit}
use Rattle.life_apart.specs.Onsets.Moments.{IsMomentOf, Moment}
use Rattle.life_orbit.specs.Course.{Course}
use Rattle.life_ash.specs.Ahead.{HasEnded, IfNothing, IsAshThen, IsFound, IsFoundPast}
use Rattle.life_ash.specs.Allowed.{AreAllowedBefore}
use Rattle.life_ash.specs.Fates.{EndsLater, IsFate, IsSmallEnough}
use Rattle.life_ash.specs.Met.{Terms}
use Rattle.life_apart.specs.Sets.{sets_of}
use Rattle.life_ash.specs.Parts.{ash_age_limit}
use Rattle.life_ash.specs.Telling.{IsAtBound}
use Rattle.life_ash.specs.declared.at_bound.AtBound.{AtBound}
use Rattle.life_ash.specs.declared.at_bound.AtBound.TheVariants.{NoAsh}
use Rattle.life_ash.specs.declared.found.Found.{Found}
use Rattle.life_ash.specs.declared.found.Found.TheVariants.{Large, Nothing, Parts}
use Rattle.life_ash.specs.declared.pattern_fate.Fate.{Fate}
use Rattle.life_ash.proofs.Limits.{past_nowhere}

module _ (R : Rule) (b : ℕ) (G : Generation) (limit : Option ℕ) where
  -- up to three times the bound
  pub found_first : b ≤ objects_bound_limit → (found : Found) → IsFound R b G limit b (3 * b + 1) (3 * b) found →
      IsFoundPast R b G limit found
  found_first short (Parts parts age) h = let most = h.1 in (h.0, omega arith, h.2, h.3)
  found_first short (Large n) h = h
  found_first short Nothing h = past_nowhere R G limit (3 * b) h

  -- and further
  pub found_further : (from end : ℕ) → b ≤ from → end ≤ ash_age_limit → IsSmallEnough R G b limit → (found : Found) →
      IsFound R b G None from end end found → IsFoundPast R b G limit found
  found_further from end later few small (Parts parts age) h =
      let first = h.0 in let most = h.1 in (omega arith, omega arith, small, h.3)
  found_further from end later few small (Large n) h = absurd cc
  found_further from end later few small Nothing h = small

-- what is ash at some age is ash `age - b` generations after generation b
pub ash_ahead : (R : Rule) (b age : ℕ) (G H : Generation) (parts : List Course) → b ≤ age → H ≡ generation R G b →
    IsAshThen R b G age parts → IsAshThen R b H (age - b) parts
ash_ahead R b age G H parts le here then = record {
  ash = subst (λ S. IsAsh R b S (sets_of parts))
      (sym (ap (λ S. generation R S (age - b)) here ∙ generation-add R G b (age - b)
      ∙ ap (generation R G) (let e : b + (age - b) ≡ age = omega arith in e))) then.ash;
  rule = then.rule;
  placed = then.placed;
  courses = then.courses;
}

-- found from generation 0 on, by what is sought
pub found_from_start : (t : Terms) (R : Rule) (b : ℕ) (G : Generation) (limit : Option ℕ) (from : ℕ) (H : Generation)
    (found : Found) → t.rule ≡ R → t.bound ≡ b → H ≡ G → from ≡ 0 →
    ((K : Generation) → H ≡ generation t.rule K from → AreAllowedBefore t.rule K limit from →
    IsFound t.rule t.bound K limit from b (3 * b) found) → IsFound R b G limit 0 b (3 * b) found
found_from_start t R b G limit from H found rule bound cells start told =
    subst (λ n. IsFound R b G limit n b (3 * b) found) start
    (subst (λ n. IsFound R n G limit from b (3 * b) found) bound
    (subst (λ S. IsFound S t.bound G limit from b (3 * b) found) rule
    (told G (cells ∙ sym (ap (generation t.rule G) start ∙ generation-zero t.rule G)) (λ m h. absurd (omega arith)))))

-- where nothing is found, the plane has the generation of the bound
pub nothing_from_start : (t s : Terms) (b : ℕ) (G : Generation) (limit : Option ℕ) (from age : ℕ) (H K : Generation) →
    s ≡ t → t.bound ≡ b → H ≡ G → from ≡ 0 → age ≡ b →
    ((L : Generation) → H ≡ generation t.rule L from → K ≡ generation t.rule L age) →
    ((L : Generation) → H ≡ generation t.rule L from → AreAllowedBefore t.rule L limit from →
    AreAllowedBefore t.rule L limit b) →
    (K ≡ generation s.rule G s.bound) × AreAllowedBefore s.rule G limit s.bound
nothing_from_start t s b G limit from age H K same bound cells start ended reached allowed =
    let first = cells ∙ sym (ap (generation t.rule G) start ∙ generation-zero t.rule G) in
    subst (λ (u : Terms). (K ≡ generation u.rule G u.bound) × AreAllowedBefore u.rule G limit u.bound) (sym same) (
      reached G first ∙ ap (generation t.rule G) (ended ∙ sym bound),
      subst (AreAllowedBefore t.rule G limit) (sym bound) (allowed G first (λ m h. absurd (omega arith))),
    )

-- what is on the trail of a walk from generation 0 on
pub trail_from_start : (t : Terms) (G : Generation) (from : ℕ) (H : Generation) (before after : List Moment) → H ≡ G →
    from ≡ 0 → before ≡ [] →
    ((K : Generation) → H ≡ generation t.rule K from → All (IsMomentOf t.rule K) before →
    All (IsMomentOf t.rule K) after) → All (IsMomentOf t.rule G) after
trail_from_start t G from H before after cells start none told =
    told G (cells ∙ sym (ap (generation t.rule G) start ∙ generation-zero t.rule G))
    (subst (All (IsMomentOf t.rule G)) (sym none) (All-nil (IsMomentOf t.rule G)))

-- a pattern of which a later generation ends later ends later itself
ends_later : (R : Rule) (b : ℕ) (G : Generation) → EndsLater R (generation R G b) → EndsLater R G
ends_later R b G ends = (
  ends.0,
  b + ends.1,
  ends.2,
  subst (λ H. IsAsh R ends.0 H ends.2) (generation-add R G b ends.1) ends.3,
)

-- what becomes of a pattern, by what its generation of the bound is
pub fate_of_bound : (R : Rule) (b : ℕ) (G : Generation) (ends : Bool) →
    IsAtBound R b (generation R G b) (NoAsh ends) →
    ((parts : List Generation) → HasFallenApart R b G parts → ⊥) × OnTrue ends (EndsLater R G)
fate_of_bound R b G true h = (h.0, ends_later R b G h.1)
fate_of_bound R b G false h = (h.0, tt)

-- what becomes of G, where its generation of the bound is this
pub fate_by : (t s : Terms) (n : ℕ) (G H : Generation) (limit : Option ℕ) (trail : List Moment) (found : AtBound)
    (fate : Fate) → s ≡ t → n ≡ t.bound → H ≡ generation t.rule G t.bound →
    IsSmallEnough t.rule G t.bound limit → All (IsMomentOf t.rule G) trail → IsAtBound s.rule s.bound H found →
    ((R : Rule) (K : Generation) (most : Option ℕ) → IsSmallEnough R K n most → All (IsMomentOf R K) trail →
    IsAtBound R n (generation R K n) found → IsFate R K n most fate) →
    IsFate t.rule G t.bound limit fate
fate_by t s n G H limit trail found fate same bound here small kept is told =
    subst (λ m. IsFate t.rule G m limit fate) bound
    (told t.rule G limit (subst (λ m. IsSmallEnough t.rule G m limit) (sym bound) small) kept
    (subst (λ m. IsAtBound t.rule m (generation t.rule G m) found) (sym bound)
    (subst (λ K. IsAtBound t.rule t.bound K found) here
    (subst (λ (u : Terms). IsAtBound u.rule u.bound H found) same is))))

-- where something is found, what holds where nothing is holds anyway
pub unless_nothing : (found : Found) (A : Type 0) → IfNothing found ⊥ → IfNothing found A
unless_nothing (Parts parts age) A h = tt
unless_nothing (Large n) A h = tt
unless_nothing Nothing A h = absurd h

pub ended_anyway : (found : Found) (end age : ℕ) → IfNothing found ⊥ → HasEnded end age found
ended_anyway (Parts parts n) end age h = tt
ended_anyway (Large n) end age h = tt
ended_anyway Nothing end age h = absurd h

pub nothing_weaker : (found : Found) (A B : Type 0) → (A → B) → IfNothing found A → IfNothing found B
nothing_weaker (Parts parts age) A B f h = tt
nothing_weaker (Large n) A B f h = tt
nothing_weaker Nothing A B f h = f h

pub at_nothing : (found : Found) (A : Type 0) → found ≡ Nothing → IfNothing found A → A
at_nothing found A none h = subst (λ f. IfNothing f A) none h
