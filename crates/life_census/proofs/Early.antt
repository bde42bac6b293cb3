-- Growth that is seen on the way to a bound, and what is reported of it.
use Rattle.std.proofs.Common.{◌≡◌, ℕ, ◌*◌, ◌≤◌, min, Bool, true, List, Option, None, Some, sym, ap, subst, ◌∙◌, arith}
use Rattle.std.proofs.lemmas.Option.{none-some}
use Rattle.life_model.specs.Evolution.{generation}
use Rattle.life_model.specs.Generation.{Generation}
use Rattle.life_model.specs.Rule.{Rule}
use Rattle.life_model.proofs.Recurrences.{generation-add}
use Rattle.life_objects.specs.Ash.{HasFallenApart, IsAsh}
use Rattle.life_objects.specs.Union.{generations}
use Rattle.life_objects.proofs.Ashes.{IsAsh-after}
use Rattle.life_answer.specs.Growing.{allowed_bound}
use Rattle.life_answer.specs.Limited.{StaysWithin}
use Rattle.life_answer.specs.Told.{growth_told, told_of_engines}
use Rattle.life_answer.specs.declared.tale.Engines.{Engines}
use Rattle.life_answer.proofs.Ashes.{ash_no_growth}
use Rattle.life_answer.proofs.Growing.{allowed_most, allowed_small, allowed_within}
use Rattle.life_answer.proofs.Told.{growth_later_told, told_nothing}
use Rattle.life_ash.specs.Fates.{EndsLater}
use Rattle.life_growing.specs.Growths.{Growth, IsGrowthOf, starts_of}
use Rattle.life_census.specs.Grown.{IsGrownWithin, IsSeenWithin, NeverGrowsThen}

-- Growth of a generation, up to four times whose age none has more cells than it may have, is that of each greater bound.
pub grown_early : (R : Rule) (G H : Generation) (limit : Option ℕ) (age b horizon least : ℕ) (g : Growth) → 1 ≤ age → age ≤ b →
    age ≤ allowed_bound limit R G age → H ≡ generation R G age → least ≤ horizon → least ≤ age → IsSeenWithin R least H g →
    IsGrownWithin R G (allowed_bound limit R G b) horizon g
grown_early R G H limit age b horizon least g some by_then small here soon early seen =
    let within = allowed_within limit R G age in
    let same : allowed_bound limit R G age ≡ age = omega arith in
    let few : StaysWithin limit R G (4 * age) =
    subst (λ n. StaysWithin limit R G (4 * n)) same (allowed_small limit R G age (omega arith)) in
    let most : age ≤ allowed_bound limit R G b = allowed_most limit R G b age some by_then few in
    let sooner = seen.soon in
    record {
      age = age;
      early = most;
      seen = record {
        bound = seen.bound;
        soon = omega arith;
        growth = subst (λ K. IsGrowthOf R seen.bound K g) here seen.growth;
      };
    }

-- what is reported of growth that is seen early
pub told_grown : (near : Bool) (R : Rule) (G : Generation) (c horizon : ℕ) (g : Growth) (lines : List Engines) →
    IsGrownWithin R G c horizon g →
    ((S : Rule) (b : ℕ) (H : Generation) → IsGrowthOf S b H g → lines ≡ told_of_engines near S b (starts_of g.engines)) →
    growth_told near R (min horizon c) (generation R G c) ≡ Some lines
told_grown near R G c horizon g lines grown told =
    let seen = grown.seen in
    growth_later_told near R seen.bound (min horizon c) grown.age c G seen.soon grown.early (starts_of g.engines)
    seen.growth.set seen.growth.growth
    ∙ sym (ap Some (told R seen.bound (generation R G grown.age) seen.growth))

-- nothing is reported of the growth of what is ash later
pub nothing_told : (near : Bool) (R : Rule) (G : Generation) (h c : ℕ) → EndsLater R G →
    growth_told near R h (generation R G c) ≡ None
nothing_told near R G h c ends =
    let b : ℕ = ends.0 in
    let n : ℕ = ends.1 in
    let last = generations R ends.2 b in
    let fallen : HasFallenApart R b (generation R G n) last =
    subst (λ H. IsAsh R b H last) (sym (generation-add R G n b)) (IsAsh-after R b n b G ends.2 ends.3) in
    told_nothing near R h (generation R G c) (λ S Es growth. ash_no_growth near R b h n c G last Es S fallen growth)

-- what does not grow at a bound does not grow at a lesser one
pub never_sooner : (R : Rule) (G : Generation) (c b horizon : ℕ) → c ≤ b → NeverGrowsThen R G b horizon →
    NeverGrowsThen R G c horizon
never_sooner R G c b horizon le never Es S growth =
    let soon : min horizon c ≤ min horizon b = omega arith in
    let none = told_nothing true R (min horizon b) (generation R G b) (λ T Fs grows. never Fs T grows) in
    let some = growth_later_told true R (min horizon c) (min horizon b) c b G soon le Es S growth in
    none-some (told_of_engines true R (min horizon c) Es) (sym none ∙ some)
