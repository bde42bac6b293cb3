-- Islands that are followed to show that there is no ash.
use Rattle.std.proofs.Common.{◌≡◌, ℕ, ◌+◌, ◌<◌, ◌≤◌, Bool, true, List, inl, inr, sym, ap, subst, ◌∙◌, arith}
use Rattle.std.specs.Bool.{OnTrue}
use Rattle.std.specs.List.{Contains}
use Rattle.std.proofs.lemmas.Bool.{cases_lt}
use Rattle.life_model.specs.Evolution.{generation}
use Rattle.life_model.specs.Generation.{Generation, contains}
use Rattle.life_model.specs.Rule.{Rule}
use Rattle.life_classes.specs.declared.class.Class.{Class}
use Rattle.life_strays.specs.declared.trail.Trail.{Trail}
use Rattle.life_strays.specs.Strays.{AreHeirs, HangsOn, IsIslandNow, IsTrail, LacksSome, LacksSomeUntil}
use Rattle.life_strays.proofs.Following.{hangs_next}

-- one of the trails tells
abbrev pub SomeTell : List Trail → Type 0
SomeTell trails = (trail : Trail) × Contains trails trail × (trail.tells ≡ true)

-- an island hangs on itself, and lacks nothing yet
pub first_trail : (R : Rule) (after : ℕ) (G : Generation) (class : Class) → IsIslandNow R G class →
    IsTrail R after 0 G (record { set = class.first; heirs = class.last; tells = true })
unfolding HangsOn
first_trail R after G class is = record {
  island = is.island;
  heirs = λ c here. ap (λ H. contains H c) (sym is.now) ∙ here;
  lacks = λ tells m late within. absurd (omega arith);
}

-- before a window begins each may tell in it
pub trail_anew : (R : Rule) (after later n : ℕ) (G : Generation) (trail : Trail) → n ≤ later → IsTrail R after n G trail →
    IsTrail R later n G (record { set = trail.set; heirs = trail.heirs; tells = true })
trail_anew R after later n G trail early is = record {
  island = is.island;
  heirs = is.heirs;
  lacks = λ tells m late within. absurd (omega arith);
}

module _ (R : Rule) (after n : ℕ) (G : Generation) (trail : Trail) (is : IsTrail R after n G trail) where
  -- what may be asked of a trail's heirs in the next generation
  abbrev pub LacksNext : Generation → Type 0
  LacksNext L = after < n + 1 → LacksSome (n + 1) G (generation R G (n + 1)) trail.set L

  lacks_further : (L : Generation) → HangsOn R G trail.set (n + 1) L → LacksSomeUntil R after n G trail.set →
      LacksNext L → LacksSomeUntil R after (n + 1) G trail.set
  lacks_further L hangs before lacks m late within = elim (cases_lt m (n + 1)) [
    | inl earlier ↦ before m late (omega arith)
    | inr now ↦
        let e : n + 1 ≡ m = omega arith in
        subst (λ k. (L : Generation) × HangsOn R G trail.set k L × LacksSome k G (generation R G k) trail.set L) e
        (L, hangs, lacks (omega arith))
  ]

  pub next_trail : (later : Generation) (tells : Bool) → AreHeirs (generation R G (n + 1)) trail.heirs later →
      OnTrue tells ((trail.tells ≡ true) × LacksNext later) →
      IsTrail R after (n + 1) G (record { set = trail.set; heirs = later; tells = tells })
  next_trail later tells heirs told =
      let hangs = hangs_next R n G trail.set trail.heirs later is.heirs heirs in
      record {
        island = is.island;
        heirs = hangs;
        lacks = λ e.
            let both : (trail.tells ≡ true) × LacksNext later =
            subst (λ t. OnTrue t ((trail.tells ≡ true) × LacksNext later)) e told in
            lacks_further later hangs (is.lacks both.0) both.1;
      }
