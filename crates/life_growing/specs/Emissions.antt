-- An engine that is found, and the things that it emits.
use Rattle.std.specs.Prelude.{◌≡◌, ℕ, ◌<◌, ◌≤◌, List, [], get_or, length, refl}
use Rattle.std.specs.List.{Contains}
use Rattle.std.specs.Coded.{Coded, code_by, coded×, coded_list}
use Rattle.life_model.specs.Generation.{Generation}
use Rattle.life_model.specs.Rule.{Rule}
use Rattle.life_growth.specs.Engine.{IsEngine, Way}
use Rattle.life_growth.specs.Things.{IsEngineThing, NeverMeet, Thing, a_period_later, core_thing, left_once, left_thing, listed}
use Rattle.life_growing.specs.Settled.Settling.{IsSettling, Settling, coded_settling}
use Rattle.life_growing.specs.Settled.Things.{things_of}
use Rattle.life_tracks.specs.Tracks.{Path, coded_path, way_of}

-- the track along which an engine comes back, and the outcome of the cells that leave in each step
pub record Emission : Type 0 where
  pub path : Path
  pub lefts : List Settling

-- coded as the pair of its fields
abbrev pub coded_emission : Coded Emission
coded_emission =
    code_by (Path × List Settling) (coded× coded_path (coded_list coded_settling)) (λ e. (e.path, e.lefts))
    (λ p. record { path = p.0; lefts = p.1 }) (λ _. refl)

-- the outcome for a step in which nothing leaves, and for steps after the last
abbrev pub nothing_left : Settling
nothing_left = record { early = []; parts = [] }

abbrev pub left_at : List Settling → ℕ → Settling
left_at lefts n = get_or lefts n nothing_left

-- the things that the cells leaving in step n become
abbrev pub things_left : List Settling → ℕ → List Thing
things_left lefts n = things_of (left_at lefts n)

-- The cells that leave in each step of the way settle as listed, within b.
pub record AreLefts (R : Rule) (b : ℕ) (way : Way) (lefts : List Settling) : Type 0 where
  pub count : length lefts ≡ way.period
  pub each : (n : ℕ) → n < way.period → IsSettling R b (way.left n) (left_at lefts n)

-- E is an engine within b along the track, and the cells that leave settle as listed.
pub record IsEmission (R : Rule) (b : ℕ) (E : Generation) (e : Emission) : Type 0 where
  pub engine : IsEngine R b E (way_of e.path)
  pub lefts : AreLefts R b (way_of e.path) e.lefts

-- The things that leave in step n never meet a core, nor any that leave later.
pub record GoesAway (way : Way) (lefts : List Settling) (n : ℕ) : Type 0 where
  pub cores : (k : ℕ) (it : Thing) → k < way.period → Contains (things_left lefts n) it →
      NeverMeet (left_once n it) (core_thing way k)
  pub later : (k : ℕ) (it other : Thing) → n < k → k < way.period → Contains (things_left lefts n) it →
      Contains (things_left lefts k) other → NeverMeet (left_once n it) (left_thing way k other)
  pub again : (k : ℕ) (it other : Thing) → k ≤ n → Contains (things_left lefts n) it →
      Contains (things_left lefts k) other → NeverMeet (left_once n it) (a_period_later way (left_thing way k other))

-- no thing of the first list meets one of the second
abbrev pub NoneMeets : List Thing → List Thing → Type 0
NoneMeets As Bs = (A B : Thing) → Contains As A → Contains Bs B → NeverMeet A B

-- the list has all such things, and no others
pub record AreAll (things : List Thing) (IsOne : Thing → Type 0) : Type 0 where
  pub each : (it : Thing) → Contains things it → IsOne it
  pub all : (it : Thing) → IsOne it → Contains things it

-- a thing of an engine: a core, or a thing that cells leaving it become
abbrev pub IsEmissionThing : Emission → Thing → Type 0
IsEmissionThing e = IsEngineThing (way_of e.path) (listed (things_left e.lefts))
