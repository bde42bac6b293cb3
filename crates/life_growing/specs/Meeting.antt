-- Engines and debris that never meet.
use Rattle.std.specs.Prelude.{◌≡◌, ℕ, zero, suc, ◌<◌, List, [], get_or, length}
use Rattle.std.specs.List.{Contains}
use Rattle.life_growth.specs.Things.{NeverMeet, Thing}
use Rattle.life_growing.specs.Settled.Settling.{Settling}
use Rattle.life_growing.specs.Settled.Things.{things_of}
use Rattle.life_growing.specs.Emissions.{AreAll, Emission, IsEmissionThing}

-- a thing of the debris, which is at place 0, or of one of the engines, which come after it
abbrev pub IsThingAt : List Emission → Settling → ℕ → Thing → Type 0
IsThingAt engines debris zero it = Contains (things_of debris) it
IsThingAt engines debris (suc n) it =
    (n < length engines) × ((e : Emission) → IsEmissionThing (get_or engines n e) it)

-- the things of the debris and of each engine, list by list
pub record AreThingsOfEach (engines : List Emission) (debris : Settling) (lists : List (List Thing)) : Type 0 where
  pub count : length lists ≡ suc (length engines)
  pub each : (n : ℕ) → n < length lists → AreAll (get_or lists n []) (IsThingAt engines debris n)

-- no thing at one place meets one at the other
abbrev pub GoApartAt : List Emission → Settling → ℕ → ℕ → Type 0
GoApartAt engines debris m n =
    (A B : Thing) → IsThingAt engines debris m A → IsThingAt engines debris n B → NeverMeet A B

-- none of the debris and the engines ever meets another
abbrev pub GoApart : List Emission → Settling → Type 0
GoApart engines debris = (m n : ℕ) → m < n → n < suc (length engines) → GoApartAt engines debris m n

-- the list at a place
abbrev pub list_in : List (List Thing) → ℕ → List Thing
list_in lists n = get_or lists n []
