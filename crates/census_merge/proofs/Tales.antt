-- What holds for each tale holds for those that are counted, and for what is reported of growth.
use Rattle.std.proofs.Common.{ℕ, Bool, Option, Some, None, List, [], ◌∷◌, map, fold}
use Rattle.std.specs.List.{AllByRecursion as Each}
use Rattle.std.specs.declared.cmp.Ordering.{Ordering}
use Rattle.std.specs.declared.cmp.Ordering.TheVariants.{Less, Equal, Greater}
use Rattle.life_answer.specs.Census.{counted_parts}
use Rattle.life_answer.specs.CountedTales.{counted_tales, tale_cmp, with_tale, with_tale_by_order}
use Rattle.life_answer.specs.Tales.{tale_along, tale_of}
use Rattle.life_answer.specs.Told.{told_of_engines}
use Rattle.life_answer.specs.declared.part.Part.{Part}
use Rattle.life_answer.specs.declared.tale.Engines.{Engines}
use Rattle.life_answer.specs.declared.tale.Tale.{Tale}
use Rattle.life_growth.specs.Engines.Tracks.{Step}
use Rattle.life_growth.specs.Fates.Tracks.{emitted_along, track_of}
use Rattle.life_model.specs.Generation.{Generation}
use Rattle.life_model.specs.Rule.{Rule}
use Rattle.census_merge.proofs.Solid.{each-map}

module _ (P : Tale → Type 0) where
  -- it holds for the tale of these engines
  abbrev pub OfEngines : Engines → Type 0
  OfEngines line = P line.tale

  beside-holds : (order : Ordering) (tale : Tale) (line : Engines) (lines rest : List Engines) → P tale →
      Each OfEngines (line ∷ lines) → Each OfEngines rest → Each OfEngines (with_tale_by_order order tale line lines rest)
  beside-holds Less tale line lines rest h k l = (h, k)
  beside-holds Equal tale line lines rest h k l = (k.0, k.1)
  beside-holds Greater tale line lines rest h k l = (k.0, l)

  with-holds : (tale : Tale) (lines : List Engines) → P tale → Each OfEngines lines → Each OfEngines (with_tale tale lines)
  with-holds tale [] h k = (h, tt)
  with-holds tale (line ∷ lines) h k =
      beside-holds (tale_cmp tale line.tale) tale line lines (with_tale tale lines) h k (with-holds tale lines h k.1)

  folded-holds : (tales : List Tale) (lines : List Engines) → Each P tales → Each OfEngines lines →
      Each OfEngines (fold (λ lines tale. with_tale tale lines) lines tales)
  folded-holds [] lines h k = k
  folded-holds (tale ∷ tales) lines h k = folded-holds tales (with_tale tale lines) h.1 (with-holds tale lines h.0 k)

  pub counted-holds : (tales : List Tale) → Each P tales → Each OfEngines (counted_tales tales)
  unfolding counted_tales
  counted-holds tales h = folded-holds tales [] h tt

-- what holds for no part, and for what counts as the parts of objects, holds for what each engine emits
module _ (P : List Part → Type 0) (near : Bool) (R : Rule) (b : ℕ) (none : P [])
    (each : (objects : List Generation) → P (counted_parts near R b objects)) where
  abbrev OfTale : Tale → Type 0
  OfTale tale = P tale.emits

  along-holds : (E : Generation) (track : Option (List Step)) → OfTale (tale_along near R b E track)
  along-holds E None = none
  along-holds E (Some track) = each (emitted_along R b track)

  tale-holds : (E : Generation) → OfTale (tale_of near R b E)
  unfolding tale_of
  tale-holds E = along-holds E (track_of R b E)

  pub told-holds : (Es : List Generation) → Each (OfEngines OfTale) (told_of_engines near R b Es)
  told-holds Es = counted-holds OfTale (map (tale_of near R b) Es) (each-map OfTale (tale_of near R b) tale-holds Es)
