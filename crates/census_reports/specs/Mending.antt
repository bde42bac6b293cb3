-- Texts as they are looked at: as they were read, or mended.
use Rattle.std.specs.Prelude.{◌≡◌, ℕ, ◌+◌, Bool, true, false, List, [], ◌∷◌, ◌++◌, length, map}
use Rattle.std.specs.Option.{option_to_list}
use Rattle.std.specs.List.{AllZip, flat_map}
use Rattle.census_merge.specs.Mended.{IsBroken, IsMended}
use Rattle.census_merge.specs.declared.mending.Cut.{Cut}
use Rattle.census_merge.specs.declared.mending.Mended.{Mended}
use Rattle.census_reports.specs.declared.error.ReportsError.{ReportsError}
use Rattle.census_reports.specs.declared.error.ReportsError.TheVariants.{Fault, Memory}

-- each text was mended to one of these, and these are the cuts of those that were cut, in their order
pub record AreMended (texts made : List (List ℕ)) (cuts : List Cut) : Type 0 where
  pub mended : List Mended
  pub each : AllZip IsMended texts mended
  pub made_are : made ≡ map (λ m. m.text.items) mended
  pub cuts_are : cuts ≡ flat_map (λ m. option_to_list m.cut) mended

-- the texts that are looked at, where they are mended and where they are not
abbrev pub AreLookedAt : Bool → List (List ℕ) → List (List ℕ) → List Cut → Type 0
AreLookedAt true texts made cuts = AreMended texts made cuts
AreLookedAt false texts made cuts = (made ≡ texts) × (cuts ≡ [])

-- Each text before the one of this number, from 1, can be mended. That one can't, and its first wrong line is this one, from 1.
pub record HasBrokenText (number line : ℕ) (texts : List (List ℕ)) : Type 0 where
  pub done : List (List ℕ)
  pub text : List ℕ
  pub left : List (List ℕ)
  pub texts_are : texts ≡ done ++ text ∷ left
  pub number_is : number ≡ length done + 1
  pub made : List (List ℕ)
  pub cuts : List Cut
  pub before : AreMended done made cuts
  pub broken : IsBroken text line

-- why texts are not mended
abbrev pub LackMending : ReportsError → List (List ℕ) → Type 0
LackMending (Fault number line kind) texts = HasBrokenText number line texts
LackMending Memory texts = Unit {0}
LackMending error texts = ⊥
