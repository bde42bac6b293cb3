-- The texts of words, one after another.
use Rattle.std.specs.Prelude.{◌≡◌, ◌⊎◌, ℕ, ◌+◌, ◌-◌, nat_le, if◌then◌else◌, false, Option, Some, None, List, [], ◌∷◌, ◌++◌, length}
use Rattle.std.specs.List.{sum_by}
use Rattle.watched.specs.Watching.{ConsumesAtMost}
use Rattle.census_bundle.specs.Sizes.{input_limit}
use Rattle.census_folders.specs.Sums.{Fits}
use Rattle.census_folders.specs.Told.{Told}
use Rattle.census_folders.specs.Hearing.{Hears}
use Rattle.watched.specs.Streams.{Reader}
use Rattle.census_folders.specs.declared.heard.Heard.TheVariants as heard
use Rattle.census_folders.specs.declared.unread.ShelfFault.{ShelfFault}
use Rattle.census_folders.specs.declared.unread.ShelfFault.TheVariants as shelf
use Rattle.census_reports.specs.declared.error.ReportsError.{ReportsError}
use Rattle.census_reports.specs.declared.error.ReportsError.TheVariants.{Unread, Memory}

-- Each word has its text, which was read after that of the word before it.
abbrev pub ReadsEach : (List ℕ → Told) → List (List ℕ) → List (List ℕ) → Reader → Reader → Type 0
ReadsEach held [] [] before after = after ≡ before
ReadsEach held (word ∷ words) (text ∷ texts) before after =
    (next : Reader) × Hears held word (heard.Text text) before next × ReadsEach held words texts next after
ReadsEach held _ _ before after = ⊥

-- Why the text of a word was not read. Out of memory, standard input may have lost at most one byte more than one text may have,
-- and has not failed.
abbrev pub RefusesWord : ShelfFault → (List ℕ → Told) → List ℕ → Reader → Reader → Type 0
RefusesWord (shelf.Unread why) held word before after = Hears held word (heard.Unread None) before after
RefusesWord shelf.TooLong held word before after = Hears held word heard.TooLong before after × (after.failed ≡ false)
RefusesWord shelf.Memory held word before after = ConsumesAtMost (input_limit + 1) before.unread after.unread × (after.failed ≡ false)

-- all together have at most `limit` bytes, where that is limited
abbrev pub FitTogether : Option ℕ → List (List ℕ) → Type 0
FitTogether limit texts = Fits limit (sum_by length texts)

-- what is left of a limit after `count` bytes, where they are within it
abbrev pub left_behind : Option ℕ → ℕ → Option (Option ℕ)
left_behind None count = Some None
left_behind (Some left) count = if nat_le count left then Some (Some (left - count)) else None

-- a word has a text that, with the texts before it, has more bytes than the limit
pub record PassesLimit (limit : Option ℕ) (texts : List (List ℕ)) (held : List ℕ → Told) (word : List ℕ) (before after : Reader) : Type 0 where
  pub text : List ℕ
  pub hears : Hears held word (heard.Text text) before after
  pub passes : FitTogether limit (texts ++ text ∷ []) → ⊥
  pub sound : after.failed ≡ false

-- why the text of a word was not taken after these texts
abbrev pub RefusesNext : ReportsError → Option ℕ → List (List ℕ) → (List ℕ → Told) → List ℕ → Reader → Reader → Type 0
RefusesNext (Unread text fault) limit texts held word before after =
    (text ≡ length texts + 1) × (RefusesWord fault held word before after ⊎ ((fault ≡ shelf.TooLong) × PassesLimit limit texts held word before after))
RefusesNext Memory limit texts held word before after = RefusesWord shelf.Memory held word before after
RefusesNext error limit texts held word before after = ⊥

-- The texts of the words before some place were read. That of the word at this place was not taken, for this error.
pub record StopsReadingTexts (error : ReportsError) (limit : Option ℕ) (held : List ℕ → Told) (words : List (List ℕ)) (before after : Reader) : Type 0 where
  pub texts : List (List ℕ)
  pub done : List (List ℕ)
  pub word : List ℕ
  pub left : List (List ℕ)
  pub words_are : words ≡ done ++ word ∷ left
  -- standard input as the words before it left it
  pub reached : Reader
  pub read : ReadsEach held done texts before reached
  pub fits : FitTogether limit texts
  pub why : RefusesNext error limit texts held word reached after
