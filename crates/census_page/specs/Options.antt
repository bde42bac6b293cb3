-- The options of a page.
use Rattle.std.specs.Prelude.{ℕ, Bool, true, false, Option, None, List, [], codes}
use Rattle.std.specs.Borrow.{Bor}
use Rattle.std.specs.Option.{option_map}
use Rattle.census_page.specs.declared.options.PageOptions.{PageOptions}
use Rattle.census_page.specs.declared.options.Sort.{Sort}
use Rattle.census_page.specs.declared.options.Sort.TheVariants.{Report}

-- the title, and a note below it if there is one; the order of the rows of codes, and their greatest number; the beginning of
-- the addresses of names, if these are links; whether codes are links; and whether all patterns are shown
pub record Options : Type 0 where
  pub title : List ℕ
  pub note : List ℕ
  pub sort : Sort
  pub top : Option ℕ
  pub base : Option (List ℕ)
  pub links : Bool
  pub patterns : Bool

abbrev pub options_of : PageOptions → Options
options_of options = record {
  title = options.title.now;
  note = options.note.now;
  sort = options.sort;
  top = options.top;
  base = option_map (λ (base : Bor (List ℕ)). base.now) options.base;
  links = options.links;
  patterns = options.patterns;
}

-- the default options
abbrev pub default_options : Options
default_options = record { title = codes "Census"; note = []; sort = Report; top = None; base = None; links = false; patterns = true }
