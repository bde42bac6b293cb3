-- What a page is asked to have.
use Rattle.std.proofs.Common.{◌≡◌, ℕ, List, Option, None, Some, option_map, refl}
use Rattle.std.specs.Borrow.{Bor}
use Rattle.census_page.specs.Options.{options_of}
use Rattle.census_page.specs.declared.options.PageOptions.{PageOptions}

-- the bytes before the addresses of names
pub base_is : (page : PageOptions) (base : Option (Bor (List ℕ))) → (options_of (record {
  title = page.title;
  note = page.note;
  sort = page.sort;
  top = page.top;
  base = base;
  links = page.links;
  patterns = page.patterns;
})).base ≡ option_map (λ s. s.now) base
base_is page None = refl
base_is page (Some bytes) = refl
