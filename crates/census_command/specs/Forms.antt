-- What the words of `table`, `page` and `verify` ask to make of reports, and how reports are read.
use Rattle.std.specs.Prelude.{ℕ, List, Some, option_map, unwrap_or}
use Rattle.std.specs.Borrow.{Bor}
use Rattle.census_cli.specs.declared.request.PageAsked.{PageAsked}
use Rattle.census_cli.specs.declared.request.PageSort.{PageSort}
use Rattle.census_cli.specs.declared.request.PageSort.TheVariants as asked
use Rattle.census_cli.specs.declared.request.Reports.{Reports}
use Rattle.census_cli.specs.declared.request.TableFormat.{TableFormat}
use Rattle.census_cli.specs.declared.request.TableFormat.TheVariants.{Csv, Json}
use Rattle.census_cli.specs.declared.request.TableSubject.{TableSubject}
use Rattle.census_cli.specs.declared.request.TableSubject.TheVariants.{Patterns, Parts, Engines, Codes}
use Rattle.census_page.specs.Options.{Options, default_options}
use Rattle.census_page.specs.declared.options.Sort.{Sort}
use Rattle.census_page.specs.declared.options.Sort.TheVariants as sort
use Rattle.census_reports.specs.declared.form.Form.{Form}
use Rattle.census_reports.specs.declared.form.Form.TheVariants as form
use Rattle.census_reports.specs.declared.reading.Reading.{Reading}
use Rattle.census_table.specs.declared.subject.Subject.{Subject}
use Rattle.census_table.specs.declared.subject.Subject.TheVariants as subject
use Rattle.census_table.specs.declared.table.Format.{Format}
use Rattle.census_table.specs.declared.table.Format.TheVariants as format
use Rattle.census_command.specs.declared.forms.Beside.{Beside}
use Rattle.census_command.specs.declared.forms.Beside.TheVariants.{Names, NamesOnPage, Claims}

-- how a table is written, and what each of its rows is about
abbrev pub format_of : TableFormat → Format
format_of (Csv safe) = format.Csv safe
format_of Json = format.Json

abbrev pub subject_of : TableSubject → Subject
subject_of Patterns = subject.Patterns
subject_of Parts = subject.Parts
subject_of Engines = subject.Engines
subject_of (Codes rare unnamed) = subject.Codes (record { rare = rare; unnamed = unnamed })

-- the order of the codes on a page
abbrev pub sort_of : PageSort → Sort
sort_of asked.Report = sort.Report
sort_of asked.Count = sort.Count
sort_of asked.Rare = sort.Rare
sort_of asked.Code = sort.Code
sort_of asked.Period = sort.Period
sort_of asked.Name = sort.Name

-- what a page is asked to have: where no title or no note is asked for, it has the default one
abbrev pub options_asked : PageAsked → Options
options_asked page = record {
  title = unwrap_or (option_map (λ s. s.now) page.title) default_options.title;
  note = unwrap_or (option_map (λ s. s.now) page.note) default_options.note;
  sort = sort_of page.sort;
  top = page.top;
  base = option_map (λ s. s.now) page.base;
  links = page.links;
  patterns = page.patterns;
}

-- how reports are read
abbrev pub reading_of : Reports → Reading
reading_of reports = record { cut = reports.cut; limit = reports.input }

-- what is made of reports with a text that is read before them
abbrev pub form_beside : Beside → Bor (List ℕ) → Form
form_beside (Names subject format) text = form.Table subject format (Some text)
form_beside (NamesOnPage options) text = form.Page options (Some text)
form_beside Claims text = form.Verdict text
