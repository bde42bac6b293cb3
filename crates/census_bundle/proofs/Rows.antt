-- Worked rows of bundle texts, by computing the definitions.
use Rattle.std.specs.Prelude.{◌≡◌, List, ℕ, [], ◌∷◌, ◌++◌, Option, Some, None, codes, map, take, replicate, true, false, refl}
use Rattle.std.specs.List.{range_with_len}
use Rattle.census_bundle.specs.Entries.{entry_of}
use Rattle.census_bundle.specs.declared.fault.BundleFault.{BundleFault}
use Rattle.census_bundle.specs.declared.fault.BundleFault.TheVariants.{StrayText, FileBeforeFolder, BadAtLine, BadName}
use Rattle.census_bundle.specs.Names.{is_name}
use Rattle.census_bundle.specs.Reading.{folders_of, fault_of}

no_text : fault_of [] ≡ None
no_text = refl

no_folders : folders_of [] ≡ []
no_folders = refl

stray : fault_of (codes "hello") ≡ Some (StrayText 1)
stray = refl

early_file : fault_of (codes "@file a") ≡ Some (FileBeforeFolder 1)
early_file = refl

-- of two faults on one line, the one of the lower number
early_file_without_name : fault_of (codes "@file ") ≡ Some (FileBeforeFolder 1)
early_file_without_name = refl

early_file_without_blank : fault_of (codes "@file") ≡ Some (BadAtLine 1)
early_file_without_blank = refl

other_word : fault_of (codes "@folder a\n@fold b") ≡ Some (BadAtLine 2)
other_word = refl

no_name : fault_of (codes "@folder ") ≡ Some (BadName 1)
no_name = refl

two_blanks : fault_of (codes "@folder  a") ≡ Some (BadName 1)
two_blanks = refl

-- CR ends a line only before LF
cr_alone : fault_of (codes "@folder b\n@file a\r") ≡ Some (BadName 2)
cr_alone = refl

stray_behind_folder : fault_of (codes "@folder a\n@file b\nx\n@folder c\nx") ≡ Some (StrayText 5)
stray_behind_folder = refl

empty_text : folders_of (codes "@folder a\n\n@file b") ≡ record { name = codes "a"; entries = entry_of (codes "b") [] ∷ [] } ∷ []
empty_text = refl

-- a text keeps its line endings, and ends at a line of `@`
endings : folders_of (codes "@folder a\r\n \t\r\n@file b\r\n3o\r\n\r\n!\n@folder c") ≡
    record { name = codes "a"; entries = entry_of (codes "b") (codes "3o\r\n\r\n!\n") ∷ [] } ∷ record { name = codes "c"; entries = [] } ∷ []
endings = refl

endings_fine : fault_of (codes "@folder a\r\n \t\r\n@file b\r\n3o\r\n\r\n!\n@folder c") ≡ None
endings_fine = refl

name_of_256 : is_name (replicate 256 97) ≡ false
name_of_256 = refl

name_of_255 : is_name (replicate 255 97) ≡ true
name_of_255 = refl

-- the bundle of five patterns
abbrev demo : List ℕ
demo = codes "@folder demo\n@file block\nx = 2, y = 2, rule = B3/S23\n2o$2o!\n@file glider\nx = 3, y = 3, rule = B3/S23\nbo$2bo$3o!\n@file block2\nx = 2, y = 2, rule = 23/3\n2o$2o!\n@file rpent\nx = 3, y = 3, rule = B3/S23\nb2o$2o$bo!\n@file broken\nx = 3, y = 1, rule = B3/S23\n3o\n"

demo_fine : fault_of demo ≡ None
demo_fine = refl

demo_holds : folders_of demo ≡ record {
  name = codes "demo";
  entries =
      entry_of (codes "block") (codes "x = 2, y = 2, rule = B3/S23\n2o$2o!\n")
      ∷ entry_of (codes "glider") (codes "x = 3, y = 3, rule = B3/S23\nbo$2bo$3o!\n")
      ∷ entry_of (codes "block2") (codes "x = 2, y = 2, rule = 23/3\n2o$2o!\n")
      ∷ entry_of (codes "rpent") (codes "x = 3, y = 3, rule = B3/S23\nb2o$2o$bo!\n")
      ∷ entry_of (codes "broken") (codes "x = 3, y = 1, rule = B3/S23\n3o\n") ∷ [];
} ∷ []
demo_holds = refl

abbrev front : ℕ → Option BundleFault
front n = fault_of (take n demo)

-- the prefixes up to the first pattern's name, by length
fronts : map front (range_with_len 0 25) ≡
    (None ∷ replicate 7 (Some (BadAtLine 1))) ++ (Some (BadName 1) ∷ replicate 5 None) ++ replicate 5 (Some (BadAtLine 2)) ++ Some (BadName 2) ∷ replicate 5 None
fronts = refl

front_of_13 : folders_of (take 13 demo) ≡ record { name = codes "demo"; entries = [] } ∷ []
front_of_13 = refl

front_of_20 : folders_of (take 20 demo) ≡ record { name = codes "demo"; entries = entry_of (codes "b") [] ∷ [] } ∷ []
front_of_20 = refl
