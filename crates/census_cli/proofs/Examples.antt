-- The outcome of some words, by computing the definitions.
use Rattle.std.proofs.Common.{◌≡◌, ℕ, List, [], ◌∷◌, Bool, Option, Some, None, Vec, true, false, codes, map, inl, inr, refl}
use Rattle.std.specs.Borrow.{Bor}
use Rattle.std.specs.Global.{Global}
use Rattle.clap.specs.Faults.{fault_of}
use Rattle.clap.specs.declared.error.kind.ErrorKind.TheVariants.{ArgumentConflict, DisplayHelp, DisplayVersion, MissingSubcommand, TooManyValues, UnknownArgument, ValueValidation}
use Rattle.clap.proofs.OnLiterals.{clap_on_literals}
use Rattle.life_answer.specs.declared.question.Question.{Question}
use Rattle.life_answer.specs.declared.question.Question.TheVariants.{Objects, Settles}
use Rattle.census_cli.specs.CommandLine.{census_app}
use Rattle.census_cli.specs.Asking.{Asks, AsksToExplain}
use Rattle.census_cli.specs.Refusing.{AreRefusedWords}
use Rattle.census_cli.specs.declared.request.PageSort.TheVariants.{Report, Rare}
use Rattle.census_cli.specs.declared.request.Reports.{Reports}
use Rattle.census_cli.specs.declared.request.Request.{Request}
use Rattle.census_cli.specs.declared.request.Request.TheVariants as request
use Rattle.census_cli.specs.declared.request.TableSubject.TheVariants.{Patterns, Codes}
use Rattle.census_cli.specs.declared.request.TableFormat.TheVariants.{Csv, Json}

-- texts that words name
abbrev Texts : Type 0
Texts = Vec (Bor (List ℕ)) Global

abbrev Are : Texts → List (List ℕ) → Type 0
Are texts words = words ≡ map (λ s. s.now) texts.items

abbrev text : List ℕ → Bor (List ℕ)
text word = record { ref_ptr = (0, 0); now = word }

abbrev census : Question → ℕ → Bool → Bool → Texts → Request
census question workers recursive keep_going folders = request.Census (record {
  question = question;
  workers = workers;
  collections = record { input = None; recursive = recursive; keep_going = keep_going; folders = folders };
})

abbrev reading : Bool → Option ℕ → Texts → Reports
reading cut input words = record { cut = cut; input = input; words = words }

run_alone : (texts : Texts) → Are texts [] → Asks (codes "run" ∷ []) (census (Settles 1000 None) 4 false false texts)
unfolding clap_on_literals
run_alone texts are = (refl, ((refl, refl, refl), refl, (refl, refl, refl, are)))

run_among : (texts : Texts) → Are texts (codes "a" ∷ codes "b" ∷ []) → Asks (codes "run" ∷ codes "a" ∷ codes "--bound" ∷ codes "50" ∷ codes "b" ∷ codes "-w2" ∷ []) (census (Settles 50 None) 2 false false texts)
unfolding clap_on_literals
run_among texts are = (refl, ((refl, refl, refl), refl, (refl, refl, refl, are)))

run_small : (texts : Texts) → Are texts [] → Asks (codes "run" ∷ codes "--cells" ∷ codes "5" ∷ []) (census (Settles 1000 (Some 5)) 4 false false texts)
unfolding clap_on_literals
run_small texts are = (refl, ((refl, refl, refl), refl, (refl, refl, refl, are)))

run_flags : (texts : Texts) → Are texts (codes "a" ∷ []) → Asks (codes "run" ∷ codes "--recursive" ∷ codes "a" ∷ codes "-k" ∷ []) (census (Settles 1000 None) 4 true true texts)
unfolding clap_on_literals
run_flags texts are = (refl, ((refl, refl, refl), refl, (refl, refl, refl, are)))

objects_alone : (texts : Texts) → Are texts [] → Asks (codes "objects" ∷ []) (census (Objects 10000 (Some 200000) false 1000) 4 false false texts)
unfolding clap_on_literals
objects_alone texts are = (refl, ((refl, (refl, refl, refl, refl)), refl, (refl, refl, refl, are)))

objects_flags : (texts : Texts) → Are texts (codes "a" ∷ []) → Asks (codes "objects" ∷ codes "-rb5" ∷ codes "a" ∷ codes "--near" ∷ []) (census (Objects 5 (Some 200000) true 1000) 4 true false texts)
unfolding clap_on_literals
objects_flags texts are = (refl, ((refl, (refl, refl, refl, refl)), refl, (refl, refl, refl, are)))

identify_among : (texts : Texts) → Are texts (codes "a" ∷ codes "-" ∷ []) → Asks (codes "identify" ∷ codes "a" ∷ codes "-b" ∷ codes "50" ∷ codes "-" ∷ []) (request.Identify 50 200000 false 1000 false None texts)
unfolding clap_on_literals
identify_among texts are = (refl, (refl, (refl, refl, refl, refl), refl, refl, are))

identify_near : (texts : Texts) → Are texts [] → Asks (codes "identify" ∷ codes "--near" ∷ []) (request.Identify 10000 200000 true 1000 false None texts)
unfolding clap_on_literals
identify_near texts are = (refl, (refl, (refl, refl, refl, refl), refl, refl, are))

identify_small : (texts : Texts) → Are texts (codes "a" ∷ []) → Asks (codes "identify" ∷ codes "--cells" ∷ codes "7" ∷ codes "a" ∷ codes "--horizon=20" ∷ []) (request.Identify 10000 7 false 20 false None texts)
unfolding clap_on_literals
identify_small texts are = (refl, (refl, (refl, refl, refl, refl), refl, refl, are))

identify_named : (texts : Texts) → Are texts (codes "a" ∷ []) → Asks (codes "identify" ∷ codes "--json" ∷ codes "--names" ∷ codes "n.tsv" ∷ codes "a" ∷ []) (request.Identify 10000 200000 false 1000 true (Some (text (codes "n.tsv"))) texts)
unfolding clap_on_literals
identify_named texts are = (refl, (refl, (refl, refl, refl, refl), refl, refl, are))

advance_file : Asks (codes "advance" ∷ codes "4" ∷ codes "a" ∷ []) (request.Advance 4 None (Some (text (codes "a"))))
unfolding clap_on_literals
advance_file = (refl, (refl, refl, refl, refl))

advance_small : Asks (codes "advance" ∷ codes "4" ∷ codes "--cells" ∷ codes "7" ∷ []) (request.Advance 4 (Some 7) None)
unfolding clap_on_literals
advance_small = (refl, (refl, refl, refl, refl))

draw_glider : Asks (codes "draw" ∷ codes "xq4_153" ∷ []) (request.Draw (text (codes "xq4_153")) (text (codes "B3/S23")))
unfolding clap_on_literals
draw_glider = (refl, (refl, refl, refl))

merge_among : (texts : Texts) → Are texts (codes "a" ∷ codes "-" ∷ []) → Asks (codes "merge" ∷ codes "a" ∷ codes "-" ∷ []) (request.Merge (reading false None texts))
unfolding clap_on_literals
merge_among texts are = (refl, (refl, (refl, refl, are)))

merge_small : (texts : Texts) → Are texts (codes "a" ∷ []) → Asks (codes "merge" ∷ codes "--input=9" ∷ codes "--cut" ∷ codes "a" ∷ []) (request.Merge (reading true (Some 9) texts))
unfolding clap_on_literals
merge_small texts are = (refl, (refl, (refl, refl, are)))

table_json : (texts : Texts) → Are texts (codes "a" ∷ codes "b" ∷ []) → Asks (codes "table" ∷ codes "a" ∷ codes "--json" ∷ codes "b" ∷ []) (request.Table Patterns Json None (reading false None texts))
unfolding clap_on_literals
table_json texts are = (refl, (refl, refl, refl, refl, (refl, refl, are)))

table_codes : (texts : Texts) → Are texts (codes "a" ∷ []) → Asks (codes "table" ∷ codes "--codes" ∷ codes "a" ∷ []) (request.Table (Codes false false) (Csv false) None (reading false None texts))
unfolding clap_on_literals
table_codes texts are = (refl, (refl, refl, refl, refl, (refl, refl, are)))

table_safe : (texts : Texts) → Are texts (codes "a" ∷ []) → Asks (codes "table" ∷ codes "--safe" ∷ codes "a" ∷ codes "--csv" ∷ []) (request.Table Patterns (Csv true) None (reading false None texts))
unfolding clap_on_literals
table_safe texts are = (refl, (refl, refl, refl, refl, (refl, refl, are)))

page_among : (texts : Texts) → Are texts (codes "a" ∷ codes "-" ∷ []) → Asks (codes "page" ∷ codes "a" ∷ codes "-" ∷ []) (request.Page (record { title = None; note = None; sort = Report; top = None; base = None; links = false; patterns = true }) None (reading false None texts))
unfolding clap_on_literals
page_among texts are = (refl, (refl, (refl, refl, refl, refl, refl, λ e. cc, refl, refl), refl, (refl, refl, are)))

page_sorted : (texts : Texts) → Are texts [] → Asks (codes "page" ∷ codes "--sort" ∷ codes "rare" ∷ codes "--top=7" ∷ codes "--links" ∷ codes "--no-patterns" ∷ codes "--names" ∷ codes "n" ∷ codes "--cut" ∷ []) (request.Page (record { title = None; note = None; sort = Rare; top = Some 7; base = None; links = true; patterns = false }) (Some (text (codes "n"))) (reading true None texts))
unfolding clap_on_literals
page_sorted texts are = (refl, (refl, (refl, refl, refl, refl, refl, λ e. cc, refl, refl), refl, (refl, refl, are)))

page_at : (texts : Texts) → Are texts (codes "a" ∷ []) → Asks (codes "page" ∷ codes "--base" ∷ codes "https://a.b" ∷ codes "a" ∷ []) (request.Page (record { title = None; note = None; sort = Report; top = None; base = Some (text (codes "https://a.b")); links = false; patterns = true }) None (reading false None texts))
unfolding clap_on_literals
page_at texts are = (refl, (refl, (refl, refl, refl, refl, refl, λ e. cc, refl, refl), refl, (refl, refl, are)))

same_among : (texts : Texts) → Are texts (codes "a" ∷ codes "-" ∷ []) → Asks (codes "same" ∷ codes "--json" ∷ codes "a" ∷ codes "-" ∷ []) (request.Same true (reading false None texts))
unfolding clap_on_literals
same_among texts are = (refl, (refl, refl, refl, (refl, refl, are)))

same_starts : (texts : Texts) → Are texts (codes "a" ∷ []) → Asks (codes "same" ∷ codes "--starts" ∷ codes "-r" ∷ codes "a" ∷ []) (request.Starts false (record { input = None; recursive = true; keep_going = false; folders = texts }))
unfolding clap_on_literals
same_starts texts are = (refl, (refl, refl, (refl, refl, refl, refl, are)))

verify_among : (texts : Texts) → Are texts (codes "a" ∷ codes "-" ∷ []) → Asks (codes "verify" ∷ codes "c.csv" ∷ codes "a" ∷ codes "-" ∷ []) (request.Verify (text (codes "c.csv")) (reading false None texts))
unfolding clap_on_literals
verify_among texts are = (refl, (refl, refl, (refl, refl, are)))

page_in_no_order : AreRefusedWords (codes "page" ∷ codes "--sort=size" ∷ [])
unfolding clap_on_literals
page_in_no_order = inr (refl, inr (inl (refl, inl refl)))

page_at_no_address : AreRefusedWords (codes "page" ∷ codes "--base" ∷ codes "a.b" ∷ [])
unfolding clap_on_literals
page_at_no_address = inr (refl, inr (inl (refl, inr refl)))

starts_cut : AreRefusedWords (codes "same" ∷ codes "--starts" ∷ codes "--cut" ∷ [])
unfolding clap_on_literals
starts_cut = inr (refl, inr (inr (refl, refl)))

table_both : AreRefusedWords (codes "table" ∷ codes "--json" ∷ codes "--csv" ∷ [])
unfolding clap_on_literals
table_both = inr (refl, inl (refl, inl refl))

table_json_safe : AreRefusedWords (codes "table" ∷ codes "--safe" ∷ codes "--json" ∷ [])
unfolding clap_on_literals
table_json_safe = inr (refl, inl (refl, inl refl))

table_of_two : AreRefusedWords (codes "table" ∷ codes "--parts" ∷ codes "--codes" ∷ [])
unfolding clap_on_literals
table_of_two = inr (refl, inl (refl, inr refl))

run_explained : AsksToExplain (codes "run" ∷ codes "a" ∷ codes "--explain" ∷ []) true
unfolding clap_on_literals
run_explained = refl

top_of_none : fault_of census_app (codes "page" ∷ codes "--top" ∷ codes "0" ∷ []) ≡ ValueValidation ∷ []
unfolding clap_on_literals
top_of_none = refl

near_twice : fault_of census_app (codes "objects" ∷ codes "--near" ∷ codes "--near" ∷ []) ≡ ArgumentConflict ∷ []
unfolding clap_on_literals
near_twice = refl

near_with_a_value : fault_of census_app (codes "objects" ∷ codes "--near=1" ∷ []) ≡ TooManyValues ∷ []
unfolding clap_on_literals
near_with_a_value = refl

bound_of_none : fault_of census_app (codes "run" ∷ codes "--bound" ∷ codes "0" ∷ []) ≡ ValueValidation ∷ []
unfolding clap_on_literals
bound_of_none = refl

workers_17 : fault_of census_app (codes "run" ∷ codes "--workers" ∷ codes "17" ∷ []) ≡ ValueValidation ∷ []
unfolding clap_on_literals
workers_17 = refl

objects_bound_100001 : fault_of census_app (codes "objects" ∷ codes "--bound" ∷ codes "100001" ∷ []) ≡ ValueValidation ∷ []
unfolding clap_on_literals
objects_bound_100001 = refl

horizon_10001 : fault_of census_app (codes "objects" ∷ codes "--horizon" ∷ codes "10001" ∷ []) ≡ ValueValidation ∷ []
unfolding clap_on_literals
horizon_10001 = refl

past_the_age : fault_of census_app (codes "advance" ∷ codes "4194305" ∷ []) ≡ ValueValidation ∷ []
unfolding clap_on_literals
past_the_age = refl

no_word : fault_of census_app [] ≡ MissingSubcommand ∷ []
unfolding clap_on_literals
no_word = refl

version : fault_of census_app (codes "-V" ∷ []) ≡ DisplayVersion ∷ []
unfolding clap_on_literals
version = refl

version_of_run : fault_of census_app (codes "run" ∷ codes "--version" ∷ []) ≡ UnknownArgument ∷ []
unfolding clap_on_literals
version_of_run = refl

help : fault_of census_app (codes "run" ∷ codes "--help" ∷ []) ≡ DisplayHelp ∷ []
unfolding clap_on_literals
help = refl
