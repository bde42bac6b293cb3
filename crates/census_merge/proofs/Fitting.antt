-- Reports of bundles that fit together are merged.
use Rattle.std.proofs.Common.{◌≡◌, ℕ, ◌+◌, ◌-◌, ◌*◌, ◌<◌, ◌≤◌, ◌^◌, ◌&&◌, cond, leb, Option, Some, None as Nothing, List, [], ◌∷◌, ◌++◌, ap, ◌∙◌, refl, arith, length, length-append}
use Rattle.std.specs.List.{AllByRecursion as Each}
use Rattle.std.proofs.lemmas.Bool.{le-leb}
use Rattle.census_format.specs.Lines.{Collection, sayings_count}
use Rattle.census_bundle.specs.Sizes.{count_limit}
use Rattle.census_merge.specs.declared.report_sums.Sums.{Sums}
use Rattle.census_merge.specs.Sums.{first_excess, no_sums, sums_plus, with_more}
use Rattle.census_readback.specs.Shapes.{all_rows}
use Rattle.census_rows.specs.declared.row.Row.{Row}
use Rattle.census_rows.specs.declared.row.Row.TheVariants.{End}
use Rattle.census_merge.specs.Joining.{EachTells, joined}
use Rattle.census_merge.specs.Telling.{Tells}
use Rattle.census_merge.proofs.Joined.{body-lasting, count-append, then-others}
use Rattle.census_merge.proofs.Named.{few-in}
use Rattle.census_merge.proofs.Shifted.{IsLasting}
use Rattle.census_merge.specs.Lawful.{AreSayable}

abbrev going_on : ℕ → Sums → List Row → Option Sums → Option ℕ
going_on report s rows after = elim after [ Nothing ↦ Some report | Some all ↦ first_excess (report + 1) all rows ]

abbrev looked_at : ℕ → Sums → List Row → Option Sums → Option ℕ
looked_at report s rows ended = elim ended [ Nothing ↦ first_excess report s rows | Some more ↦ going_on report s rows (with_more s more) ]

excess-rows : (report : ℕ) (s : Sums) (rows rest : List Row) → Each IsLasting rows → first_excess report s (rows ++ rest) ≡ first_excess report s rest
excess-rows report s [] rest h = refl
excess-rows report s (row ∷ rows) rest h = ap (looked_at report s (rows ++ rest)) h.0 ∙ excess-rows report s rows rest h.1

abbrev sums : List Collection → Sums
sums b = record { collections = length b; patterns = sayings_count b }

within : (s : Sums) (b : List Collection) → s.collections + length b ≤ count_limit → s.patterns + sayings_count b < 2 ^ 64 → with_more s (sums b) ≡ Some (sums_plus s (sums b))
within s b few small =
    let collections = le-leb (length b) (count_limit - s.collections) (omega arith) in
    let patterns = le-leb (sayings_count b) (2 ^ 64 - 1 - s.patterns) (omega arith) in
    ap (λ v. cond (v && leb (sayings_count b) (2 ^ 64 - 1 - s.patterns)) (Some (sums_plus s (sums b))) Nothing) collections
    ∙ ap (λ v. cond v (Some (sums_plus s (sums b))) Nothing) patterns

none-too-many : (report : ℕ) (s : Sums) (parts : List (List Collection)) (reports : List (List Row)) → EachTells parts reports
    → s.collections + length (joined parts) ≤ count_limit → s.patterns + sayings_count (joined parts) < 2 ^ 64 → first_excess report s (all_rows reports) ≡ Nothing
none-too-many report s [] [] h few small = refl
none-too-many report s [] (rows ∷ reports) h few small = absurd h
none-too-many report s (b ∷ parts) [] h few small = absurd h
none-too-many report s (b ∷ parts) (rows ∷ reports) h few small =
    let t : Tells b rows = h.0 in
    let others = all_rows reports in
    let last = End (length b) (sayings_count b) in
    let lengths = length-append b (joined parts) in
    let counts = count-append b (joined parts) in
    ap (first_excess report s) (then-others b rows others t) ∙ excess-rows report s t.body (last ∷ others) (body-lasting b rows t).0
    ∙ ap (going_on report s others) (within s b (omega arith) (omega arith))
    ∙ none-too-many (report + 1) (sums_plus s (sums b)) parts reports h.1 (omega arith) (omega arith)

few-joined : (parts : List (List Collection)) → Each AreSayable parts → sayings_count (joined parts) ≤ count_limit * length (joined parts)
few-joined [] h = omega arith
few-joined (b ∷ parts) h =
    let here = few-in b h.0.each in
    let rest = few-joined parts h.1 in
    let lengths = length-append b (joined parts) in
    let counts = count-append b (joined parts) in
    omega arith

pub fitting : (parts : List (List Collection)) (reports : List (List Row)) → Each AreSayable parts → EachTells parts reports
    → length (joined parts) ≤ count_limit → first_excess 1 no_sums (all_rows reports) ≡ Nothing
fitting parts reports bundled h small =
    let patterns = few-joined parts bundled in
    none-too-many 1 no_sums parts reports h (omega arith) (omega arith)
