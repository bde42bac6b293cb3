-- Rows of reports of several bundles, made one report.
use Rattle.std.proofs.Common.{◌≡◌, ℕ, zero, suc, ◌+◌, ◌-◌, List, [], ◌∷◌, ◌++◌, map, ap, ◌∙◌, sym, refl, arith, length, length-append, append-nil, append_assoc, eq-zero-or-pos, ⊎_elim, slice_get}
use Rattle.std.specs.List.{AllByRecursion as Each}
use Rattle.std.proofs.lemmas.List.{map-append}
use Rattle.census_format.specs.Lines.{Collection, sayings_count}
use Rattle.census_bundle.specs.Tickets.{element_at}
use Rattle.census_format.specs.Reports.{Owned, lines_of, section, section_if, section_of}
use Rattle.census_format.proofs.Owning.{lines_of-append}
use Rattle.census_merge.specs.declared.report_sums.Sums.{Sums}
use Rattle.census_merge.specs.Sums.{no_sums, sums_plus, sums_in}
use Rattle.census_merge.specs.Merged.{merged_rows, numbered_on, renumbered_row}
use Rattle.census_readback.specs.Shapes.{all_rows}
use Rattle.census_rows.specs.declared.row.Row.{Row}
use Rattle.census_rows.specs.declared.row.Row.TheVariants.{End}
use Rattle.census_rows.specs.Lines.{spelling}
use Rattle.census_merge.specs.Joining.{EachTells, joined}
use Rattle.census_merge.specs.Telling.{Tells, rows_in}
use Rattle.census_merge.proofs.Grouped.{in-sections}
use Rattle.census_merge.proofs.Rowed.{end-is}
use Rattle.census_merge.proofs.Shifted.{IsLasting, all-lasting, lines-low, lines-shifted, on-rows, rows-append, rows-shifted, same-moved, section-lasting, section-moved, shifted, sums-rows}

pub count-append : (b more : List Collection) → sayings_count (b ++ more) ≡ sayings_count b + sayings_count more
count-append [] more = omega arith
count-append (f ∷ b) more = let rest = count-append b more in omega arith

-- the collection at an index of two bundles joined
section-at : (b more : List Collection) (c k : ℕ)
    → section_if c (slice_get (b ++ more) k) ≡ section_if c (slice_get b k) ++ section_if c (element_at more (suc k - length b))
section-at [] more c k = let all : suc k - 0 ≡ suc k = omega arith in ap (λ m. section_if c (element_at more m)) (sym all)
section-at (f ∷ b) more c zero =
    let first : suc zero - suc (length b) ≡ zero = omega arith in
    sym (append-nil (section_of c f)) ∙ ap (λ m. section_of c f ++ section_if c (element_at more m)) (sym first)
section-at (f ∷ b) more c (suc k) =
    let less : suc (suc k) - suc (length b) ≡ suc k - length b = omega arith in
    section-at b more c k ∙ ap (λ m. section_if c (slice_get b k) ++ section_if c (element_at more m)) (sym less)

section-joined : (b more : List Collection) (c d : ℕ)
    → section_if c (element_at (b ++ more) d) ≡ section_if c (element_at b d) ++ section_if c (element_at more (d - length b))
section-joined b more c zero = let zero_left : zero - length b ≡ zero = omega arith in ap (λ m. section_if c (element_at more m)) (sym zero_left)
section-joined b more c (suc k) = section-at b more c k

-- the groups of a report, numbered on
section-shifted : (n c : ℕ) (b : List Collection) (groups : List Owned) → ((k : ℕ) → lines_of k groups ≡ section b k)
    → lines_of c (shifted n groups) ≡ section_if c (element_at b (c - n))
section-shifted n c b groups sections = ⊎_elim
    (λ low. lines-low n c groups (omega arith) (sections zero) ∙ ap (λ d. section_if c (element_at b d)) (sym low))
    (λ high. let same : n + (c - n) ≡ c = omega arith in
    ap (λ k. lines_of k (shifted n groups)) (sym same) ∙ lines-shifted n (c - n) groups
    ∙ ap (map (map (renumbered_row n))) (sections (c - n))
    ∙ section-moved n (c - n) (element_at b (c - n))
    ∙ ap (λ k. section_if k (element_at b (c - n))) same)
    (eq-zero-or-pos (c - n))

-- no row of the body ends a report
pub body-lasting : (b : List Collection) (rows : List Row) → (t : Tells b rows) → Each IsLasting t.body × Each IsLasting (rows_in t.groups)
body-lasting b rows t =
    let lasts = in-sections (λ c row. IsLasting row) IsLasting (λ c row h. h) b t.groups t.sections (λ c. section-lasting c (element_at b c)) in
    (all-lasting t.body (rows_in t.groups) t.spelled lasts, lasts)

-- the rows are a body and an `end` row, and others follow
pub then-others : (b : List Collection) (rows others : List Row) → (t : Tells b rows)
    → rows ++ others ≡ t.body ++ End (length b) (sayings_count b) ∷ others
then-others b rows others t =
    let last = End (length b) (sayings_count b) in
    ap (λ w. w ++ others) (t.whole ∙ ap (λ e. t.body ++ e) (end-is b)) ∙ append_assoc t.body (last ∷ []) others

-- What reports say of their bundles, where n collections come before them.
record TellOn (n : ℕ) (b : List Collection) (rows : List Row) : Type 0 where
  groups : List Owned
  sections : (c : ℕ) → lines_of c groups ≡ section_if c (element_at b (c - n))
  body : List Row
  spelled : map spelling body ≡ map spelling (rows_in groups)
  whole : numbered_on n rows ≡ body
  counted : (s : Sums) → sums_in s rows ≡ sums_plus s (record { collections = length b; patterns = sayings_count b })

one-more : (n : ℕ) (b more : List Collection) (rows others : List Row)
    → Tells b rows → TellOn (n + length b) more others → TellOn n (b ++ more) (rows ++ others)
one-more n b more rows others t rest =
    let last = End (length b) (sayings_count b) in
    let all = then-others b rows others t in
    let lasting = body-lasting b rows t in
    let on = map (renumbered_row n) in
    record {
      groups = shifted n t.groups ++ rest.groups;
      sections = λ c.
          let apart : c - (n + length b) ≡ c - n - length b = omega arith in
          lines_of-append c (shifted n t.groups) rest.groups
          ∙ ap (λ gs. gs ++ lines_of c rest.groups) (section-shifted n c b t.groups t.sections)
          ∙ ap (λ gs. section_if c (element_at b (c - n)) ++ gs) (rest.sections c ∙ ap (λ d. section_if c (element_at more d)) apart)
          ∙ sym (section-joined b more c (c - n));
      body = on t.body ++ rest.body;
      spelled = map-append spelling (on t.body) rest.body
          ∙ ap (λ ss. ss ++ map spelling rest.body) (same-moved n t.body (rows_in t.groups) t.spelled lasting.1 ∙ ap (map spelling) (rows-shifted n t.groups))
          ∙ ap (λ ss. map spelling (rows_in (shifted n t.groups)) ++ ss) rest.spelled
          ∙ sym (map-append spelling (rows_in (shifted n t.groups)) (rows_in rest.groups))
          ∙ ap (map spelling) (sym (rows-append (shifted n t.groups) rest.groups));
      whole = ap (numbered_on n) all ∙ on-rows n t.body (last ∷ others) lasting.0 ∙ ap (λ w. on t.body ++ w) rest.whole;
      counted = λ s.
          let counts = count-append b more in
          let lengths = length-append b more in
          let collections : s.collections + length b + length more ≡ s.collections + length (b ++ more) = omega arith in
          let patterns : s.patterns + sayings_count b + sayings_count more ≡ s.patterns + sayings_count (b ++ more) = omega arith in
          ap (sums_in s) all ∙ sums-rows s t.body (last ∷ others) lasting.0
          ∙ rest.counted (sums_plus s (record { collections = length b; patterns = sayings_count b }))
          ∙ (λ i. record { collections = collections i; patterns = patterns i });
    }

none-at : (c d : ℕ) → section_if c (element_at [] d) ≡ []
none-at c zero = refl
none-at c (suc k) = refl

each-more : (n : ℕ) (parts : List (List Collection)) (reports : List (List Row))
    → EachTells parts reports → TellOn n (joined parts) (all_rows reports)
each-more n [] [] h = record {
  groups = [];
  sections = λ c. sym (none-at c (c - n));
  body = [];
  spelled = refl;
  whole = refl;
  counted = λ s. let collections : s.collections ≡ s.collections + 0 = omega arith in
      let patterns : s.patterns ≡ s.patterns + 0 = omega arith in
      λ i. record { collections = collections i; patterns = patterns i };
}
each-more n [] (rows ∷ reports) h = absurd h
each-more n (b ∷ parts) [] h = absurd h
each-more n (b ∷ parts) (rows ∷ reports) h =
    one-more n b (joined parts) rows (all_rows reports) h.0 (each-more (n + length b) parts reports h.1)

pub joined-tell : (parts : List (List Collection)) (reports : List (List Row))
    → EachTells parts reports → Tells (joined parts) (merged_rows (all_rows reports))
joined-tell parts reports h =
    let all = each-more 0 parts reports h in
    let sums = all.counted no_sums in
    record {
      groups = all.groups;
      sections = λ c. let same : c - 0 ≡ c = omega arith in all.sections c ∙ ap (λ d. section_if c (element_at (joined parts) d)) same;
      body = all.body;
      spelled = all.spelled;
      whole = ap (λ w. w ++ End (sums_in no_sums (all_rows reports)).collections (sums_in no_sums (all_rows reports)).patterns ∷ []) all.whole
          ∙ ap (λ (s : Sums). all.body ++ End s.collections s.patterns ∷ []) sums
          ∙ (let collections : 0 + length (joined parts) ≡ length (joined parts) = omega arith in
          let patterns : 0 + sayings_count (joined parts) ≡ sayings_count (joined parts) = omega arith in
          λ i. all.body ++ End (collections i) (patterns i) ∷ [])
          ∙ ap (λ e. all.body ++ e) (sym (end-is (joined parts)));
    }
