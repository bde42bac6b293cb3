-- Lawful reports with numbers in range are read back.
use Rattle.std.proofs.Common.{◌≡◌, ℕ, zero, suc, ◌-◌, ◌<◌, ◌≤◌, ◌^◌, ⊎_elim, eq-zero-or-pos, None as Nothing, Option, Some, List, [], ◌∷◌, ◌++◌, length, slice_get, ap, ◌∙◌, sym, refl, arith, subst, append-nil}
use Rattle.std.specs.List.{AllByRecursion as Each}
use Rattle.std.proofs.lemmas.Option.{slice_get_past}
use Rattle.census_format.specs.Lines.{Collection, sayings_count}
use Rattle.census_format.specs.Reports.{IsReportOf, Owned, end_of, section, section_if}
use Rattle.census_readback.specs.Shapes.{AreOfCollections, IsSection, IsWholeReport, all_rows, patterns_in, rows_of}
use Rattle.census_readback.specs.Steps.{collection_of}
use Rattle.census_readback.specs.Texts.{AllLines, IsLine}
use Rattle.census_readback.specs.Told.{nothing_told, told_by}
use Rattle.census_readback.proofs.Rows.{lines-more}
use Rattle.census_rows.specs.declared.row.Row.{Row}
use Rattle.census_rows.specs.declared.row.Row.TheVariants.{End}
use Rattle.census_rows.specs.Lines.{text_of}
use Rattle.census_merge.specs.Ranges.{Readable}
use Rattle.census_merge.specs.Telling.{rows_in}
use Rattle.census_merge.proofs.OpenedPatterns.{patterns-counted, size_of}
use Rattle.census_merge.proofs.Formed.{section-formed, section-opens}
use Rattle.census_merge.proofs.Grouped.{EachIn, IsIn, each-then, in-groups, in-rows, rows-grouped}
use Rattle.census_merge.proofs.Named.{IsCut, few-patterns, sections-cut}
use Rattle.census_merge.proofs.Parsed.{end-cut}
use Rattle.census_merge.proofs.Ranged.{IsFit, rows-fit}
use Rattle.census_merge.proofs.Rowed.{end-is}
use Rattle.census_merge.proofs.Texts.{owned-rows}
use Rattle.census_rows.proofs.Texts.{text-append}
use Rattle.census_merge.proofs.Told.{report-tells}
use Rattle.census_merge.specs.Lawful.{AreSayable, IsLawfulCollection, IsSayableCollection, IsToldCollection}

-- the row is on a line, and its collection is c, one of `most`
abbrev IsPlaced : ℕ → ℕ → Row → Type 0
IsPlaced most c row = IsLine row × (collection_of row ≡ c) × (0 < c) × (c ≤ most)

place-one : (most c : ℕ) (rows : List Row) → 0 < c → c ≤ most → Each (IsFit c) rows → Each IsCut rows → Each (IsPlaced most c) rows
place-one most c [] low high h p = tt
place-one most c (row ∷ rows) low high h p = (((h.0.2, p.0.0.flat), h.0.0, low, high), place-one most c rows low high h.1 p.1)

place-all : (most c : ℕ) (all : List (List Row)) → 0 < c → c ≤ most → Each (Each (IsFit c)) all → Each (Each IsCut) all → Each (Each (IsPlaced most c)) all
place-all most c [] low high h p = tt
place-all most c (rows ∷ all) low high h p = (place-one most c rows low high h.0 p.0, place-all most c all low high h.1 p.1)

-- the row is on a line, and its collection is one of `most`
abbrev IsOfMany : ℕ → Row → Type 0
IsOfMany most row = IsLine row × (0 < collection_of row) × (collection_of row ≤ most)

of-many : (most c : ℕ) (row : Row) → IsPlaced most c row → IsOfMany most row
of-many most c row h = (h.0, subst (λ k. 0 < k) (sym h.1) h.2, subst (λ k. k ≤ most) (sym h.1) h.3)

placed-lines : (most : ℕ) (rows : List Row) → Each (IsOfMany most) rows → AllLines rows
placed-lines most [] h = tt
placed-lines most (row ∷ rows) h = (h.0.0, placed-lines most rows h.1)

placed-of : (most : ℕ) (rows : List Row) → Each (IsOfMany most) rows → AreOfCollections most rows
placed-of most [] h = tt
placed-of most (row ∷ rows) h = (h.0.1, h.0.2, placed-of most rows h.1)

formed-at : (c : ℕ) (b : List Collection) (k : ℕ) → k < length b → Each IsSayableCollection b → Each IsLawfulCollection b → IsSection (all_rows (section_if c (slice_get b k)))
formed-at c [] k less few lawful = absurd (omega arith)
formed-at c (f ∷ b) zero less few lawful = section-formed c f few.0.few lawful.0
formed-at c (f ∷ b) (suc k) less few lawful = formed-at c b k (omega arith) few.1 lawful.1

pub opens-at : (c : ℕ) (o : Option Collection) → patterns_in (all_rows (section_if c o)) ≡ size_of o
opens-at c Nothing = refl
opens-at c (Some f) = section-opens c f

module _ (b : List Collection) (sayable : AreSayable b) (lawful : Each IsLawfulCollection b) where
  placed : (c : ℕ) → Each (Each (IsPlaced (length b) c)) (section b c)
  placed zero = tt
  placed (suc k) = ⊎_elim
      (λ past. subst (λ o. Each (Each (IsPlaced (length b) (suc k))) (section_if (suc k) o)) (sym (slice_get_past b k (omega arith))) tt)
      (λ some. place-all (length b) (suc k) (section b (suc k)) (omega arith) (omega arith) (rows-fit b sayable (each-then IsLawfulCollection IsToldCollection (λ f h. h.told) b lawful) (suc k)) (sections-cut b sayable (suc k)))
      (eq-zero-or-pos (length b - k))

  each-placed : (text : List ℕ) → (report : IsReportOf b text) → EachIn (IsPlaced (length b)) report.groups
  each-placed text report = in-groups (IsPlaced (length b)) report.groups (λ c. subst (Each (Each (IsPlaced (length b) c))) (sym (report.sections c)) (placed c))

  abbrev the_end : Row
  the_end = End (length b) (sayings_count b)

  whole-of : (body : List Row) → AreOfCollections (length b) body → ((c : ℕ) → rows_of c body ≡ all_rows (section b c))
      → told_by nothing_told (body ++ the_end ∷ []) ≡ Some nothing_told → IsWholeReport (body ++ the_end ∷ [])
  whole-of body owned sections tells =
      let counted = patterns-counted body b owned (λ k. ap patterns_in (sections (suc k)) ∙ opens-at (suc k) (slice_get b k)) in
      let all = few-patterns b sayable in
      record {
        body = body;
        collections = length b;
        whole = ap (λ n. body ++ End (length b) n ∷ []) (sym counted);
        owned = owned;
        sections = λ c. elim c as (λ c. 0 < c → c ≤ length b → IsSection (rows_of c body)) [
          | zero ↦ λ low high. absurd (omega arith)
          | suc k ↦ λ low high. subst IsSection (sym (sections (suc k))) (formed-at (suc k) b k (omega arith) sayable.each lawful)
        ];
        few = sayable.few;
        fits = omega (arith, counted, all);
        tells = tells;
      }

  pub report-read : (text : List ℕ) → IsReportOf b text → Readable text
  report-read text report =
      let body = rows_in report.groups in
      let placed_each = each-placed text report in
      let each = in-rows (IsPlaced (length b)) (IsOfMany (length b)) (of-many (length b)) report.groups placed_each in
      let own = each-then (λ (l : Owned). Each (IsPlaced (length b) l.owner) l.group) (λ (l : Owned). Each (IsIn l.owner) l.group)
      (λ l. each-then (IsPlaced (length b) l.owner) (IsIn l.owner) (λ row h. h.1) l.group) report.groups placed_each in
      let rows = body ++ the_end ∷ [] in
      let few : length b < 2 ^ 64 = (let most_of = sayable.few in omega (arith, most_of)) in
      record {
        rows = rows;
        read = record {
          lines = lines-more body the_end (placed-lines (length b) body each)
              ((few, few-patterns b sayable), (end-cut (length b) (sayings_count b)).flat);
          whole = report.whole ∙ ap (λ w. w ++ text_of (end_of b)) (owned-rows report.groups) ∙ ap (λ rows. text_of body ++ text_of rows) (end-is b)
              ∙ sym (text-append body (the_end ∷ []));
          shape = record {
            reports = rows ∷ [];
            some = omega arith;
            whole = sym (append-nil rows);
            each = (
              whole-of body (placed-of (length b) body each) (λ c. rows-grouped c report.groups own ∙ ap all_rows (report.sections c))
                  (report-tells b report.groups (length b) (sayings_count b) sayable lawful report.sections),
              tt,
            );
          };
        };
      }
