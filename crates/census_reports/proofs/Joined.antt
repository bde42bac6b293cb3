-- The rows of one more text.
use Rattle.std.proofs.Common.{◌≡◌, ℕ, suc, ◌+◌, ◌<◌, ◌≤◌, List, [], ◌∷◌, ◌++◌, length, take, drop, get_or, refl, sym, ap, subst, ◌∙◌, append-nil, drop-cons, Option, Some, None, Result, Err, MatchResult, arith}
use Rattle.std.specs.Prelude.{MatchOption}
use Rattle.std.specs.List.{AllZip}
use Rattle.std.proofs.lemmas.List.{length-take, length-take-le, take-append-drop, take_more}
use Rattle.census_rows.specs.declared.row.Row.{Row}
use Rattle.census_readback.specs.Reports.{IsFault, ReadsAsReports}
use Rattle.census_readback.specs.Shapes.{AreReports, all_rows}
use Rattle.census_readback.proofs.Walks.{joined-append, reports-append}
use Rattle.census_reports.specs.Rows.{AreRowsOf, HasReportFault}

pub rows_none : AreRowsOf [] []
rows_none = record { parts = []; whole = refl; each = tt }

zip_more : (parts : List (List Row)) (texts : List (List ℕ)) (own : List Row) (text : List ℕ) → AllZip ReadsAsReports parts texts → ReadsAsReports own text
    → AllZip ReadsAsReports (parts ++ own ∷ []) (texts ++ text ∷ [])
zip_more [] [] own text each is = (is, tt)
zip_more [] (t ∷ texts) own text each is = absurd each
zip_more (p ∷ parts) [] own text each is = absurd each
zip_more (p ∷ parts) (t ∷ texts) own text each is = (each.0, zip_more parts texts own text each.1 is)

rows_more : (rows own all : List Row) (texts : List (List ℕ)) (text : List ℕ) → AreRowsOf rows texts → ReadsAsReports own text → all ≡ rows ++ own
    → AreRowsOf all (texts ++ text ∷ [])
rows_more rows own all texts text before is e = record {
  parts = before.parts ++ own ∷ [];
  whole = e ∙ ap (λ l. l ++ own) before.whole ∙ ap (λ l. all_rows before.parts ++ l) (sym (append-nil own)) ∙ sym (joined-append before.parts (own ∷ []));
  each = zip_more before.parts texts own text before.each is;
}

-- # Several reports

reports_joined : (parts : List (List Row)) (texts : List (List ℕ)) → AllZip ReadsAsReports parts texts → 0 < length texts → AreReports (all_rows parts)
reports_joined [] [] each some = absurd (omega arith)
reports_joined [] (t ∷ texts) each some = absurd each
reports_joined (p ∷ parts) [] each some = absurd each
reports_joined (p ∷ []) (t ∷ []) each some = subst AreReports (sym (append-nil p)) each.0.shape
reports_joined (p ∷ []) (t ∷ u ∷ texts) each some = absurd each.1
reports_joined (p ∷ q ∷ parts) (t ∷ []) each some = absurd each.1
reports_joined (p ∷ q ∷ parts) (t ∷ u ∷ texts) each some =
    reports-append p (all_rows (q ∷ parts)) each.0.shape (reports_joined (q ∷ parts) (u ∷ texts) each.1 (omega arith))

are_reports : (rows : List Row) (texts : List (List ℕ)) → AreRowsOf rows texts → 0 < length texts → AreReports rows
are_reports rows texts is some = subst AreReports (sym is.whole) (reports_joined is.parts texts is.each some)

-- # The texts of a list

module _ (texts : List (List ℕ)) (i : ℕ) (d : List ℕ) (within : i < length texts) (rows : List Row) (before : AreRowsOf rows (take i texts)) where
  pub next_rows : (own all : List Row) → ReadsAsReports own (get_or texts i d) → all ≡ rows ++ own → AreRowsOf all (take (i + 1) texts)
  next_rows own all is e = subst (AreRowsOf all) (sym (take_more texts i d within)) (rows_more rows own all (take i texts) (get_or texts i d) before is e)

  pub has_fault : (line : ℕ) → ((own : List Row) → ReadsAsReports own (get_or texts i d) → ⊥) → IsFault (get_or texts i d) line → HasReportFault (i + 1) line texts
  has_fault line none first = record {
    done = take i texts;
    text = get_or texts i d;
    left = drop (suc i) texts;
    texts_are = sym (take-append-drop i texts) ∙ ap (λ l. take i texts ++ l) (drop-cons texts i d within);
    number_is = (let l = length-take-le i texts (omega arith) in omega arith);
    rows = rows;
    before = before;
    none = none;
    first = first;
  }

  module _ (bytes : List ℕ) (e : bytes ≡ get_or texts i d) where
    pub report_read : (all : List Row) → (own : List Row) × ReadsAsReports own bytes × (all ≡ rows ++ own) → AreRowsOf all (take (i + 1) texts)
    report_read all read = next_rows read.0 all (subst (ReadsAsReports read.0) e read.1) read.2

    pub fault_read : {A : Type 0} (read : Result A ℕ) (line : ℕ) → read ≡ Err line → (P : List Row → A → Type 0) → IsFault bytes line
        → ((own : List Row) → ReadsAsReports own bytes → MatchResult read (P own) (λ line. ⊥)) → HasReportFault (i + 1) line texts
    fault_read read line is P fault all =
        has_fault line (λ own report. subst (λ r. MatchResult r (P own) (λ line. ⊥)) is (all own (subst (ReadsAsReports own) (sym e) report))) (subst (λ t. IsFault t line) e fault)

  module _ (bytes : List ℕ) (e : bytes ≡ get_or texts i d) (fault : Option ℕ) (sound : MatchOption fault ((own : List Row) × ReadsAsReports own bytes) (λ line. IsFault bytes line)) where
    pub none_found : fault ≡ None → (all : List Row) × AreRowsOf all (take (i + 1) texts)
    none_found is =
        let read : (own : List Row) × ReadsAsReports own bytes = subst (λ o. MatchOption o ((own : List Row) × ReadsAsReports own bytes) (λ line. IsFault bytes line)) is sound in
        (rows ++ read.0, next_rows read.0 (rows ++ read.0) (subst (ReadsAsReports read.0) e read.1) refl)

    pub fault_found : (line : ℕ) → fault ≡ Some line → ((own : List Row) → ReadsAsReports own bytes → fault ≡ None) → HasReportFault (i + 1) line texts
    fault_found line is all =
        let first : IsFault bytes line = subst (λ o. MatchOption o ((own : List Row) × ReadsAsReports own bytes) (λ line. IsFault bytes line)) is sound in
        has_fault line (λ own report. (let e : Some line ≡ None = sym is ∙ all own (subst (ReadsAsReports own) (sym e) report) in absurd (cc))) (subst (λ t. IsFault t line) e first)

pub at_end : (rows : List Row) (texts : List (List ℕ)) (i : ℕ) → AreRowsOf rows (take i texts) → length texts ≤ i → 0 < length texts → AreReports rows
at_end rows texts i is all some = are_reports rows (take i texts) is (let l = length-take i texts in omega arith)
