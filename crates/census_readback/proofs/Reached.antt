-- How far the rows of a text are read.
use Rattle.std.proofs.Common.{◌≡◌, ◌≢◌, ℕ, List, [], ◌∷◌, ◌++◌, append_assoc, ◌∙◌, sym, refl}
use Rattle.std.proofs.lemmas.List.{append-nil}
use Rattle.census_rows.specs.declared.row.Row.{Row}
use Rattle.census_rows.specs.Lines.{SameRow, row_text, line_of, text_of}
use Rattle.census_readback.specs.Texts.{AllLines, IsLine, IsStuck, SameRows}

-- of these rows, which come before a text, those that have been read and those that have not
pub record Reached (rows : List Row) (after : List ℕ) (done : List Row) (rest : List ℕ) : Type 0 where
  pub old : List Row
  pub todo : List Row
  pub whole : rows ≡ old ++ todo
  pub same : SameRows done old
  pub lines : AllLines todo
  pub left : rest ≡ text_of todo ++ after

pub reached-start : (rows : List Row) (after text : List ℕ) → AllLines rows → text ≡ text_of rows ++ after → Reached rows after [] text
reached-start rows after text lines e = record { old = []; todo = rows; whole = refl; same = tt; lines = lines; left = e }

same-more : (xs ys : List Row) (x y : Row) → SameRows xs ys → SameRow x y → SameRows (xs ++ x ∷ []) (ys ++ y ∷ [])
same-more [] [] x y h k = (k, tt)
same-more [] (b ∷ ys) x y h k = absurd h
same-more (a ∷ xs) [] x y h k = absurd h
same-more (a ∷ xs) (b ∷ ys) x y h k = (h.0, same-more xs ys x y h.1 k)

-- the next of the rows is what was read
more : (rows : List Row) (after : List ℕ) (done : List Row) (rest : List ℕ) (x : Row) (behind : List ℕ) (old todo : List Row)
    → rows ≡ old ++ todo → SameRows done old → AllLines todo → rest ≡ text_of todo ++ after → IsStuck after → IsLine x → rest ≡ line_of x ++ behind
    → ((q : Row) (b : List ℕ) → IsLine q → rest ≡ line_of q ++ b → SameRow x q × (behind ≡ b))
    → Reached rows after (done ++ x ∷ []) behind
more rows after done rest x behind old [] whole same lines left stuck is e all = absurd (stuck x behind is (sym left ∙ e))
more rows after done rest x behind old (q ∷ todo) whole same lines left stuck is e all =
    let told = all q (text_of todo ++ after) lines.0 (left ∙ append_assoc (line_of q) (text_of todo) after) in
    record {
      old = old ++ q ∷ [];
      todo = todo;
      whole = whole ∙ sym (append_assoc old (q ∷ []) todo);
      same = same-more done old x q same told.0;
      lines = lines.1;
      left = told.1;
    }

pub reached-more : (rows : List Row) (after : List ℕ) (done : List Row) (rest : List ℕ) (x : Row) (behind : List ℕ) → Reached rows after done rest
    → IsStuck after → IsLine x → rest ≡ line_of x ++ behind
    → ((q : Row) (b : List ℕ) → IsLine q → rest ≡ line_of q ++ b → SameRow x q × (behind ≡ b))
    → Reached rows after (done ++ x ∷ []) behind
reached-more rows after done rest x behind r stuck is e all = more rows after done rest x behind r.old r.todo r.whole r.same r.lines r.left stuck is e all

-- none of the rows is left
ended : (rows : List Row) (after : List ℕ) (done : List Row) (rest : List ℕ) (old todo : List Row)
    → rows ≡ old ++ todo → SameRows done old → AllLines todo → rest ≡ text_of todo ++ after → IsStuck rest → SameRows done rows × (rest ≡ after)
ended rows after done rest old [] whole same lines left stuck = (rw (whole, append-nil old) same, left)
ended rows after done rest old (q ∷ todo) whole same lines left stuck =
    absurd (stuck q (text_of todo ++ after) lines.0 (left ∙ append_assoc (line_of q) (text_of todo) after))

pub reached-end : (rows : List Row) (after : List ℕ) (done : List Row) (rest : List ℕ) → Reached rows after done rest → IsStuck rest
    → SameRows done rows × (rest ≡ after)
reached-end rows after done rest r stuck = ended rows after done rest r.old r.todo r.whole r.same r.lines r.left stuck

-- an empty text has no line
no-bytes : (bytes after : List ℕ) → [] ≢ (bytes ++ 10 ∷ []) ++ after
no-bytes [] after e = cc
no-bytes (b ∷ bytes) after e = cc

pub stuck-at-end : IsStuck []
stuck-at-end = λ row after is e. no-bytes (row_text row) after e
