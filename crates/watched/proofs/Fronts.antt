-- Writing a list of bytes front by front.
use Rattle.std.proofs.Common.{◌≡◌, ℕ, ◌+◌, List, [], ◌∷◌, ◌++◌, length, take, drop, refl, sym, ap, subst, ◌∙◌, append_assoc, append-nil, length-append, arith, Option}
use Rattle.std.proofs.KnownBytes.{Appends-nil, Appends-trans, Appends-kept}
use Rattle.std.proofs.Math.Seq.{take-append_seam}
use Rattle.std.proofs.lemmas.List.{take-append-drop}
use Rattle.std.specs.Io.KnownBytes.{Appends, Keeps}
use Rattle.watched.specs.Watching.{AppendsFront}

-- a prefix of these bytes was written, and this is the rest
pub record IsFrontWritten (old new : Option (List ℕ)) (bytes rest : List ℕ) : Type 0 where
  pub front : List ℕ
  pub whole : bytes ≡ front ++ rest
  pub written : Appends old new front

pub front_none : (old : Option (List ℕ)) (bytes : List ℕ) → IsFrontWritten old old bytes bytes
front_none old bytes = record { front = []; whole = refl; written = Appends-nil old }

pub front_more : (old mid new : Option (List ℕ)) (bytes rest rest' : List ℕ) (n : ℕ) → IsFrontWritten old mid bytes rest → Appends mid new (take n rest) → rest' ≡ drop n rest → IsFrontWritten old new bytes rest'
front_more old mid new bytes rest rest' n w more e = record {
  front = w.front ++ take n rest;
  whole = w.whole ∙ ap (λ r. w.front ++ r) (sym (take-append-drop n rest) ∙ ap (λ r. take n rest ++ r) (sym e)) ∙ sym (append_assoc w.front (take n rest) rest');
  written = Appends-trans old mid new w.front (take n rest) w.written more;
}

pub front_err : (old mid new : Option (List ℕ)) (bytes rest : List ℕ) → IsFrontWritten old mid bytes rest → Keeps mid new → AppendsFront old new bytes
front_err old mid new bytes rest w kept = (
  length w.front,
  (let e : length bytes ≡ length w.front + length rest = ap length w.whole ∙ length-append w.front rest in omega arith),
  subst (Appends old new) (sym (take-append_seam w.front rest) ∙ ap (take (length w.front)) (sym w.whole)) (Appends-kept old mid new w.front w.written kept),
)

pub front_all : (old new : Option (List ℕ)) (bytes rest : List ℕ) → length rest ≡ 0 → IsFrontWritten old new bytes rest → Appends old new bytes
front_all old new bytes [] none w = subst (Appends old new) (sym (append-nil w.front) ∙ sym w.whole) w.written
front_all old new bytes (x ∷ rest) none w = absurd (omega arith)
