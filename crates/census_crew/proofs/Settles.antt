-- The results of a list, offered one after another, and the end of a run.
use Rattle.std.proofs.Common.{◌≡◌, ℕ, ◌+◌, ◌^◌, ◌<◌, ◌≤◌, List, [], ◌∷◌, length, Option, Result, Ok, Err, MatchResult, inl, inr, refl, sym, subst, arith}
use Rattle.census_bundle.specs.declared.bundle.Folder.{Folder}
use Rattle.census_book.specs.Progress.{Progress, initial_progress}
use Rattle.census_book.specs.Work.{Work}
use Rattle.census_crew.specs.declared.tally.Tally.{Tally}
use Rattle.census_crew.specs.Strangers.{HasStrangers, NotesStranger}
use Rattle.census_crew.specs.Writing.{EndsInStep, StaysInStep, StopsInStep, WritesPrefix, WritesReport}
use Rattle.census_crew.proofs.Steps.{front_from_start, report_at_end, stops_after}
use Rattle.life_answer.specs.declared.question.Question.{Question}

-- n strangers were counted before the rest of the results
pub record CountedBefore (b : List Folder) (question : Question) (all rest : List Work) (n : ℕ) : Type 0 where
  pub with_rest : (m : ℕ) → HasStrangers b question rest m → HasStrangers b question all (n + m)
  pub few : n + length rest ≤ length all

pub counted_first : (b : List Folder) (question : Question) (all rest : List Work) (n : ℕ) → rest ≡ all → n ≡ 0 → CountedBefore b question all rest n
counted_first b question all rest n is none = subst (λ ws. CountedBefore b question all ws n) (sym is) (record {
  with_rest = λ m h. subst (HasStrangers b question all) (let e : m ≡ n + m = omega (arith, none) in e) h;
  few = omega (arith, none);
})

pub counted_more : (b b' : List Folder) (question question' : Question) (all rest rest' : List Work) (w : Work) (n k : ℕ) → b' ≡ b → question' ≡ question → rest ≡ w ∷ rest' → length all < 2 ^ 64 → CountedBefore b question all rest n → NotesStranger b' question' w n k → CountedBefore b question all rest' k
counted_more b b' question question' all rest rest' w n k is_b is_question is small before notes =
    step (subst (λ ws. CountedBefore b question all ws n) is before) (subst (λ fs. NotesStranger fs question w n k) is_b (subst (λ m. NotesStranger b' m w n k) is_question notes))
  where
    step : CountedBefore b question all (w ∷ rest') n → NotesStranger b question w n k → CountedBefore b question all rest' k
    step c (inl one) =
        let few = c.few in
        let same = one.1 in
        record {
          with_rest = λ m h. subst (λ x. HasStrangers b question all (x + m)) (sym same) (c.with_rest m (m, inl (one.0, refl), h));
          few = omega (arith, few, same);
        }
    step c (inr not) =
        let few = c.few in
        let more : k ≡ n + 1 = not.1 (omega (arith, few, small)) in
        record {
          with_rest = λ m h. subst (HasStrangers b question all) (let e : n + (m + 1) ≡ k + m = omega (arith, more) in e) (c.with_rest (m + 1) (m, inr (not.0, refl), h));
          few = omega (arith, few, more);
        }

pub counted_last : (b : List Folder) (question : Question) (ws all rest : List Work) (n : ℕ) → all ≡ ws → length rest ≡ 0 → CountedBefore b question all rest n → HasStrangers b question ws n
counted_last b question ws all [] n is none before =
    subst (λ xs. HasStrangers b question xs n) is
    (subst (HasStrangers b question all) (let e : n + 0 ≡ n = omega arith in e) (before.with_rest 0 refl))
counted_last b question ws all (x ∷ rest) n is none before = absurd (omega (arith, none))

pub ends_report : {E : Type 0} (r : Result Tally E) (k l m : Option (List ℕ)) (p q : Progress) (b : List Folder) (question : Question) → p ≡ initial_progress b question → StaysInStep k p l q → MatchResult r (λ _. EndsInStep l q m) (λ _. StopsInStep l q m) → MatchResult r (λ _. WritesReport k m b question) (λ _. WritesPrefix k m b question)
ends_report (Ok t) k l m p q b question is stays ends = report_at_end k l m p q b question is stays ends
ends_report (Err e) k l m p q b question is stays stops = front_from_start k m p b question is (stops_after k l m p q stays stops)
