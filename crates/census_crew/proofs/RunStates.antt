-- How the state of a run follows its collector.
use Rattle.std.proofs.Common.{◌≡◌, ℕ, ◌^◌, ◌<◌, ◌≤◌, List, Option, true, arith, sym, subst, ap, ◌∙◌}
use Rattle.census_bundle.specs.declared.bundle.Folder.{Folder}
use Rattle.census_bundle.specs.Sizes.{IsWithinCounts}
use Rattle.census_bundle.specs.Tickets.{Tickets, HasAllTickets}
use Rattle.census_book.specs.Collecting.{Offered}
use Rattle.census_book.specs.declared.offer.Offer.TheVariants.{Double, Stranger, Taken}
use Rattle.census_book.specs.declared.offer.Offer.{Offer}
use Rattle.census_format.specs.Lines.{answer_to_entry, is_refused, is_resolved, is_unresolved}
use Rattle.life_answer.specs.declared.finding.Answer.{Answer}
use Rattle.census_book.specs.Progress.{Progress, initial_progress}
use Rattle.census_book.specs.Work.{Work}
use Rattle.census_crew.specs.declared.tally.Tally.{Tally}
use Rattle.census_crew.specs.RunStates.{IsRunState}
use Rattle.census_crew.specs.Writing.{StaysInStep}
use Rattle.census_crew.specs.Tallying.{tally_with, no_tally, TalliesPatterns, TalliesTaken}
use Rattle.census_crew.proofs.Tallies.{all_counted, count_small, none_taken, one_taken}
use Rattle.life_answer.specs.Questions.{IsAnswered}
use Rattle.life_answer.specs.declared.question.Question.{Question}

pub state_start : (b : List Folder) (question : Question) (p : Progress) (t : Tally) → IsWithinCounts b → IsAnswered question → p ≡ initial_progress b question → t ≡ no_tally → IsRunState p t
state_start b question p t small lawful is none =
    subst (λ q. IsRunState q t) (sym is) (record {
      small = small;
      lawful = lawful;
      counted = subst (λ s. TalliesTaken s b question (initial_progress b question).taken) (sym none) (none_taken b question);
    })

pub state_sent : (p q : Progress) (t : Tally) → IsRunState p t → q.bundle ≡ p.bundle → q.question ≡ p.question → q.taken ≡ p.taken → IsRunState q t
state_sent p q t g bundle question taken = record {
  small = subst IsWithinCounts (sym bundle) g.small;
  lawful = subst IsAnswered (sym question) g.lawful;
  counted = subst (λ fs. TalliesTaken t fs q.question q.taken) (sym bundle)
      (subst (λ n. TalliesTaken t p.bundle n q.taken) (sym question)
      (subst (λ (s : Tickets). TalliesTaken t p.bundle p.question s) (sym taken) g.counted));
}

-- there are few enough patterns that one more can be counted
pub state_few : (p : Progress) (t : Tally) → IsRunState p t → (t.patterns < 2 ^ 63) × (t.resolved < 2 ^ 63) × (t.unresolved < 2 ^ 63) × (t.refused < 2 ^ 63)
state_few p t g = (
  few t.patterns _ g.counted.patterns (count_small (λ a. true) p.bundle p.question p.taken g.small),
  few t.resolved _ g.counted.resolved (count_small is_resolved p.bundle p.question p.taken g.small),
  few t.unresolved _ g.counted.unresolved (count_small is_unresolved p.bundle p.question p.taken g.small),
  few t.refused _ g.counted.refused (count_small is_refused p.bundle p.question p.taken g.small),
)
  where
    few : (n m : ℕ) → n ≡ m → m < 2 ^ 62 → n < 2 ^ 63
    few n m is lt = omega (arith, is, lt)

-- what else is counted doesn't matter
pub state_kept : (p q : Progress) (t u : Tally) → IsRunState p t → q ≡ p → u.patterns ≡ t.patterns → u.resolved ≡ t.resolved → u.unresolved ≡ t.unresolved → u.refused ≡ t.refused → IsRunState q u
state_kept p q t u g is patterns resolved unresolved refused =
    subst (λ r. IsRunState r u) (sym is) (record {
      small = g.small;
      lawful = g.lawful;
      counted = record {
        patterns = patterns ∙ g.counted.patterns;
        resolved = resolved ∙ g.counted.resolved;
        unresolved = unresolved ∙ g.counted.unresolved;
        refused = refused ∙ g.counted.refused;
      };
    })

pub state_taken : (p q : Progress) (t : Tally) (w : Work) → IsRunState p t → Offered p w q Taken → IsRunState q (tally_with t (answer_to_entry w.question w.entry))
state_taken p q t w g h =
    subst (λ r. IsRunState r (tally_with t (answer_to_entry w.question w.entry))) (sym h.1) (record {
      small = g.small;
      lawful = g.lawful;
      counted = one_taken p.bundle p.question p.taken w t h.0.0 h.0.1 g.counted;
    })

pub state_one : (p q : Progress) (t u : Tally) (w : Work) (o : Offer) (a : Answer) → IsRunState p t → o ≡ Taken → Offered p w q o → a ≡ answer_to_entry w.question w.entry → u ≡ tally_with t a → IsRunState q u
state_one p q t u w o a g taken h found is =
    subst (λ s. IsRunState q s) (sym (is ∙ ap (tally_with t) found))
    (state_taken p q t w g (subst (Offered p w q) taken h))

pub state_double : (p q : Progress) (t u : Tally) (w : Work) (o : Offer) → IsRunState p t → o ≡ Double → Offered p w q o → u.patterns ≡ t.patterns → u.resolved ≡ t.resolved → u.unresolved ≡ t.unresolved → u.refused ≡ t.refused → IsRunState q u
state_double p q t u w o g double h = state_kept p q t u g (subst (Offered p w q) double h).1

pub state_stranger : (p q : Progress) (t u : Tally) (w : Work) (o : Offer) → IsRunState p t → o ≡ Stranger → Offered p w q o → u.patterns ≡ t.patterns → u.resolved ≡ t.resolved → u.unresolved ≡ t.unresolved → u.refused ≡ t.refused → IsRunState q u
state_stranger p q t u w o g stranger h = state_kept p q t u g (subst (Offered p w q) stranger h).1

-- if nothing is missing, all patterns were counted
pub state_whole : (k m : Option (List ℕ)) (p q : Progress) (t : Tally) → IsRunState q t → StaysInStep k p m q → HasAllTickets q.bundle q.taken → TalliesPatterns p.bundle p.question t
state_whole k m p q t g stays all =
    subst (λ fs. TalliesPatterns fs p.question t) stays.same_bundle
    (subst (λ n. TalliesPatterns q.bundle n t) stays.same_question
    (all_counted q.bundle q.question q.taken t all g.counted))
