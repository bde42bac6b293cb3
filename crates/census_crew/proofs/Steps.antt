-- The steps of a run, between a collector and a writer.
use Rattle.std.proofs.Common.{◌≡◌, ℕ, List, [], ◌∷◌, ◌++◌, length, take, drop, refl, sym, ap, subst, ◌∙◌, append_assoc, append-nil, Option, false}
use Rattle.std.proofs.KnownBytes.{Appends-nil, Appends-trans}
use Rattle.std.proofs.lemmas.List.{take-append-drop}
use Rattle.std.specs.Io.KnownBytes.{Appends}
use Rattle.watched.specs.Watching.{AppendsFront}
use Rattle.census_bundle.specs.declared.ticket.Ticket.{Ticket}
use Rattle.census_bundle.specs.declared.bundle.Folder.{Folder}
use Rattle.census_bundle.specs.Tickets.{IsTicketOf, HasAllTickets, has_ticket}
use Rattle.census_format.specs.Reports.{text_released}
use Rattle.census_book.specs.Released.{IsReleased}
use Rattle.census_book.specs.Progress.{Progress, initial_progress, with_taken, sent_of}
use Rattle.census_book.specs.Work.{Work}
use Rattle.census_crew.specs.Writing.{EndsInStep, WritesReport, WritesPrefix, IsInStep, StaysInStep, StopsInStep}
use Rattle.census_book.specs.declared.offer.Offer.{Offer}
use Rattle.census_book.specs.declared.offer.Offer.TheVariants.{Stranger, Double, Taken}
use Rattle.census_book.specs.Collecting.{Offered}
use Rattle.census_book.proofs.Releases.{released_start, released_more, released_front, released_whole}
use Rattle.life_answer.specs.declared.question.Question.{Question}

pub in_step_start : (k : Option (List ℕ)) (b : List Folder) (question : Question) → IsInStep k k (initial_progress b question)
in_step_start k b question = record { text = []; released = released_start b question; written = Appends-nil k }

pub in_step_more : (old new : Option (List ℕ)) (p : Progress) (t : Ticket) → IsInStep old new p → IsTicketOf p.bundle t → has_ticket p.taken t ≡ false → IsInStep old new (with_taken p t)
in_step_more old new p t s of not = record {
  text = s.text;
  released = subst (IsReleased p.bundle p.question _) (append_assoc s.text p.unsent (text_released p.bundle p.question p.taken t)) (released_more p.bundle p.question p.taken _ t s.released of not);
  written = s.written;
}

drop_length : (xs : List ℕ) → drop (length xs) xs ≡ []
drop_length [] = refl
drop_length (x ∷ xs) = drop_length xs

pub drop_all : (xs : List ℕ) (n : ℕ) → length xs ≡ n → drop n xs ≡ []
drop_all xs n e = subst (λ k. drop k xs ≡ []) e (drop_length xs)

pub in_step_sent : (old mid new : Option (List ℕ)) (p : Progress) (n : ℕ) → IsInStep old mid p → Appends mid new p.unsent → length p.unsent ≡ n → IsInStep old new (sent_of p n)
in_step_sent old mid new p n s sent all = record {
  text = s.text ++ p.unsent;
  released = subst (IsReleased p.bundle p.question p.taken) (sym (ap (λ r. (s.text ++ p.unsent) ++ r) (drop_all p.unsent n all) ∙ append-nil _)) s.released;
  written = Appends-trans old mid new s.text p.unsent s.written sent;
}

pub front_of_step : (old new : Option (List ℕ)) (p : Progress) → IsInStep old new p → WritesPrefix old new p.bundle p.question
front_of_step old new p s = record { text = s.text; front = released_front p.bundle p.question p.taken s.text p.unsent s.released; written = s.written }

pub front_of_cut : (old mid new : Option (List ℕ)) (p : Progress) → IsInStep old mid p → AppendsFront mid new p.unsent → WritesPrefix old new p.bundle p.question
front_of_cut old mid new p s (n, within, cut) = record {
  text = s.text ++ take n p.unsent;
  front = released_front p.bundle p.question p.taken (s.text ++ take n p.unsent) (drop n p.unsent) (subst (IsReleased p.bundle p.question p.taken) (sym (append_assoc s.text (take n p.unsent) (drop n p.unsent) ∙ ap (λ r. s.text ++ r) (take-append-drop n p.unsent))) s.released);
  written = Appends-trans old mid new s.text (take n p.unsent) s.written cut;
}

pub report_of_step : (old new : Option (List ℕ)) (p : Progress) → IsInStep old new p → HasAllTickets p.bundle p.taken → p.unsent ≡ [] → WritesReport old new p.bundle p.question
report_of_step old new p s all none = record {
  text = s.text;
  report = released_whole p.bundle p.question p.taken s.text (subst (IsReleased p.bundle p.question p.taken) (ap (λ r. s.text ++ r) none ∙ append-nil s.text) s.released) all;
  written = s.written;
}

pub stays_refl : (k : Option (List ℕ)) (p : Progress) → StaysInStep k p k p
stays_refl k p = record { same_bundle = refl; same_question = refl; in_step = λ base s. s }

pub stays_trans : (k l m : Option (List ℕ)) (p q r : Progress) → StaysInStep k p l q → StaysInStep l q m r → StaysInStep k p m r
stays_trans k l m p q r one two = record {
  same_bundle = two.same_bundle ∙ one.same_bundle;
  same_question = two.same_question ∙ one.same_question;
  in_step = λ base s. two.in_step base (one.in_step base s);
}

pub stays_sent : (old new : Option (List ℕ)) (p : Progress) → (n : ℕ) → Appends old new p.unsent → length p.unsent ≡ n → StaysInStep old p new (sent_of p n)
stays_sent old new p n sent all = record {
  same_bundle = refl;
  same_question = refl;
  in_step = λ base s. in_step_sent base old new p n s sent all;
}

pub stays_more : (k : Option (List ℕ)) (p : Progress) (t : Ticket) → IsTicketOf p.bundle t → has_ticket p.taken t ≡ false → StaysInStep k p k (with_taken p t)
stays_more k p t of not = record { same_bundle = refl; same_question = refl; in_step = λ base s. in_step_more base k p t s of not }

pub stops_cut : (old new : Option (List ℕ)) (p : Progress) → AppendsFront old new p.unsent → StopsInStep old p new
stops_cut old new p cut = record { front = λ base s. front_of_cut base old new p s cut }

-- what was in step with p is in step with q, and then it stops
pub stops_after : (k l m : Option (List ℕ)) (p q : Progress) → StaysInStep k p l q → StopsInStep l q m → StopsInStep k p m
stops_after k l m p q stays stops =
    let P : List Folder → Type 0 = λ b. (base : Option (List ℕ)) → IsInStep base k p → WritesPrefix base m b p.question in
    let Q : Question → Type 0 = λ n. (base : Option (List ℕ)) → IsInStep base k p → WritesPrefix base m q.bundle n in
    record { front = subst P stays.same_bundle (subst Q stays.same_question (λ base s. stops.front base (stays.in_step base s))) }

pub stops_here : (k : Option (List ℕ)) (p : Progress) → StopsInStep k p k
stops_here k p = record { front = λ base s. front_of_step base k p s }

pub stays_offered : (k : Option (List ℕ)) (p q : Progress) (w : Work) (o : Offer) → Offered p w q o → StaysInStep k p k q
stays_offered k p q w Stranger h = subst (StaysInStep k p k) (sym h.1) (stays_refl k p)
stays_offered k p q w Double h = subst (StaysInStep k p k) (sym h.1) (stays_refl k p)
stays_offered k p q w Taken h =
    subst (StaysInStep k p k) (sym h.1) (stays_more k p w.ticket (h.0.0.entry, h.0.0.at) h.0.1)

pub front_at_start : (k : Option (List ℕ)) (b : List Folder) (question : Question) → WritesPrefix k k b question
front_at_start k b question = front_of_step k k (initial_progress b question) (in_step_start k b question)

pub front_from_start : (k m : Option (List ℕ)) (p : Progress) (b : List Folder) (question : Question) → p ≡ initial_progress b question → StopsInStep k p m → WritesPrefix k m b question
front_from_start k m p b question is stops =
    let s : StopsInStep k (initial_progress b question) m = subst (λ q. StopsInStep k q m) is stops in
    s.front k (in_step_start k b question)

-- what stays in step with a collector that has everything and has sent everything ends with a report
pub ends_whole : (k m : Option (List ℕ)) (p q : Progress) → StaysInStep k p m q → q.unsent ≡ [] → HasAllTickets q.bundle q.taken → EndsInStep k p m
ends_whole k m p q stays none all =
    let P : List Folder → Type 0 = λ b. (base : Option (List ℕ)) → IsInStep base k p → WritesReport base m b p.question in
    let Q : Question → Type 0 = λ n. (base : Option (List ℕ)) → IsInStep base k p → WritesReport base m q.bundle n in
    record { report = subst P stays.same_bundle (subst Q stays.same_question (λ base s. report_of_step base m q (stays.in_step base s) all none)) }

pub report_at_end : (k l m : Option (List ℕ)) (p q : Progress) (b : List Folder) (question : Question) → p ≡ initial_progress b question → StaysInStep k p l q → EndsInStep l q m → WritesReport k m b question
report_at_end k l m p q b question is stays ends =
    let s : StaysInStep k (initial_progress b question) l q = subst (λ q'. StaysInStep k q' l q) is stays in
    let w = ends.report k (s.in_step k (in_step_start k b question)) in
    let P : List Folder → Type 0 = λ fs. WritesReport k m fs question in
    let Q : Question → Type 0 = λ n. WritesReport k m q.bundle n in
    subst P s.same_bundle (subst Q s.same_question w)
