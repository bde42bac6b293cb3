-- Whatever the order of arrival, what is released is lawful.
use Rattle.std.proofs.Common.{◌≡◌, ℕ, List, [], ◌∷◌, ◌++◌, refl, sym, ap, subst, ◌∙◌, append_assoc, append-nil}
use Rattle.census_bundle.specs.declared.bundle.Folder.{Folder}
use Rattle.census_bundle.specs.declared.ticket.Ticket.{Ticket}
use Rattle.census_bundle.specs.Tickets.{Tickets, no_tickets, with_ticket, entry_at, IsTicketOf}
use Rattle.census_format.specs.Reports.{text_at_start, text_released}
use Rattle.census_book.specs.Released.{IsReleased}
use Rattle.census_book.specs.declared.offer.Offer.{Offer}
use Rattle.census_book.specs.declared.offer.Offer.TheVariants.{Stranger, Double, Taken}
use Rattle.census_book.specs.Collecting.{Offered}
use Rattle.census_book.specs.Orders.{AreNew, texts_released, with_all, OrdersAreLawful, OfferedAll, ArrivalsAreLawful}
use Rattle.census_book.specs.Progress.{Progress, initial_progress}
use Rattle.census_book.specs.Work.{Work}
use Rattle.census_book.proofs.Releases.{released_start, released_more, released_front, released_whole}
use Rattle.life_answer.specs.declared.question.Question.{Question}

released_all : (b : List Folder) (question : Question) (taken : Tickets) (text : List ℕ) (ts : List Ticket) → IsReleased b question taken text → AreNew b taken ts → IsReleased b question (with_all taken ts) (text ++ texts_released b question taken ts)
released_all b question taken text [] released new = subst (IsReleased b question taken) (sym (append-nil text)) released
released_all b question taken text (t ∷ ts) released new =
    subst (IsReleased b question (with_all (with_ticket taken t) ts)) (append_assoc text (text_released b question taken t) (texts_released b question (with_ticket taken t) ts))
    (released_all b question (with_ticket taken t) (text ++ text_released b question taken t) ts (released_more b question taken text t released new.0 new.1) new.2)

pub orders_are_lawful : OrdersAreLawful
orders_are_lawful b question ts new =
    let whole = text_at_start b question ++ texts_released b question no_tickets ts in
    let released = released_all b question no_tickets (text_at_start b question) ts (released_start b question) new in (
      released_front b question (with_all no_tickets ts) whole [] (subst (IsReleased b question (with_all no_tickets ts)) (sym (append-nil whole)) released),
      λ all. released_whole b question (with_all no_tickets ts) whole released all,
    )

-- what was released so far, and for which bundle and question
record IsUnderWay (b : List Folder) (question : Question) (p : Progress) : Type 0 where
  same_bundle : p.bundle ≡ b
  same_question : p.question ≡ question
  released : IsReleased b question p.taken p.unsent

way_step : (b : List Folder) (question : Question) (p q : Progress) (w : Work) (o : Offer) → IsUnderWay b question p → Offered p w q o → IsUnderWay b question q
way_step b question p q w Stranger way offered = subst (IsUnderWay b question) (sym offered.1) way
way_step b question p q w Double way offered = subst (IsUnderWay b question) (sym offered.1) way
way_step b question p q w Taken way offered =
    let t = w.ticket in
    let belongs = offered.0.0 in
    let of : IsTicketOf b t = (belongs.entry, ap (λ fs. entry_at fs t) (sym way.same_bundle) ∙ belongs.at) in
    let more : IsReleased b question (with_ticket p.taken t) (p.unsent ++ text_released b question p.taken t) = released_more b question p.taken p.unsent t way.released of offered.0.1 in
    let told : text_released b question p.taken t ≡ text_released p.bundle p.question p.taken t = ap (λ fs. text_released fs question p.taken t) (sym way.same_bundle) ∙ ap (λ m. text_released p.bundle m p.taken t) (sym way.same_question) in
    subst (IsUnderWay b question) (sym offered.1) (record {
      same_bundle = way.same_bundle;
      same_question = way.same_question;
      released = subst (λ x. IsReleased b question (with_ticket p.taken t) (p.unsent ++ x)) told more;
    })

way_all : (b : List Folder) (question : Question) (p r : Progress) (ws : List Work) → IsUnderWay b question p → OfferedAll p ws r → IsUnderWay b question r
way_all b question p r [] way all = subst (IsUnderWay b question) (sym all) way
way_all b question p r (w ∷ ws) way all = way_all b question all.0 r ws (way_step b question p all.0 w all.1 way all.2) all.3

pub arrivals_are_lawful : ArrivalsAreLawful
arrivals_are_lawful b question ws p all =
    let way = way_all b question (initial_progress b question) p ws (record { same_bundle = refl; same_question = refl; released = released_start b question }) all in (
      released_front b question p.taken p.unsent [] (subst (IsReleased b question p.taken) (sym (append-nil p.unsent)) way.released),
      λ whole. released_whole b question p.taken p.unsent way.released whole,
    )
