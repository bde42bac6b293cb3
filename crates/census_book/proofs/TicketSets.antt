-- Sets of tickets.
use Rattle.std.proofs.Common.{◌≡◌, Bool, true, false, ◌||◌, refl, sym, ap, ◌∙◌, Ordering, cond, Option, Some, is_some, List}
use Rattle.std.proofs.Math.Bool.{or-false}
use Rattle.std.proofs.lemmas.Bool.{or_right}
use Rattle.std.specs.declared.cmp.Ordering.TheVariants.{Less, Equal, Greater}
use Rattle.std.specs.Ordering.{nat_cmp, ordering_reverse, is_eq, eq_by_cmp}
use Rattle.std.specs.Cmp.{IsTotalOrder, nat_cmp_total, then_total, on_total, tied_itself}
use Rattle.std.specs.FinSet.{IsAntisymmetric, nat_cmp-IsAntisymmetric, contains-insert, contains-from_list}
use Rattle.std.specs.List.{list_any}
use Rattle.life_model.proofs.Cells.{both_equal}
use Rattle.census_bundle.specs.declared.ticket.Ticket.{Ticket}
use Rattle.census_bundle.specs.Tickets.{Tickets, ticket_cmp, folder_of, number_in_folder, has_ticket, with_ticket, tickets_of}

pub ticket_cmp_total : IsTotalOrder ticket_cmp
ticket_cmp_total = then_total (on_total folder_of nat_cmp_total) (on_total number_in_folder nat_cmp_total)

pub ticket_cmp_same : IsAntisymmetric ticket_cmp
ticket_cmp_same x y e =
    let both = both_equal (nat_cmp x.folder y.folder) (nat_cmp x.number y.number) e in
    let p = nat_cmp-IsAntisymmetric x.folder y.folder both.0 in
    let q = nat_cmp-IsAntisymmetric x.number y.number both.1 in
    λ i. record { folder = p i; number = q i }

pub apart : (q t : Ticket) → (q ≡ t → ⊥) → eq_by_cmp ticket_cmp q t ≡ false
apart q t ne =
    elim (ticket_cmp q t) as (λ r. ticket_cmp q t ≡ r → is_eq r ≡ false) [
      | Less ↦ λ e. refl
      | Equal ↦ λ e. absurd (ne (ticket_cmp_same q t e))
      | Greater ↦ λ e. refl
    ] refl

pub has_other : (taken : Tickets) (t q : Ticket) → (q ≡ t → ⊥) → has_ticket (with_ticket taken t) q ≡ has_ticket taken q
has_other taken t q ne = contains-insert ticket_cmp_total taken t q ∙ ap (λ b. b || has_ticket taken q) (apart q t ne)

pub has_same : (taken : Tickets) (t : Ticket) → has_ticket (with_ticket taken t) t ≡ true
has_same taken t = contains-insert ticket_cmp_total taken t t ∙ ap (λ r. is_eq r || has_ticket taken t) (tied_itself ticket_cmp_total t)

pub has_kept : (taken : Tickets) (t q : Ticket) → has_ticket taken q ≡ true → has_ticket (with_ticket taken t) q ≡ true
has_kept taken t q has = contains-insert ticket_cmp_total taken t q ∙ ap (λ b. eq_by_cmp ticket_cmp q t || b) has ∙ or_right (eq_by_cmp ticket_cmp q t) true refl

pub has_list : (ks : List Ticket) (q : Ticket) → has_ticket (tickets_of ks) q ≡ list_any (eq_by_cmp ticket_cmp q) ks
has_list ks q = contains-from_list ticket_cmp_total ks q

pub has_at : (taken : Tickets) (t q : Ticket) → q.folder ≡ t.folder → q.number ≡ t.number → has_ticket (with_ticket taken t) q ≡ true
has_at taken t q p n =
    let e : q ≡ t = λ i. record { folder = p i; number = n i } in
    ap (λ u. has_ticket (with_ticket taken t) u) e ∙ has_same taken t

eq_reversed : (r : Ordering) → is_eq (ordering_reverse r) ≡ is_eq r
eq_reversed Less = refl
eq_reversed Equal = refl
eq_reversed Greater = refl

pub eq_symm : (q t : Ticket) → eq_by_cmp ticket_cmp t q ≡ eq_by_cmp ticket_cmp q t
eq_symm q t = ap is_eq (ticket_cmp_total.antisymm t q) ∙ eq_reversed (ticket_cmp q t)

pub some_or : {X : Type 0} (b : Bool) (v : X) (o : Option X) → is_some (cond b (Some v) o) ≡ (b || is_some o)
some_or true v o = refl
some_or false v o = refl

-- tickets that tie are one
pub one_ticket : (t q : Ticket) → eq_by_cmp ticket_cmp t q ≡ true → t ≡ q
one_ticket t q e =
    elim (ticket_cmp t q) as (λ r. ticket_cmp t q ≡ r → is_eq r ≡ true → t ≡ q) [
      | Less ↦ λ _ no. absurd (cc)
      | Equal ↦ λ is _. ticket_cmp_same t q is
      | Greater ↦ λ _ no. absurd (cc)
    ] refl e

-- a ticket that becomes taken with one more is that one
pub new_ticket : (taken : Tickets) (t q : Ticket) → has_ticket taken q ≡ false → has_ticket (with_ticket taken t) q ≡ true → q ≡ t
new_ticket taken t q not has =
    one_ticket q t (sym (or-false (eq_by_cmp ticket_cmp q t)) ∙ ap (λ b. eq_by_cmp ticket_cmp q t || b) (sym not) ∙ sym (contains-insert ticket_cmp_total taken t q) ∙ has)
