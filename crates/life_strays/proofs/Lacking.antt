-- An island that is no part of ash: what hangs on it is lacking each time that it has come back.
use Rattle.std.proofs.Common.{◌≡◌, ℕ, zero, suc, ◌*◌, ◌/◌, true, List, sym, ap, ◌∙◌, arith}
use Rattle.life_model.specs.Cell.{Cell, opposite, plus}
use Rattle.life_model.specs.Evolution.{generation}
use Rattle.life_model.specs.Generation.{Generation, contains, empty}
use Rattle.life_model.specs.Rule.{Rule}
use Rattle.life_model.specs.Symmetry.{translate_of}
use Rattle.life_model.proofs.Cells.{plus-opposite}
use Rattle.life_model.proofs.Symmetries.{contains-moved}
use Rattle.life_objects.specs.Ash.{IsAsh}
use Rattle.life_objects.specs.Drift.{multiple_of}
use Rattle.life_objects.specs.Union.{IsSubsetOf}
use Rattle.life_objects.proofs.Ashes.{object_of}
use Rattle.life_objects.proofs.Members.{found_now}
use Rattle.life_objects.proofs.Moving.{RecursBy-times}
use Rattle.life_objects.proofs.OneList.{apart_from_rest, rest_of, with_rest}
use Rattle.life_objects.proofs.Unions.{in_empty}
use Rattle.life_growth.proofs.Parts.{IsPart, part_within, part_within_later}
use Rattle.life_strays.specs.Strays.{ComesBackNowhere, HangsOn, IsIsland, LacksSome, LacksSomeUntil}
use Rattle.life_strays.proofs.Belonging.{heirs_within, island_within, no_faster, part_itself, part_of_part}
use Rattle.life_strays.proofs.Windows.{HaveMultiples}

module _ (R : Rule) where
  nothing_hangs : (G P : Generation) (n : ℕ) → HangsOn R G P n empty
  unfolding HangsOn
  nothing_hangs G P zero = λ c here. absurd (in_empty c here)
  nothing_hangs G P (suc n) = (empty, nothing_hangs G P n, λ c here. absurd (in_empty c here))

  -- what comes back nowhere need not be led back
  pub gone_lacks : (b : ℕ) (G P : Generation) → ComesBackNowhere R b b G P → LacksSomeUntil R (b / 2) b G P
  gone_lacks b G P gone m late within =
      (empty, nothing_hangs G P m, λ d near there back. gone m (omega arith) within d near there)

  module _ (G P : Generation) (part : IsPart R P G) where
    -- what recurs, moved, lacks nothing of what hangs on its islands
    nothing_lacks : (m : ℕ) (J L : Generation) (d c : Cell) → IsSubsetOf J P → contains J c ≡ true → HangsOn R G J m L →
        generation R P m ≡ translate_of P d → LacksSome m G (generation R G m) J L → ⊥
    nothing_lacks m J L d c inside h hangs again lacks =
        lacks d (no_faster R P m d c (λ x e. ap (λ H. contains H x) again ∙ e) (inside c h))
        (λ x k. part_within_later R P G part m (plus x d)
        (ap (λ H. contains H (plus x d)) again ∙ contains-moved P d (plus x d) ∙ ap (contains P) (plus-opposite x d)
        ∙ inside x k))
        (λ x k. part_within R P G part (plus x (opposite d))
        (sym (contains-moved P d x) ∙ ap (λ H. contains H x) (sym again)
        ∙ heirs_within R G P part J inside m L hangs x k))

  module _ (G P : Generation) (part : IsPart R P G) where
    -- a part that is ash has no island that lacks some each time
    pub no_ash_part : (b after last : ℕ) (parts : List Generation) (J : Generation) (c : Cell) →
        HaveMultiples b after last → IsAsh R b P parts → IsIsland R G J → contains J c ≡ true → contains P c ≡ true →
        LacksSomeUntil R after last G J → ⊥
    no_ash_part b after last parts J c many ash island h k lacks =
        let one = found_now R parts c (ap (λ H. contains H c) ash.together ∙ k) in
        let O = one.0 in
        let inner : IsPart R O P = record {
          rest = rest_of R b P parts ash O one.1;
          together = with_rest R b P parts ash O one.1;
          apart = apart_from_rest R b P parts ash O one.1;
        } in
        let whole = part_of_part R O P G inner part in
        let recurs = (object_of R b P parts ash O one.1).recurs in
        let some = many recurs.steps recurs.recurs.later recurs.within in
        let again = RecursBy-times R O recurs.steps recurs.by recurs.recurs some.times some.some in
        let lack = lacks (some.times * recurs.steps) some.late some.within in
        nothing_lacks G O whole (some.times * recurs.steps) J lack.0 (multiple_of some.times recurs.by) c
        (island_within R G O whole J c island h one.2) h lack.1 again.again lack.2

  -- nor has ash one
  pub lacks_no_ash : (b after last : ℕ) (G : Generation) (parts : List Generation) (J : Generation) →
      HaveMultiples b after last → IsIsland R G J → LacksSomeUntil R after last G J → IsAsh R b G parts → ⊥
  lacks_no_ash b after last G parts J many island lacks ash =
      let c = island.some in
      no_ash_part G G (part_itself R G) b after last parts J c.0 many ash island c.1 (island.within c.0 c.1) lacks
