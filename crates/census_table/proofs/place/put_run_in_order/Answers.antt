use Rattle.std.proofs.Common.{◌≡◌, ◌∙◌, false, rules, subst, sym}
use Rattle.std.specs.Ordering.{is_gt}
use Rattle.std.proofs.lemmas.Fn.{always_returns_same}
use Rattle.census_table.specs.Places.{place_cmp, Rises}
use Rattle.census_table.proofs.Rising.{place_total}
use Rattle.census_table.proofs.Ties.{is-less, less-order, not-falling, take-front}
use Rattle.census_table.proofs.place.put_run_in_order.Goals as goal

pub returns-clause-sorted : goal.returns-clause-sorted
returns-clause-sorted g c =
    let run = c.sort_unstable_by.new.self in
    subst (Rises (λ p q. is_gt (place_cmp p q) ≡ false))
    (sym (take-front run c.split_at_mut-run.result.1.now c.run_len-count.result (c.sort_unstable_by.ensures.len ∙ c.split_at_mut-run.ensures.front_len)))
    (not-falling place_cmp place_total run
    (c.sort_unstable_by.ensures.sorted (is-less place_cmp place_total) (less-order place_cmp place_total) (always_returns_same _ _ _ (λ a r f k. search rules))))
