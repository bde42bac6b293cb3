use Rattle.std.proofs.Common.{rules}
use Rattle.std.proofs.lemmas.List.Sorted.{answers_always}
use Rattle.life_apart.proofs.Bands.{rising_from_sorted}
use Rattle.life_apart.proofs.Sweeping.{reordered}
use Rattle.life_apart.proofs.span.spans_in_order.Goals as goal

pub returns-clause-spans : goal.returns-clause-spans
returns-clause-spans c =
    reordered c.args.orbits.now c.in_ok-spans.spans.items c.sort_unstable_by_key.new.self.items
    c.sort_unstable_by_key.ensures.permutation c.in_ok-spans.ensures

pub returns-clause-rising : goal.returns-clause-rising
returns-clause-rising c =
    rising_from_sorted c.sort_unstable_by_key.new.self.items
    (c.sort_unstable_by_key.ensures.sorted (λ s. (s.band, s.start)) (answers_always _ _ _ (λ f a r q k. search rules)))
