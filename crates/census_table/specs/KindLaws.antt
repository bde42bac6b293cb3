-- The order of kinds is total.
use Rattle.std.proofs.Common.{length}
use Rattle.std.specs.Cmp.{on_total, then_total, nat_cmp_total, IsTotalOrder}
use Rattle.std.specs.Cmp.Lexicographic.{on_texts}
use Rattle.census_table.specs.Kinds.{kind_cmp}
use Rattle.census_table.specs.declared.object.Object.{Object}

pub kind_total : IsTotalOrder kind_cmp
kind_total =
    then_total (on_total (λ (o : Object). length o.code.now) nat_cmp_total)
    (then_total (on_texts (λ (o : Object). o.code.now)) (on_texts (λ (o : Object). o.rule.now)))

-- the order of the kinds of objects at places is total too
pub kinds_at_total : {P : Type 0} (told : P → Object) → IsTotalOrder (λ p q. kind_cmp (told p) (told q))
kinds_at_total told = on_total told kind_total
