-- The order of keys is total.
use Rattle.std.specs.Cmp.{on_total, then_total, IsTotalOrder}
use Rattle.std.specs.Cmp.Lexicographic.{on_texts}
use Rattle.census_compare.specs.Order.{Key, key_cmp, key_of}
use Rattle.census_compare.specs.declared.told.Told.{Told}

pub key_total : IsTotalOrder key_cmp
key_total = then_total (on_texts (λ (k : Key). k.0)) (on_texts (λ (k : Key). k.1))

-- the order of the keys of patterns at places is total too
pub keys_at_total : {P : Type 0} (told : P → Told) → IsTotalOrder (λ p q. key_cmp (key_of (told p)) (key_of (told q)))
keys_at_total told = on_total (λ p. key_of (told p)) key_total
