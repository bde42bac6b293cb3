use Rattle.std.proofs.Common.{◌≡◌, ℕ, ◌+◌, ◌*◌, ◌%◌, ◌^◌, ◌<◌, max, sym, ◌∙◌, arith}
use Rattle.std.proofs.lemmas.Nat.Bits.{bit_at-lt, bit_at_or}
use Rattle.life_slots.proofs.Bits.{bit_at_moved}
use Rattle.life_slots.proofs.touched.with_bits.Goals as goal

full : (n m : ℕ) → n ≡ 1 → m < 2 → max n m ≡ 1
full n m one small = omega arith

none_of : (n m : ℕ) → max n m ≡ 0 → m ≡ 0
none_of n m none = omega arith

pub returns-clause-kept : goal.returns-clause-kept
returns-clause-kept c = λ k one.
    bit_at_or c.args.word (c.args.bits * 2 ^ c.args.at % 2 ^ 32) k ∙ full _ _ one (bit_at-lt (c.args.bits * 2 ^ c.args.at % 2 ^ 32) k)

pub returns-clause-set : goal.returns-clause-set
returns-clause-set c = λ k small clear.
    sym (bit_at_moved c.args.bits c.args.at 32 k (let at = c.requires in omega arith))
    ∙ none_of _ _ (sym (bit_at_or c.args.word (c.args.bits * 2 ^ c.args.at % 2 ^ 32) (c.args.at + k)) ∙ clear)
