-- Rims of tiles.
use Rattle.std.proofs.Common.{◌≡◌, ◌≢◌, ℕ, ◌/◌, ◌<◌, ◌^◌, refl, sym, ◌∙◌, arith}
use Rattle.std.specs.Int.{bit_at}
use Rattle.life_plane.proofs.OneCell.{zero_from_bits}
use Rattle.life_slots.specs.Rims.{IsEdge}

last_bit : (bits : ℕ) → bits < 2 ^ 64 → bit_at bits 63 ≡ bits / 9223372036854775808
last_bit bits fits = omega arith

pub middle_set : (bits side : ℕ) → side ≡ 1 → bits < 2 ^ 64 → bits ≢ 0 → ((x : ℕ) → x < 64 → IsEdge side x → bit_at bits x ≡ 0) → ⊥
middle_set bits side is fits some none =
    some (zero_from_bits 64 bits fits (λ x small. none x small (record { first = λ never. absurd (omega arith); last = λ never. absurd (omega arith) })))

pub last_set : (bits side : ℕ) → side ≡ 2 → bits < 2 ^ 64 → bits / 9223372036854775808 ≡ 1 → ((x : ℕ) → x < 64 → IsEdge side x → bit_at bits x ≡ 0) → ⊥
last_set bits side is fits set none =
    let zero : bit_at bits 63 ≡ 0 = none 63 (omega arith) (record { first = λ never. absurd (omega arith); last = λ _. refl }) in
    let never : bits / 9223372036854775808 ≡ 0 = sym (last_bit bits fits) ∙ zero in
    omega arith
