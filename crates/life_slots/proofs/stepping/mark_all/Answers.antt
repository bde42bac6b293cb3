use Rattle.std.proofs.Common.{◌≡◌, ℕ, ◌<◌, length, refl, arith}
use Rattle.std.specs.Int.{bit_at}
use Rattle.life_slots.proofs.Lists.{filled}
use Rattle.life_slots.proofs.stepping.mark_all.Goals as goal

pub loop-mark-preserved : goal.loop-mark-preserved
loop-mark-preserved c =
    let room : c.loop-mark.mark-index < length c.loop-mark.marks = omega arith in
    filled (λ n v. (band : ℕ) → bit_at v.bits band ≡ bit_at c.args.value.bits band) c.loop-mark.marks (record { bits = 0 }) c.loop-mark.mark-index c.args.value room c.loop-mark.invariant (λ band. refl)

pub returns-clause-marks : goal.returns-clause-marks
returns-clause-marks c = λ k band inside. c.loop-mark.invariant k (omega arith) band
