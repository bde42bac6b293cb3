use Rattle.std.proofs.Common.{◌≡◌, ℕ, ◌+◌, ◌<◌, ◌==◌, Bool, false, cond, List, drop, length, get_or, Option, Some, ap, sym, ◌∙◌}
use Rattle.std.proofs.lemmas.Bool.{ne_eqb}
use Rattle.std.proofs.lemmas.List.{drop_more}
use Rattle.std.specs.List.{find}
use Rattle.life_text.specs.declared.rle.RleFault.{RleFault}
use Rattle.life_text.specs.Faults.{fault_number, text_faults}
use Rattle.life_text.proofs.rle.RleFault.of_number.Goals as goal

-- what comes after a fault that has another number
find_behind : (faults : List RleFault) (i number told : ℕ) (fault : RleFault) (found : Option RleFault) → i < length faults
    → told ≡ fault_number (get_or faults i fault) → (told ≡ number → ⊥) → find (λ f. fault_number f == number) (drop i faults) ≡ found
    → find (λ f. fault_number f == number) (drop (i + 1) faults) ≡ found
find_behind faults i number told fault found within is apart before =
    let next = get_or faults i fault in
    let other : (fault_number next == number) ≡ false = ap (λ n. n == number) (sym is) ∙ ne_eqb told number apart in
    sym (ap (λ (b : Bool). cond b (Some next) (find (λ f. fault_number f == number) (drop (i + 1) faults))) other)
    ∙ sym (ap (find (λ f. fault_number f == number)) (drop_more faults i fault within))
    ∙ before

pub loop-fault-preserved : goal.loop-fault-preserved
loop-fault-preserved c =
    find_behind text_faults c.loop-fault.fault-index c.args.number c.number.result _ _ c.loop-fault-test.true c.number.ensures.value c.if-number.false
    c.loop-fault.invariant
