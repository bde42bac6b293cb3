-- What a reading says about the text's fault.
use Rattle.std.proofs.Common.{◌≡◌, ◌≢◌, ℕ, Bool, true, false, if◌then◌else◌, is_some, codes, List, Option, Some, None, Result, Ok, Err, IfOk, IfErr, OnOk, refl}
use Rattle.std.specs.List.{list_all}
use Rattle.life_model.specs.Rule.{Rule}
use Rattle.texts.specs.Bytes.{after_one_of, is_blank, without_ends}
use Rattle.life_cells.specs.Rules.{life, rule_of}
use Rattle.life_cells.specs.declared.rule.RuleFault.{RuleFault}
use Rattle.life_cells.specs.Readings.{Gives}
use Rattle.life_text.specs.declared.rle.RleFault.{RleFault}
use Rattle.life_text.specs.declared.rle.RleFault.TheVariants.{Memory, NoHeader}
use Rattle.life_text.specs.declared.rle.Plot.{Plot}
use Rattle.life_text.specs.Rle.{Meaning, after_rule_name, after_sizes, fault_of, line_rule, named_rule, reading, refusal, rule_behind, rule_or_fault}
use Rattle.life_text.specs.Drawing.{Drawing, drawing, drawing_of}

lawful_of : (r : Result Meaning RleFault) (d : Drawing) → drawing_of r ≡ Ok d → fault_of r ≡ None
lawful_of (Ok meaning) d h = refl
lawful_of (Err fault) d h = cc

pub fault_is : (r : Result Meaning RleFault) (fault : RleFault) → drawing_of r ≡ Err fault → fault_of r ≡ Some fault
fault_is (Ok meaning) fault h = cc
fault_is (Err other) fault h = cc

pub lawful : (text : List ℕ) (r : Result Plot RleFault) → Gives Memory drawing r (drawing_of (reading text)) → OnOk r (refusal text ≡ None)
lawful text (Ok pattern) h = lawful_of (reading text) (drawing pattern) h
lawful text (Err fault) h = tt

pub found : (text : List ℕ) (r : Result Plot RleFault) → Gives Memory drawing r (drawing_of (reading text)) → IfOk r (λ pattern. drawing_of (reading text) ≡ Ok (drawing pattern))
found text (Ok pattern) h = h
found text (Err fault) h = tt

pub refused : (text : List ℕ) (r : Result Plot RleFault) → Gives Memory drawing r (drawing_of (reading text)) → IfErr r (λ fault. fault ≢ Memory → refusal text ≡ Some fault)
refused text (Ok pattern) h = tt
refused text (Err fault) h = λ known. fault_is (reading text) fault (h known)

-- # A header's fault is never out of memory

neither : (b : Bool) (r s : Result Rule RleFault) → r ≢ Err Memory → s ≢ Err Memory → (if b then r else s) ≢ Err Memory
neither true r s one other = one
neither false r s one other = other

told_memory : (r : Result Rule RuleFault) → rule_or_fault r ≢ Err Memory
told_memory (Ok rule) = λ e. cc
told_memory (Err fault) = λ e. cc

named_memory : (text : Option (List ℕ)) → named_rule text ≢ Err Memory
named_memory None = λ e. cc
named_memory (Some text) = told_memory (rule_of (without_ends is_blank text))

behind_memory : (rest : Option (List ℕ)) → rule_behind rest ≢ Err Memory
behind_memory None = λ e. cc
behind_memory (Some text) = neither (list_all is_blank text) (Ok life) (named_rule (after_rule_name text)) (λ e. cc) (named_memory (after_rule_name text))

pub no_memory : (line : List ℕ) → line_rule line ≢ Err Memory
no_memory line = neither (is_some (after_one_of (codes "xX") line)) (rule_behind (after_sizes line)) (Err NoHeader) (behind_memory (after_sizes line)) (λ e. cc)
