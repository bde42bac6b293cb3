use Rattle.std.proofs.Common.{◌∙◌, ap, sym, arith}
use Rattle.census_rows.proofs.StoreLemmas.Coded.{in-low, in-none, in-high}
use Rattle.census_rows.proofs.store.numbers.+number_in.Goals as goal

pub returns-then-byte-lt128-clause-number : goal.returns-then-byte-lt128-clause-number
returns-then-byte-lt128-clause-number t c = sym (ap (λ w. w.0) (in-low c.args.bytes.now (omega arith) c.if-byte-lt128.true))

pub returns-then-byte-lt128-clause-rest : goal.returns-then-byte-lt128-clause-rest
returns-then-byte-lt128-clause-rest t c = sym (ap (λ w. w.1) (in-low c.args.bytes.now (omega arith) c.if-byte-lt128.true))

pub returns-in-empty-clause-number : goal.returns-in-empty-clause-number
returns-in-empty-clause-number t c = sym (ap (λ w. w.0) (in-none c.args.bytes.now (omega arith)))

pub returns-in-empty-clause-rest : goal.returns-in-empty-clause-rest
returns-in-empty-clause-rest t c = sym (ap (λ w. w.1) (in-none c.args.bytes.now (omega arith)))

pub returns-else-byte-lt128-clause-number : goal.returns-else-byte-lt128-clause-number
returns-else-byte-lt128-clause-number t c = rw c.number_in-high.ensures.number (sym (ap (λ w. w.0) (in-high c.args.bytes.now (omega arith) c.if-byte-lt128.false)))

pub returns-else-byte-lt128-clause-rest : goal.returns-else-byte-lt128-clause-rest
returns-else-byte-lt128-clause-rest t c = c.number_in-high.ensures.rest ∙ sym (ap (λ w. w.1) (in-high c.args.bytes.now (omega arith) c.if-byte-lt128.false))
