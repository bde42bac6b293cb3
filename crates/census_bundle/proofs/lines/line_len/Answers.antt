use Rattle.std.proofs.Common.{sym, subst, arith}
use Rattle.memchr.specs.Find.{IsFirstByte, is_byte}
use Rattle.census_bundle.proofs.FirstFeed.{line_len-none, line_len-some}
use Rattle.census_bundle.proofs.lines.line_len.Goals as goal

pub returns-in-Some-clause-value : goal.returns-in-Some-clause-value
returns-in-Some-clause-value c = omega (arith, line_len-some c.args.text.now c.in-Some.at (subst (λ r. IsFirstByte (is_byte 10) c.args.text.now r) c.in-Some.is c.memchr.ensures))

pub returns-in-None-clause-value : goal.returns-in-None-clause-value
returns-in-None-clause-value c = sym (line_len-none c.args.text.now (subst (λ r. IsFirstByte (is_byte 10) c.args.text.now r) c.in-None.is c.memchr.ensures))
