use Rattle.std.proofs.Common.{◌<◌, length, subst, sym}
use Rattle.std.specs.Prelude.{IsSomeAnd}
use Rattle.life_codes.proofs.Ordered.{length-key_text, longer_stays}
use Rattle.life_codes.proofs.least_text.add_key.Goals as goal

pub returns-then-is_shorter-clause-ok : goal.returns-then-is_shorter-clause-ok
returns-then-is_shorter-clause-ok c =
    let least = c.args.least.now in
    sym (longer_stays least _ (subst (λ n. IsSomeAnd least (λ t. length t < n)) (sym (length-key_text c.args.wide c.args.key)) (c.is_shorter.ensures c.if-is_shorter.true)))
