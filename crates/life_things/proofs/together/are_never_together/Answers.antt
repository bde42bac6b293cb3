use mir.Syntax.{w128}
use Rattle.std.proofs.Common.{◌%◌, ap, ◌∙◌, rules, arith}
use Rattle.std.specs.Prelude.{unsigned_abs}
use Rattle.std.proofs.lemmas.Int.{to_z-of_z}
use Rattle.life_things.specs.Steps.{list_of}
use Rattle.life_things.proofs.InTime.{apart_in_time}
use Rattle.life_things.proofs.together.are_never_together.Goals as goal

pub returns : goal.returns
returns c =
    let size = c.unsigned_abs.ensures.value ∙ ap unsigned_abs (to_z-of_z w128 c.args.start.0 (search rules)) in
    apart_in_time c.common_time_of-common.result c.args.start (list_of c.args.steps) (omega arith)
    c.common_time_of-common.ensures
    (λ e. c.if-unsigned_abs-common-eq0.false (ap (λ n. n % c.common_time_of-common.result) size ∙ e))
