use Rattle.std.proofs.Common.{ℕ, ◌∙◌, List, arith, subst, sym}
use Rattle.std.proofs.lemmas.List.{take_more}
use Rattle.census_merge.specs.declared.mending.Cut.{Cut}
use Rattle.watched.specs.Streams.{PutsMoreBytes}
use Rattle.census_command.proofs.Cuts.{cuts_more}
use Rattle.census_command.specs.Remakes.{TellsCuts}
use Rattle.census_command.proofs.remaking.tell_cuts.Goals as goal

pub loop-cut-preserved : goal.loop-cut-preserved
loop-cut-preserved g c =
    let index = c.loop-cut.cut-index in
    let more =
    subst (λ (l : List ℕ). PutsMoreBytes l c.loop-cut.errors.stream c.tell.new.self.stream)
    (c.as_bytes.ensures.value ∙ c.as_str.ensures.value ∙ c.cut_line.ensures) c.tell.ensures in
    subst (λ (told : List Cut). TellsCuts told c.args.errors.now.stream c.tell.new.self.stream)
    (sym (take_more c.args.cuts.now index _ (omega (arith, c.loop-cut-test.true))))
    (cuts_more _ _ _ _ _ c.loop-cut.invariant more)
