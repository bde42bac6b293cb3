use Rattle.std.proofs.Common.{Ok, Err, ap, sym, ◌∙◌}
use Rattle.std.specs.Option.{option_copied}
use Rattle.census_identify.specs.Blocks.Blocks.{block_of, block_or_fault}
use Rattle.census_identify.proofs.BlocksLemmas.Refusing.{told_block}
use Rattle.census_identify.proofs.blocks.block_text.block.Goals as goal

pub returns-in_ok-block_of_pattern-in-Ok : goal.returns-in_ok-block_of_pattern-in-Ok
unfolding block_of
returns-in_ok-block_of_pattern-in-Ok g c =
    ap Ok c.in_ok-block_of_pattern-in-Ok.ensures ∙ ap (block_or_fault c.args.inquiry c.args.names.now (option_copied c.args.file)) (sym c.in-Ok.ensures.found)

pub returns-in_ok-told-in-Err : goal.returns-in_ok-told-in-Err
returns-in_ok-told-in-Err g c =
    ap Err c.in_ok-told-in-Err.ensures.same ∙ told_block c.args.inquiry c.args.names.now (option_copied c.args.file) c.args.text.now c.in-Err.fault (c.in-Err.ensures.refused c.in_ok-told-in-Err.ensures.text)
