use Rattle.life_board.proofs.rows.advance_by_rule.Goals as goal

pub returns-clause-next : goal.returns-clause-next
returns-clause-next c = c.advance_by.ensures.next c.args.rule.now c.of.ensures
