use Rattle.life_find.proofs.sameness.same_object.Goals as goal

pub returns-clause-settled : goal.returns-clause-settled
returns-clause-settled c = c.same_object_on.ensures.settled

pub returns-clause-unsettled : goal.returns-clause-unsettled
returns-clause-unsettled c = c.same_object_on.ensures.unsettled
