use Rattle.std.proofs.Common.{refl}
use Rattle.census_book.proofs.Counting.{missing_smaller}
use Rattle.census_crew.proofs.run_state.RunState.catch_up.Goals as goal

pub loop-ticket-smaller : goal.loop-ticket-smaller
loop-ticket-smaller g c =
    missing_smaller _ _ _ _ _ _ c.in_ok-work_missing.ensures.step.same_bundle c.in_ok-work_missing.ensures.taken refl c.in-Some.ensures.of_bundle c.in-Some.ensures.not_taken
