-- The codes by which proofs distinguish the values that a collector is seen as.
use Rattle.std.specs.Coded.{Coded, codes}
use Rattle.census_bundle.specs.Coded.{folder_code, tickets_code}
use Rattle.life_answer.specs.Questions.{question_code}
use Rattle.census_book.specs.Progress.{Arrived, Progress, Taken}

pub taken_code : Coded Taken
taken_code = hlevel (codes, folder_code, tickets_code, question_code)

pub arrived_code : Coded Arrived
arrived_code = hlevel (codes, folder_code, tickets_code, question_code)

pub progress_code : Coded Progress
progress_code = hlevel (codes, folder_code, tickets_code, question_code)
