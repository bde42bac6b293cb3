-- The state of a report, and one more text.
use Rattle.std.specs.Prelude.{true, max}
use Rattle.census_identify.specs.declared.course.Course.{Course}
use Rattle.census_identify.specs.declared.told.Told.{Told}
use Rattle.census_identify.specs.declared.told.Told.TheVariants.{Block, Line}

abbrev pub with_told : Course → Told → Course
with_told course (Block block) = record course { has_block = true }
with_told course (Line line status) = record course { status = max course.status status }
