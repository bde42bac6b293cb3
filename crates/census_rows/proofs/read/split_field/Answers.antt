use Rattle.census_rows.proofs.Blanks.{no-blank-before, blank-at, first-or-end, place-bound}
use Rattle.census_rows.proofs.read.split_field.Goals as goal

pub split_at-requires : goal.split_at-requires
split_at-requires c = rw (c.unwrap_or.ensures, c.first_blank.ensures) (place-bound c.args.text.now)

pub returns-clause-front : goal.returns-clause-front
returns-clause-front c =
    rw (c.split_at.ensures.front, c.unwrap_or.ensures, c.first_blank.ensures, first-or-end c.args.text.now) (no-blank-before c.args.text.now)

pub returns-clause-back : goal.returns-clause-back
returns-clause-back c =
    rw (c.split_at.ensures.back, c.unwrap_or.ensures, c.first_blank.ensures, first-or-end c.args.text.now) (blank-at c.args.text.now)
