use Rattle.std.proofs.Common.{inl, inr, rules, arith}
use Rattle.life_orbit.specs.Passing.{columns, rows}
use Rattle.life_orbit.proofs.Watching.{ahead_same, later, past_same, sooner, watch_of, word_columns, word_rows}
use Rattle.life_orbit.proofs.watch.rounds_near.Goals as goal

pub returns-in-Some-Some-clause-ahead : goal.returns-in-Some-Some-clause-ahead
returns-in-Some-Some-clause-ahead c =
    later (watch_of c.args.hull c.args.by c.args.other_hull c.args.other_by)
    c.in-Some-Some.columns.from c.in-Some-Some.rows.from c.max.result
    (let which = c.max.ensures in omega arith)
    (ahead_same _ _ (columns c.args.hull c.args.by) (columns c.args.other_hull c.args.other_by) c.in-Some-Some.columns.from
    (word_columns c.args.hull c.args.by (search rules) (search rules) (search rules))
    (word_columns c.args.other_hull c.args.other_by (search rules) (search rules) (search rules))
    (rw c.in-Some-Some.is-0 at c.rounds_along-across.ensures.ahead))
    (ahead_same _ _ (rows c.args.hull c.args.by) (rows c.args.other_hull c.args.other_by) c.in-Some-Some.rows.from
    (word_rows c.args.hull c.args.by (search rules) (search rules) (search rules))
    (word_rows c.args.other_hull c.args.other_by (search rules) (search rules) (search rules))
    (rw c.in-Some-Some.is-1 at c.rounds_along-down.ensures.ahead))

pub returns-in-Some-None-clause-ahead : goal.returns-in-Some-None-clause-ahead
returns-in-Some-None-clause-ahead c =
    inl (ahead_same _ _ (columns c.args.hull c.args.by) (columns c.args.other_hull c.args.other_by) c.in-Some-None.columns.from
    (word_columns c.args.hull c.args.by (search rules) (search rules) (search rules))
    (word_columns c.args.other_hull c.args.other_by (search rules) (search rules) (search rules))
    (rw c.in-Some-None.is-0 at c.rounds_along-across.ensures.ahead))

pub returns-in-None-Some-clause-ahead : goal.returns-in-None-Some-clause-ahead
returns-in-None-Some-clause-ahead c =
    inr (inl (ahead_same _ _ (rows c.args.hull c.args.by) (rows c.args.other_hull c.args.other_by) c.in-None-Some.rows.from
    (word_rows c.args.hull c.args.by (search rules) (search rules) (search rules))
    (word_rows c.args.other_hull c.args.other_by (search rules) (search rules) (search rules))
    (rw c.in-None-Some.is-1 at c.rounds_along-down.ensures.ahead)))

pub returns-in-Some-Some-clause-past : goal.returns-in-Some-Some-clause-past
returns-in-Some-Some-clause-past c =
    sooner (watch_of c.args.hull c.args.by c.args.other_hull c.args.other_by)
    c.in-Some-Some.columns.until c.in-Some-Some.rows.until c.min.result
    (let which = c.min.ensures in omega arith)
    (past_same _ _ (columns c.args.hull c.args.by) (columns c.args.other_hull c.args.other_by) c.in-Some-Some.columns.until
    (word_columns c.args.hull c.args.by (search rules) (search rules) (search rules))
    (word_columns c.args.other_hull c.args.other_by (search rules) (search rules) (search rules))
    (rw c.in-Some-Some.is-0 at c.rounds_along-across.ensures.passed))
    (past_same _ _ (rows c.args.hull c.args.by) (rows c.args.other_hull c.args.other_by) c.in-Some-Some.rows.until
    (word_rows c.args.hull c.args.by (search rules) (search rules) (search rules))
    (word_rows c.args.other_hull c.args.other_by (search rules) (search rules) (search rules))
    (rw c.in-Some-Some.is-1 at c.rounds_along-down.ensures.passed))

pub returns-in-Some-None-clause-past : goal.returns-in-Some-None-clause-past
returns-in-Some-None-clause-past c =
    inl (past_same _ _ (columns c.args.hull c.args.by) (columns c.args.other_hull c.args.other_by) c.in-Some-None.columns.until
    (word_columns c.args.hull c.args.by (search rules) (search rules) (search rules))
    (word_columns c.args.other_hull c.args.other_by (search rules) (search rules) (search rules))
    (rw c.in-Some-None.is-0 at c.rounds_along-across.ensures.passed))

pub returns-in-None-Some-clause-past : goal.returns-in-None-Some-clause-past
returns-in-None-Some-clause-past c =
    inr (inl (past_same _ _ (rows c.args.hull c.args.by) (rows c.args.other_hull c.args.other_by) c.in-None-Some.rows.until
    (word_rows c.args.hull c.args.by (search rules) (search rules) (search rules))
    (word_rows c.args.other_hull c.args.other_by (search rules) (search rules) (search rules))
    (rw c.in-None-Some.is-1 at c.rounds_along-down.ensures.passed)))
