use Rattle.std.proofs.Common.{◌≡◌, ◌+◌, ◌-◌, length, take, drop, subst, arith}
use Rattle.std.proofs.lemmas.List.{take_all, length-drop}
use Rattle.memchr.specs.Find.{IsFirstByte, is_byte}
use Rattle.census_facts.proofs.Split.{first_line, one_line}
use Rattle.census_facts.proofs.reading.split_line.Goals as goal

pub returns-in-Some-clause-parts : goal.returns-in-Some-clause-parts
returns-in-Some-clause-parts c =
    let text = c.args.text.now in
    let at = c.in-Some.at in
    let found = subst (λ r. IsFirstByte (is_byte 10) text r) c.in-Some.is c.memchr.ensures in
    let all : take (length text - (at + 1)) (drop (at + 1) text) ≡ drop (at + 1) text = take_all (length text - (at + 1)) (drop (at + 1) text) (omega (arith, length-drop (at + 1) text)) in
    rw all (first_line text at found)

pub returns-in-None-clause-parts : goal.returns-in-None-clause-parts
returns-in-None-clause-parts c =
    one_line c.args.text.now (subst (λ r. IsFirstByte (is_byte 10) c.args.text.now r) c.in-None.is c.memchr.ensures)
