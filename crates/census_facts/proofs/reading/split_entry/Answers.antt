use Rattle.std.proofs.Common.{◌≡◌, ◌+◌, ◌-◌, length, take, drop, subst, sym, ap, ◌∙◌, arith}
use Rattle.std.proofs.lemmas.List.{take_all, length-drop}
use Rattle.memchr.specs.Find.{IsFirstByte, is_byte}
use Rattle.census_facts.proofs.Split.{all_before, none_behind, tab_found}
use Rattle.census_facts.proofs.reading.split_entry.Goals as goal

pub returns-in-Some-clause-code : goal.returns-in-Some-clause-code
returns-in-Some-clause-code c =
    let line = c.args.line.now in
    let is = tab_found line c.in-Some.at (subst (λ r. IsFirstByte (is_byte 9) line r) c.in-Some.is c.memchr.ensures) in
    ap (λ k. take k line) (sym is)

pub returns-in-Some-clause-name : goal.returns-in-Some-clause-name
returns-in-Some-clause-name c =
    let line = c.args.line.now in
    let at = c.in-Some.at in
    let is = tab_found line at (subst (λ r. IsFirstByte (is_byte 9) line r) c.in-Some.is c.memchr.ensures) in
    let all : take (length line - (at + 1)) (drop (at + 1) line) ≡ drop (at + 1) line = take_all (length line - (at + 1)) (drop (at + 1) line) (omega (arith, length-drop (at + 1) line)) in
    all ∙ ap (λ k. drop (k + 1) line) (sym is)

pub returns-in-None-clause-code : goal.returns-in-None-clause-code
returns-in-None-clause-code c =
    let line = c.args.line.now in
    sym (all_before line (subst (λ r. IsFirstByte (is_byte 9) line r) c.in-None.is c.memchr.ensures))

pub returns-in-None-clause-name : goal.returns-in-None-clause-name
returns-in-None-clause-name c =
    let line = c.args.line.now in
    sym (none_behind line (subst (λ r. IsFirstByte (is_byte 9) line r) c.in-None.is c.memchr.ensures))
