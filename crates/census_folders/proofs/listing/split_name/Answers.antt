use Rattle.std.proofs.Common.{◌≡◌, subst, arith, length, take, drop, ◌-◌, ◌+◌}
use Rattle.std.proofs.lemmas.List.{take_all, length-drop}
use Rattle.memchr.specs.Find.{IsFirstByte, is_byte}
use Rattle.census_folders.proofs.Listings.{first_name, one_name}
use Rattle.census_folders.proofs.listing.split_name.Goals as goal

pub returns-in-Some-clause-parts : goal.returns-in-Some-clause-parts
returns-in-Some-clause-parts c =
    let text = c.args.listing.now in
    let at = c.in-Some.at in
    let found = subst (λ r. IsFirstByte (is_byte 0) text r) c.in-Some.is c.memchr.ensures in
    let all : take (length text - (at + 1)) (drop (at + 1) text) ≡ drop (at + 1) text = take_all (length text - (at + 1)) (drop (at + 1) text) (omega (arith, length-drop (at + 1) text)) in
    rw all (first_name text at found)

pub returns-in-None-clause-parts : goal.returns-in-None-clause-parts
returns-in-None-clause-parts c =
    one_name c.args.listing.now (subst (λ r. IsFirstByte (is_byte 0) c.args.listing.now r) c.in-None.is c.memchr.ensures)
