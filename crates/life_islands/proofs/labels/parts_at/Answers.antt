use Rattle.std.proofs.Common.{◌≡◌, ◌-◌, true, false, int_lt, get_or, FitsSigned, w64, subst, rules, arith}
use Rattle.std.proofs.lemmas.Int.{to_z-of_z}
use Rattle.life_classes.specs.Tags.{place_number}
use Rattle.life_islands.proofs.Indexed.{parting_here}
use Rattle.life_islands.proofs.labels.parts_at.Goals as goal

pub returns : goal.returns
returns c past =
    let a = c.args in
    let within = c.if-at-all.false in
    let fits : FitsSigned w64 a.number = search rules in
    let same = to_z-of_z w64 a.number fits in
    parting_here a.all.now a.number a.at c.requires.rising c.requires.placed (omega arith)
    (λ d some. subst (λ z. int_lt (place_number (get_or a.all.now (a.at - 1) d)) z ≡ true) same (c.is_past.ensures past d some))
    (λ d inside. subst (λ z. int_lt (place_number (get_or a.all.now a.at d)) z ≡ false) same (c.is_before.ensures c.if-is_before.false d inside))
