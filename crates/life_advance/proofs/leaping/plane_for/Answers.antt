-- A plane with the cells of a board.
use Rattle.std.proofs.Common.{◌∙◌, All, sym, subst}
use Rattle.life_model.specs.Generation as sets
use Rattle.life_cells.specs.Limits.{IsWithin}
use Rattle.life_advance.specs.Later.{Trails}
use Rattle.life_advance.proofs.Laters.{later_now, later_same, trails_here}
use Rattle.life_advance.proofs.leaping.plane_for.Goals as goal

pub returns-in_default : goal.returns-in_default
returns-in_default c = trails_here _ _ _ c.squares_of.ensures.board c.squares_of.ensures.rule

pub put-requires-clause-within : goal.put-requires-clause-within
put-requires-clause-within c =
    subst (λ G. All (IsWithin c.age-age.result) (sets.cells G)) (sym c.in-Ok.ensures.cells)
    (subst (λ n. All (IsWithin n) (sets.cells c.args.board.now.0)) (sym c.age-age.ensures.age) c.age-age.ensures.within)

pub returns-in-Ok-put : goal.returns-in-Ok-put
returns-in-Ok-put c =
    let held = subst (λ o. Trails c.args.rule.now o c.args.board.now) c.in-Some.is c.requires.held in
    let made = c.in-Ok-put.ensures in
    let same = later_same c.args.rule.now c.put.new.self.0 c.put.new.self.0 c.args.board.now (later_now _ _)
    (sym (made.cells ∙ c.in-Ok.ensures.cells)) (sym (made.age ∙ c.age-age.ensures.age)) in
    (made.rule ∙ held.0, same)
