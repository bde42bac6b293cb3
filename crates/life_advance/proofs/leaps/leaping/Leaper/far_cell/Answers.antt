-- The cells of the square that has all.
use Rattle.life_advance.proofs.LeapsLemmas.FarLemmas.{match_none, match_some, root_empty, root_member, weaker_match}
use Rattle.life_advance.proofs.LeapsLemmas.Placed.{place_from_within}
use Rattle.life_advance.proofs.leaps.leaping.Leaper.far_cell.Goals as goal

pub returns-clause-member : goal.returns-clause-member
returns-clause-member c =
    match_some c.far_cell.result _ _
    (weaker_match c.far_cell.result _ _ _ _ (λ none. none) (root_member c.args.self.now c.root.result c.root.ensures.level c.root.ensures.corner) c.far_cell.ensures)

pub returns-clause-place : goal.returns-clause-place
returns-clause-place c =
    match_some c.far_cell.result _ _
    (weaker_match c.far_cell.result _ _ _ _ (λ none. none)
    (λ q live. place_from_within c.args.self.now.age q c.requires.young (c.requires.within q (root_member c.args.self.now c.root.result c.root.ensures.level c.root.ensures.corner q live)))
    c.far_cell.ensures)

pub returns-clause-none : goal.returns-clause-none
returns-clause-none c =
    match_none c.far_cell.result _ _
    (weaker_match c.far_cell.result _ _ _ _ (root_empty c.args.self.now c.root.result c.root.ensures.level c.root.ensures.corner) (λ q h. h) c.far_cell.ensures)
