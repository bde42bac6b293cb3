-- A square at the end of the list.
use Rattle.std.proofs.Common.{◌∙◌, ◌++◌, ◌∷◌, []}
use Rattle.life_advance.proofs.LeapsLemmas.StoreLemmas.{grows-same, grows-square}
use Rattle.life_advance.proofs.leaps.store.Store.square.Goals as goal

pub returns-in_err-take-clause-grows : goal.returns-in_err-take-clause-grows
returns-in_err-take-clause-grows c = λ rule e. grows-same rule e c.args.self.now c.take.new.self c.requires.kept c.take.ensures.leaves c.take.ensures.squares

pub returns-in_err-place-clause-grows : goal.returns-in_err-place-clause-grows
returns-in_err-place-clause-grows c = λ rule e. grows-same rule e c.args.self.now c.take.new.self c.requires.kept c.take.ensures.leaves c.take.ensures.squares

pub returns-in_err-append_square-clause-grows : goal.returns-in_err-append_square-clause-grows
returns-in_err-append_square-clause-grows c = λ rule e.
    grows-same rule e c.args.self.now c.append_square.new.self c.requires.kept
    (c.in_err-append_square.ensures.leaves ∙ c.take.ensures.leaves) (c.in_err-append_square.ensures.squares ∙ c.take.ensures.squares)

pub returns-clause-grows : goal.returns-clause-grows
returns-clause-grows c = λ rule e.
    grows-square rule e c.args.self.now c.append_square.new.self c.args.level c.args.quarters.now c.requires.kept c.requires.at
    (c.in_ok-append_square.ensures.leaves ∙ c.take.ensures.leaves)
    (c.in_ok-append_square.ensures.squares ∙ (λ i. c.take.ensures.squares i ++ c.new.ensures i ∷ []))
