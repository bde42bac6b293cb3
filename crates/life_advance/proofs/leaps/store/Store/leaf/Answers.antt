-- A leaf at the end of the list.
use Rattle.std.proofs.Common.{◌∙◌, ap, ◌++◌, ◌∷◌, []}
use Rattle.life_advance.proofs.LeapsLemmas.StoreLemmas.{grows-same, grows-leaf}
use Rattle.life_advance.proofs.leaps.store.Store.leaf.Goals as goal

pub returns-in_err-take-clause-grows : goal.returns-in_err-take-clause-grows
returns-in_err-take-clause-grows c = λ rule e. grows-same rule e c.args.self.now c.take.new.self c.requires c.take.ensures.leaves c.take.ensures.squares

pub returns-in_err-place-clause-grows : goal.returns-in_err-place-clause-grows
returns-in_err-place-clause-grows c = λ rule e. grows-same rule e c.args.self.now c.take.new.self c.requires c.take.ensures.leaves c.take.ensures.squares

pub returns-in_err-append_leaf-clause-grows : goal.returns-in_err-append_leaf-clause-grows
returns-in_err-append_leaf-clause-grows c = λ rule e.
    grows-same rule e c.args.self.now c.append_leaf.new.self c.requires
    (c.in_err-append_leaf.ensures.leaves ∙ c.take.ensures.leaves) (c.in_err-append_leaf.ensures.squares ∙ c.take.ensures.squares)

pub returns-clause-grows : goal.returns-clause-grows
returns-clause-grows c = λ rule e.
    grows-leaf rule e c.args.self.now c.append_leaf.new.self c.args.leaf.now c.requires
    (c.in_ok-append_leaf.ensures.leaves ∙ ap (λ xs. xs ++ c.args.leaf.now ∷ []) c.take.ensures.leaves) (c.in_ok-append_leaf.ensures.squares ∙ c.take.ensures.squares)
