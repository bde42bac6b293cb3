use Rattle.std.proofs.Common.{◌≡◌, ◌∙◌, List, false, Result, Ok, Err, OnOk, sym, subst, rules, true≢false}
use Rattle.std.specs.Result.{is_err}
use Rattle.std.specs.List.Sorted.{IsPermutation, IsSorted}
use Rattle.std.proofs.lemmas.List.Sorted.{list_any-IsPermutation, All-permutation, answers_always, IsPermutation-trans}
use Rattle.life_model.specs.Cell.{Cell, cell_cmp, same_cell}
use Rattle.life_cells.specs.Limits.{IsPlace, IsWithin}
use Rattle.life_cells.proofs.Sorted.{left_rises, left_has, left_all, same_sets}
use Rattle.life_cells.proofs.order.put_in_order.Goals as goal
use Rattle.life_cells.proofs.order.put_in_order.Goals.{then-is_err, else-is_err}

-- what holds if there is no error
without_error : {T E P : Type 0} (r : Result T E) → false ≡ is_err r → OnOk r P → P
without_error (Ok x) e h = h
without_error (Err y) e h = absurd (true≢false (sym e))

module _ (c : goal.After-dedup) where
  -- sorted in one way or the other
  both : IsPermutation {X = Cell} c.args.items.now.items c.if-is_err.items.items × IsSorted cell_cmp c.if-is_err.items.items
  both =
      let Q = λ (l : List Cell). IsPermutation {X = Cell} c.args.items.now.items l × IsSorted cell_cmp l in
      elim c.if-is_err.branch [
        | then-is_err w ↦
            subst (λ v. Q v.items) (sym w.items-is) (
              IsPermutation-trans _ _ _ c.sort_by_key.ensures.permutation w.sort_unstable_by_key.ensures.permutation,
              w.sort_unstable_by_key.ensures.sorted (λ b. (b.1, b.0)) (answers_always _ _ _ (λ f a r q k. search rules)),
            )
        | else-is_err w ↦
            subst (λ v. Q v.items) (sym w.items-is) (
              c.sort_by_key.ensures.permutation,
              without_error c.sort_by_key.result w.if-is_err.ensures.value c.sort_by_key.ensures.sorted (λ b. (b.1, b.0)) (answers_always _ _ _ (λ f a r q k. search rules)),
            )
      ]

pub returns-clause-rising : goal.returns-clause-rising
returns-clause-rising c = left_rises _ _ c.dedup.ensures.filtered (both c).1

pub returns-clause-same : goal.returns-clause-same
returns-clause-same c =
    same_sets _ _ (λ b. left_has _ _ c.dedup.ensures.filtered b ∙ sym (list_any-IsPermutation (same_cell b) _ _ (both c).0))

pub returns-clause-placed : goal.returns-clause-placed
returns-clause-placed c all = left_all _ _ c.dedup.ensures.filtered IsPlace (All-permutation IsPlace _ _ (both c).0 all)

pub returns-clause-within : goal.returns-clause-within
returns-clause-within c a all = left_all _ _ c.dedup.ensures.filtered (IsWithin a) (All-permutation (IsWithin a) _ _ (both c).0 all)
