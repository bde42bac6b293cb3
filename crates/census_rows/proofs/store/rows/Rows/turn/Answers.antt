use Rattle.std.proofs.Common.{◌≡◌, [], ◌∷◌, ◌++◌, ap, ◌∙◌, subst, sym, arith, length}
use Rattle.std.proofs.lemmas.List.{append-nil}
use Rattle.census_rows.specs.Store.Paged.{AreFull, rows_of_pages}
use Rattle.census_rows.proofs.StoreLemmas.Paging.{full-more, rows-more}
use Rattle.census_rows.proofs.store.rows.Rows.turn.Goals as goal

turned : (c : goal.After-push_reserved) → c.push_reserved.new.self.items ≡ c.self.inside.pages.items ++ c.self.inside.last ∷ []
turned c =
    c.push_reserved.ensures.items ∙ ap (λ w. w ++ c.shrink.new.self ∷ []) c.in_ok-reserve.ensures.items
    ∙ ap (λ w. c.self.inside.pages.items ++ w ∷ []) (c.shrink.ensures ∙ c.replace-full.ensures.value)

pub invariant_of-self-then-len-eq-PAGE_LEN : goal.invariant_of-self-then-len-eq-PAGE_LEN
invariant_of-self-then-len-eq-PAGE_LEN c =
    let size : length c.self.inside.last ≡ 64 = omega (arith, c.if-len-eq-PAGE_LEN.true, c.len.ensures.value) in
    subst AreFull (sym (turned c)) (full-more c.self.inside.pages.items c.self.inside.last c.self.invariant size)

pub returns-in_ok-reserve : goal.returns-in_ok-reserve
returns-in_ok-reserve c =
    ap (λ w. rows_of_pages w ++ c.replace-full.new.dest) (turned c)
    ∙ ap (λ w. rows_of_pages (c.self.inside.pages.items ++ c.self.inside.last ∷ []) ++ w) (c.replace-full.ensures.after ∙ c.new.ensures)
    ∙ append-nil (rows_of_pages (c.self.inside.pages.items ++ c.self.inside.last ∷ []))
    ∙ rows-more c.self.inside.pages.items c.self.inside.last ∙ c.self.view_is
