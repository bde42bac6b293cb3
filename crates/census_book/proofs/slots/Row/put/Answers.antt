use Rattle.std.proofs.Common.{◌≡◌, ◌-◌, ◌<◌, ◌≤◌, None, Some, ap, sym, subst, ◌∙◌, arith, length}
use Rattle.std.specs.Prelude.{slice_set}
use Rattle.census_book.specs.Slots.{Row, work_at}
use Rattle.census_book.proofs.Memory.{ok_then}
use Rattle.census_book.proofs.Padding.{put_fits, put_row, row_length, set_behind, set_there}
use Rattle.census_book.proofs.slots.Row.put.Goals as goal

pub returns-then-at-len-clause-put : goal.returns-then-at-len-clause-put
returns-then-at-len-clause-put c =
    let r = c.self.inside in
    let size : length c.args.self.now ≡ r.len = ap length (sym c.self.view_is) ∙ row_length r.is_dropped r.len r.slots.items c.self.invariant.0 in
    let within : c.args.number ≤ r.len = omega (arith, c.requires.within, size) in
    let empty = subst (λ (row : Row). work_at row c.args.number ≡ None) (sym c.self.view_is) c.requires.empty in
    let filled = ok_then c.fill.result (sym c.is_err.ensures.value ∙ c.if-is_err.false) c.fill.ensures.items in
    let there : c.args.number - 1 < length c.fill.new.slots.items = omega (arith, c.if-at-len.true, c.len.ensures) in
    let made = set_there c.args.number r.slots.items c.fill.new.slots.items c.args.done c.requires.within.0 filled there in
    put_row r.is_dropped c.args.number r.len r.slots.items _ c.args.done c.requires.within.0 within c.self.invariant.0 empty made
    ∙ ap (λ xs. slice_set xs (c.args.number - 1) (Some (Some c.args.done))) c.self.view_is

pub invariant_of-self-2 : goal.invariant_of-self-2
invariant_of-self-2 c =
    let r = c.self.inside in
    let size : length c.args.self.now ≡ r.len = ap length (sym c.self.view_is) ∙ row_length r.is_dropped r.len r.slots.items c.self.invariant.0 in
    let within : c.args.number ≤ r.len = omega (arith, c.requires.within, size) in
    let empty = subst (λ (row : Row). work_at row c.args.number ≡ None) (sym c.self.view_is) c.requires.empty in
    let filled = ok_then c.fill.result (sym c.is_err.ensures.value ∙ c.if-is_err.false) c.fill.ensures.items in
    let behind : c.args.number - 1 < length c.fill.new.slots.items → ⊥ = λ lt. absurd (omega (arith, lt, c.if-at-len.false, c.len.ensures)) in
    let made = c.push_reserved.ensures.items ∙ set_behind c.args.number r.slots.items c.fill.new.slots.items c.args.done c.requires.within.0 filled behind in
    put_fits r.is_dropped c.args.number r.len r.slots.items _ c.args.done c.requires.within.0 within c.self.invariant.0 empty made

pub returns-clause-put : goal.returns-clause-put
returns-clause-put c =
    let r = c.self.inside in
    let size : length c.args.self.now ≡ r.len = ap length (sym c.self.view_is) ∙ row_length r.is_dropped r.len r.slots.items c.self.invariant.0 in
    let within : c.args.number ≤ r.len = omega (arith, c.requires.within, size) in
    let empty = subst (λ (row : Row). work_at row c.args.number ≡ None) (sym c.self.view_is) c.requires.empty in
    let filled = ok_then c.fill.result (sym c.is_err.ensures.value ∙ c.if-is_err.false) c.fill.ensures.items in
    let behind : c.args.number - 1 < length c.fill.new.slots.items → ⊥ = λ lt. absurd (omega (arith, lt, c.if-at-len.false, c.len.ensures)) in
    let made = c.push_reserved.ensures.items ∙ set_behind c.args.number r.slots.items c.fill.new.slots.items c.args.done c.requires.within.0 filled behind in
    put_row r.is_dropped c.args.number r.len r.slots.items _ c.args.done c.requires.within.0 within c.self.invariant.0 empty made
    ∙ ap (λ xs. slice_set xs (c.args.number - 1) (Some (Some c.args.done))) c.self.view_is
