use Rattle.std.proofs.Common.{◌≡◌, true, List, sym, ap, subst, ◌∙◌}
use Rattle.std.specs.Bool.{OnTrue}
use Rattle.std.specs.List.{All, Contains}
use Rattle.std.proofs.lemmas.List.Elements.{All-contains}
use Rattle.life_model.specs.Cell.{Cell}
use Rattle.life_model.specs.Evolution.{generation}
use Rattle.life_model.specs.Generation.{contains}
use Rattle.life_strays.specs.Strays.{IsIslandNow, IsStray, LeavesStrays}
use Rattle.life_strays.specs.declared.stray.Stray.{Stray}
use Rattle.life_strays.proofs.Telling.{no_ash, no_growth}
use Rattle.life_strays.proofs.refusing.some_never_grow.Goals as goal

pub strays_of-requires-clause-islands : goal.strays_of-requires-clause-islands
strays_of-requires-clause-islands g c =
    let R = c.args.rule.now in
    let G = g.P.Plane.members c.args.plane.now in
    subst (λ H. All (IsIslandNow R H) c.in_ok-some.some.items) (sym c.in_ok-later.ensures.cells)
    (c.in_ok-some.ensures R G c.in_ok-islands.ensures)

-- some stray of the one list has a cell in common with what hangs on one of the other
abbrev SomeHang : List Stray → List Stray → Type 0
SomeHang before after =
    (stray : Stray) × Contains before stray × (later : Stray) × Contains after later × (x : Cell)
    × (contains stray.heirs x ≡ true) × (contains later.set x ≡ true)

pub returns : goal.returns
returns g c =
    let R = c.args.rule.now in
    let b = c.args.bound in
    let G = g.P.Plane.members c.args.plane.now in
    let before = c.in_ok-strays.strays.items in
    let after = c.in_ok-laters.laters.items in
    let firsts : All (IsStray R b b G) before =
    subst (λ H. All (IsStray R b b H) before) c.in_ok-later.ensures.cells c.in_ok-strays.ensures.strays in
    let lasts : All (IsStray R b b (generation R G b)) after =
    subst (λ H. All (IsStray R b b H) after)
    (c.in_ok-strays.ensures.later ∙ ap (λ H. generation R H b) c.in_ok-later.ensures.cells)
    c.in_ok-laters.ensures.strays in
    let seen : SomeHang before after =
    subst (λ xs. SomeHang xs after) c.as_slice-2.ensures.value
    (subst (SomeHang c.as_slice-2.result.now) c.as_slice-3.ensures.value
    (subst (λ t. OnTrue t (SomeHang c.as_slice-2.result.now c.as_slice-3.result.now)) c.if-not-some_hang.false
    c.some_hang.ensures)) in
    let strays : LeavesStrays R b G = record {
      first = seen.0;
      start = All-contains (IsStray R b b G) before seen.0 firsts seen.1;
      last = seen.2;
      later = All-contains (IsStray R b b (generation R G b)) after seen.2 lasts seen.3;
      common = seen.4;
      heir = seen.5;
      here = seen.6;
    } in
    record {
      growth = no_growth R b G strays;
      ash = λ parts ash. no_ash R b G parts strays.first.set strays.start.island strays.start.gone ash;
    }
