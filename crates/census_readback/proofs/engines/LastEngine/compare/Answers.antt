use Rattle.std.proofs.Common.{◌∙◌, ap, sym, drop, map, ◌+◌}
use Rattle.census_readback.specs.Engines.{compared_by, emitted_of, engine_of}
use Rattle.census_readback.proofs.Compared.{compared-next}
use Rattle.census_readback.proofs.engines.LastEngine.compare.Goals as goal

pub returns-in-Less-clause-yes : goal.returns-in-Less-clause-yes
returns-in-Less-clause-yes c = λ _.
    let e = c.args.self.now in
    let next = emitted_of c.args.next.now in
    compared-next e next c.deref.result.now c.in-Some.other.now c.if-self.false c.deref.ensures.value c.in-Some.ensures.lookup.0 c.in-Some.ensures.lookup.1
    ∙ ap (λ order. compared_by order (engine_of e) (drop (e.compared + 1) (map emitted_of e.before.items))) (sym c.order.ensures ∙ c.in-Less.is)

pub returns-in-Equal-clause-yes : goal.returns-in-Equal-clause-yes
returns-in-Equal-clause-yes c = λ _.
    let e = c.args.self.now in
    let next = emitted_of c.args.next.now in
    compared-next e next c.deref.result.now c.in-Some.other.now c.if-self.false c.deref.ensures.value c.in-Some.ensures.lookup.0 c.in-Some.ensures.lookup.1
    ∙ ap (λ order. compared_by order (engine_of e) (drop (e.compared + 1) (map emitted_of e.before.items))) (sym c.order.ensures ∙ c.in-Equal.is)

pub returns-in-Greater-clause-no : goal.returns-in-Greater-clause-no
returns-in-Greater-clause-no c = λ _.
    let e = c.args.self.now in
    let next = emitted_of c.args.next.now in
    compared-next e next c.deref.result.now c.in-Some.other.now c.if-self.false c.deref.ensures.value c.in-Some.ensures.lookup.0 c.in-Some.ensures.lookup.1
    ∙ ap (λ order. compared_by order (engine_of e) (drop (e.compared + 1) (map emitted_of e.before.items))) (sym c.order.ensures ∙ c.in-Greater.is)
