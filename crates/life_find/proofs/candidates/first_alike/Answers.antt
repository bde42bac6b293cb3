use Rattle.std.proofs.Common.{◌≡◌, ◌-◌, inl, inr, sym, ap, ◌∙◌, arith}
use Rattle.std.proofs.lemmas.Bool.{cases_lt}
use Rattle.life_find.specs.Search.{changes_at}
use Rattle.life_find.proofs.candidates.first_alike.Goals as goal

pub places-preserved : goal.places-preserved
places-preserved c =
    let end = c.places.end in
    let some = c.places-test.true in
    let within = c.places.invariant.end in
    record {
      end = omega arith;
      rest = λ i from small.
          elim (cases_lt i end) [
            | inl last ↦
                let same : i ≡ end - 1 = omega arith in
                ap (changes_at c.args.fingerprints.now c.args.places) same ∙ sym c.changes.ensures ∙ c.if-changes.false
            | inr after ↦ c.places.invariant.rest i after small
          ];
    }
