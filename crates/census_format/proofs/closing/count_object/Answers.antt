use Rattle.std.proofs.Common.{◌≡◌, ◌+◌, ap, ◌∙◌, arith}
use Rattle.std.proofs.lemmas.Grind.{common_steps}
use Rattle.std.proofs.lemmas.List.Sums.{count_by-le-length}
use Rattle.std.specs.Map.{lookup}
use Rattle.std.specs.Option.{unwrap_or}
use Rattle.std.specs.List.{count_by}
use Rattle.indexmap.specs.IndexMap.{insert_entry}
use Rattle.census_format.specs.Objects.{same_object}
use Rattle.census_format.specs.ObjectLaws.{one_object, same_itself}
use Rattle.census_format.proofs.Tallies.{tally_push_all, lookup_tally}
use Rattle.census_format.proofs.closing.count_object.Goals as goal

pub overflow_add-counts : goal.overflow_add-counts
overflow_add-counts c =
    let k = c.args.object in
    let ks = c.requires.tally.objects in
    let looked : c.or_insert.result.now ≡ unwrap_or (lookup (same_object k) c.args.counts.now.entries) 0 = c.or_insert.ensures.value ∙ ap (λ o. unwrap_or o 0) c.in_ok-counts.ensures.value in
    let count : c.or_insert.result.now ≡ count_by (same_object k) ks = looked ∙ ap (λ es. unwrap_or (lookup (same_object k) es) 0) c.requires.tally.is ∙ lookup_tally same_object one_object same_itself k ks in
    let most = count_by-le-length (same_object k) ks in
    omega (arith, count, most, c.requires.tally.few, c.requires.few)

pub returns : goal.returns
returns c = λ ks is.
    let k = c.args.object in
    let next = c.or_insert.result.now + c.args.count in
    let looked : c.or_insert.result.now ≡ unwrap_or (lookup (same_object k) c.args.counts.now.entries) 0 = c.or_insert.ensures.value ∙ ap (λ o. unwrap_or o 0) c.in_ok-counts.ensures.value in
    let count : c.or_insert.result.now ≡ count_by (same_object k) ks = looked ∙ ap (λ es. unwrap_or (lookup (same_object k) es) 0) is ∙ lookup_tally same_object one_object same_itself k ks in
    let kept = c.in_ok-counts.ensures.update.1 next ∙ ap (λ es. insert_entry same_object es k next) is ∙ tally_push_all same_object one_object same_itself ks k c.args.count next (omega arith) (ap (λ n. n + c.args.count) count) in
    grind (arith, common_steps, kept)
