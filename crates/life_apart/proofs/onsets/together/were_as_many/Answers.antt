use Rattle.std.proofs.Common.{◌≡◌, ◌+◌, ◌≤◌, take, true≢false, sym, arith}
use Rattle.life_apart.specs.Onsets.Pasts.{pasts, total}
use Rattle.life_apart.proofs.OnsetsLemmas.Counts.{read_size, total_more, total_part}
use Rattle.life_apart.proofs.onsets.together.were_as_many.Goals as goal

pub returns-in-None : goal.returns-in-None
returns-in-None c =
    let os = c.args.parts.now in
    let n = c.args.ago in
    let i = c.loop-part.part-index in
    let size = read_size os c.requires.courses i c.part-item.result c.loop-part-test.true c.part-item.is n
    c.size_ago.result c.size_ago.ensures in
    let more = total_more n os i c.part-item.result c.loop-part-test.true in
    let part : total (pasts n (take (i + 1) os)) ≤ total (pasts n os) = total_part n (i + 1) os in
    let so_far : total (pasts n (take i os)) + c.loop-part.left ≡ c.args.population = c.loop-part.invariant in (
      λ t. absurd (true≢false (sym t)),
      λ same. absurd (c.in-None.ensures (omega arith)),
    )

pub loop-part-preserved : goal.loop-part-preserved
loop-part-preserved c =
    let os = c.args.parts.now in
    let n = c.args.ago in
    let i = c.loop-part.part-index in
    let size = read_size os c.requires.courses i c.part-item.result c.loop-part-test.true c.part-item.is n
    c.size_ago.result c.size_ago.ensures in
    let more = total_more n os i c.part-item.result c.loop-part-test.true in
    let so_far : total (pasts n (take i os)) + c.loop-part.left ≡ c.args.population = c.loop-part.invariant in
    let taken = c.in-Some.ensures in
    let enough : c.size_ago.result ≤ c.loop-part.left = taken.0 in
    let left = taken.1 in
    omega arith
