use Rattle.std.proofs.Common.{List, [], ◌∷◌, ◌++◌, None, Some, refl, sym, ap, ◌∙◌, subst, take, arith}
use Rattle.std.proofs.lemmas.List.{get_or_default, take_all, take_more}
use Rattle.std.specs.Option.{is_some}
use Rattle.watched.specs.Telling.{TellsAfter, sheet}
use Rattle.watched.proofs.Telling.{tells_more, tells_none}
use Rattle.census_compare.specs.Same.{has_any, told_text, tolds_text}
use Rattle.census_compare.proofs.Listed.{any-last, last-more, last_told, text-more}
use Rattle.census_compare.proofs.same.put_tolds.Goals as goal

pub loop-index-init : goal.loop-index-init
loop-index-init g c = record { tells = tells_none (sheet c.args.block.now c.args.writer.now); last = refl }

pub loop-index-preserved : goal.loop-index-preserved
loop-index-preserved g c =
    let l = c.loop-index in
    let ts = c.args.tolds.now in
    let t = c.told-told.result in
    let a = sheet c.args.block.now c.args.writer.now in
    let b = sheet c.put.new.block c.put.new.writer in
    let more = take_more ts l.index t (omega arith) ∙ ap (λ u. take l.index ts ++ u ∷ []) (sym c.told-told.ensures) in
    record {
      tells = subst (λ text. TellsAfter text a b)
          (ap (λ text. tolds_text c.args.json None (take l.index ts) ++ text)
          (c.as_slice.ensures.value ∙ c.in_ok-text.ensures ∙ ap (λ before. told_text c.args.json before t) l.invariant.last)
          ∙ sym (text-more c.args.json None (take l.index ts) t)
          ∙ ap (tolds_text c.args.json None) (sym more))
          (tells_more (tolds_text c.args.json None (take l.index ts)) c.as_slice.result.now a (sheet l.block l.writer) b l.invariant.tells c.put.ensures);
      last = sym (last-more None (take l.index ts) t) ∙ ap (last_told None) (sym more);
    }

pub returns-clause-tells : goal.returns-clause-tells
returns-clause-tells g c =
    let ts = c.args.tolds.now in
    subst (λ us. TellsAfter (tolds_text c.args.json None us) (sheet c.args.block.now c.args.writer.now) (sheet c.loop-index.block c.loop-index.writer))
    (take_all c.loop-index.index ts (omega arith)) c.loop-index.invariant.tells

pub returns-clause-any : goal.returns-clause-any
returns-clause-any g c =
    let ts = c.args.tolds.now in
    c.is_some.ensures ∙ ap is_some c.loop-index.invariant.last ∙ any-last (take c.loop-index.index ts) ∙ ap has_any (take_all c.loop-index.index ts (omega arith))
