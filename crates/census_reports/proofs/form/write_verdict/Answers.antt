use Rattle.std.proofs.Common.{List, ℕ, ap, subst, sym, ◌∙◌}
use Rattle.std.specs.Result.{result_map_both}
use Rattle.watched.specs.Streams.{PutsMoreBytes}
use Rattle.census_compare.specs.Claims.{all_read}
use Rattle.census_reports.proofs.Said.{said_either}
use Rattle.census_reports.proofs.form.write_verdict.Goals as goal

pub returns-in_ok-note-in-Ok-clause-says : goal.returns-in_ok-note-in-Ok-clause-says
returns-in_ok-note-in-Ok-clause-says g c =
    said_either c.write_disagreement.result _ _ (
      all_read c.in-Ok.claims,
      sym c.in_ok-claims.ensures ∙ ap (result_map_both all_read (λ (line : ℕ). line)) c.in-Ok.is,
      subst (λ (t : List ℕ). PutsMoreBytes t c.args.errors.now.stream c.tell.new.self.stream) (c.as_slice.ensures.value ∙ c.in_ok-note-in-Ok.ensures) c.tell.ensures,
    )
