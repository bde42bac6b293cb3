use Rattle.std.proofs.Common.{◌≡◌, ◌++◌, ◌∷◌, [], inl, inr, sym, ap, subst, ◌∙◌, arith}
use Rattle.std.specs.List.{Contains}
use Rattle.std.proofs.lemmas.Bool.{cases_lt}
use Rattle.std.proofs.lemmas.List.Elements.{All-push, All-same, Contains-append_left, Contains-append_right}
use Rattle.life_apart.specs.Spans.{IsPlacedIn, span_at}
use Rattle.life_apart.proofs.span.add_bands.Goals as goal

pub returns-in_err-push-clause-kept : goal.returns-in_err-push-clause-kept
returns-in_err-push-clause-kept c s h =
    subst (λ xs. Contains xs s) (sym c.in_err-push.ensures.items) (c.loop-band.invariant.kept s h)

pub returns-in_err-push-clause-placed : goal.returns-in_err-push-clause-placed
returns-in_err-push-clause-placed c n within all =
    All-same (IsPlacedIn n) _ _ c.in_err-push.ensures.items (c.loop-band.invariant.placed n within all)

pub loop-band-preserved : goal.loop-band-preserved
loop-band-preserved c =
    let at = c.loop-band.invariant in
    let items = c.loop-band.spans.items in
    let one = span_at c.args.hull c.args.place c.loop-band.band in
    let pushed : c.push.new.self.items ≡ items ++ one ∷ [] =
    c.in_ok-push.ensures.items ∙ ap (λ t. items ++ t ∷ []) c.span_at.ensures in
    record {
      kept = λ s h. subst (λ xs. Contains xs s) (sym pushed) (Contains-append_left items (one ∷ []) s (at.kept s h));
      placed = λ n within all. All-same (IsPlacedIn n) c.push.new.self.items (items ++ one ∷ []) pushed
          (All-push (IsPlacedIn n) items one (at.placed n within all) within);
      bands = λ band from below.
          let s = span_at c.args.hull c.args.place band in
          let there : Contains (items ++ one ∷ []) s = elim (cases_lt band c.loop-band.band) [
            | inl early ↦ Contains-append_left items (one ∷ []) s (at.bands band from early)
            | inr late ↦
                let last : c.loop-band.band ≡ band = omega arith in
                Contains-append_right items (one ∷ []) s (0, omega arith, ap (span_at c.args.hull c.args.place) last)
          ] in
          subst (λ xs. Contains xs s) (sym pushed) there;
    }

pub returns-clause-bands : goal.returns-clause-bands
returns-clause-bands c = record {
  first = c.first_band-first.result;
  last = c.last_band-last.result;
  top = c.first_band-first.ensures;
  bottom = c.last_band-last.ensures.band;
  each = λ band from to.
      let ended = c.loop-band-test.false in
      c.loop-band.invariant.bands band from (omega arith);
}
