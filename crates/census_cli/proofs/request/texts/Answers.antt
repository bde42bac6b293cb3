use Rattle.std.proofs.Common.{◌∙◌, [], List, ℕ, Option, map, sym, ap}
use Rattle.std.specs.Prelude.{option_map, unwrap_or}
use Rattle.std.proofs.lemmas.Result.{IfOk-weaker}
use Rattle.clap.specs.Matches.{found_of}
use Rattle.clap.proofs.WalkLemmas.{raw_values-rows}
use Rattle.census_cli.proofs.Getters.{shown}
use Rattle.census_cli.proofs.request.texts.Goals as goal

pub returns-in-Some : goal.returns-in-Some
returns-in-Some c =
    let all = sym (raw_values-rows (found_of c.args.matches.now) c.args.id.now) ∙ shown (λ s. map (λ v. v.now) s.now) c.get_strs.result _ c.in-Some.texts c.get_strs.ensures c.in-Some.is in
    IfOk-weaker c.to_vec.result _ _ (λ v same. ap (λ (o : Option (List (List ℕ))). unwrap_or o []) all ∙ ap (map (λ s. s.now)) (sym (same (λ x y e. e)))) c.to_vec.ensures.items_if_clones_equal

pub returns-in-None : goal.returns-in-None
returns-in-None c =
    let none = sym (raw_values-rows (found_of c.args.matches.now) c.args.id.now) ∙ sym c.get_strs.ensures ∙ ap (option_map (λ s. map (λ v. v.now) s.now)) c.in-None.is in
    ap (λ (o : Option (List (List ℕ))). unwrap_or o []) none ∙ sym (ap (map (λ s. s.now)) c.new.ensures.items)
