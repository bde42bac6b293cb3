use Rattle.std.proofs.Common.{◌≡◌, ◌+◌, ◌<◌, ◌≤◌, ◌&&◌, ◌∷◌, ◌++◌, ◌∙◌, [], List, Global, Vec, ap, arith, false, length, subst, sym, take, true}
use Rattle.std.specs.List.{list_all}
use Rattle.std.proofs.lemmas.List.{take_all}
use Rattle.std.proofs.lemmas.List.Sorted.{length_permutation}
use Rattle.census_compare.specs.Index.{are_none, names_claimed, names_of}
use Rattle.census_compare.specs.declared.index.Spot.{Spot}
use Rattle.census_compare.proofs.Known.{all-claimed}
use Rattle.census_compare.proofs.Silent.{and-true, passed-more}
use Rattle.census_compare.proofs.Spotted.{and-false, nobody, none-more, none-moved}
use Rattle.census_compare.proofs.index.Index.unclaimed.Goals as goal
use Rattle.census_compare.proofs.index.Index.unclaimed.Goals.{then-not-is_claimed+in_ok-push, else-not-is_claimed}

pub loop-index-preserved : goal.loop-index-preserved
loop-index-preserved c = λ claims noted.
    let l = c.loop-index in
    let spots = c.args.self.now.spots.items in
    let less : l.index < length spots = let small = c.loop-index-test.true in let end = c.len-index-end.ensures in let own = c.args.self.now.spots.ok.0 in omega (arith, small, end, own) in
    let step : are_none c.if-not-is_claimed.left.items ≡ (are_none l.left.items && c.is_claimed.result) =
    elim c.if-not-is_claimed.branch [
      | then-not-is_claimed+in_ok-push w ↦
          ap (λ (v : Vec Spot Global). are_none v.items) w.left-is ∙ ap are_none w.in_ok-push.ensures.items ∙ none-more l.left.items _
          ∙ sym (ap (λ b. are_none l.left.items && b) w.if-not-is_claimed.true ∙ and-false (are_none l.left.items))
      | else-not-is_claimed w ↦
          ap (λ (v : Vec Spot Global). are_none v.items) w.left-is
          ∙ sym (ap (λ b. are_none l.left.items && b) w.if-not-is_claimed.false ∙ and-true (are_none l.left.items))
    ] in
    step
    ∙ passed-more (λ spot. names_claimed claims (names_of spot)) spots l.index nobody (are_none l.left.items) c.is_claimed.result less
    (l.invariant claims noted) (c.is_claimed.ensures claims noted nobody)

pub returns : goal.returns
returns c = λ claims noted.
    let l = c.loop-index in
    let spots = c.args.self.now.spots.items in
    let all : length spots ≤ l.index = let end = c.loop-index-test.false in let long = c.len-index-end.ensures in let own = c.args.self.now.spots.ok.0 in omega (arith, end, long, own) in
    none-moved l.left.items c.sort_unstable_by_key.new.self.items (length_permutation l.left.items c.sort_unstable_by_key.new.self.items c.sort_unstable_by_key.ensures.permutation)
    ∙ l.invariant claims noted
    ∙ ap (λ (ss : List Spot). list_all (λ spot. names_claimed claims (names_of spot)) ss) (take_all l.index spots all)
    ∙ all-claimed c.args.self.now c.requires claims
