-- The things of the debris and of each engine, one list after another.
use Rattle.std.proofs.Common.{◌≡◌, ℕ, suc, ◌+◌, ◌<◌, List, [], ◌∷◌, ◌++◌, get_or, length, map, sym, ap, subst, ◌∙◌, arith}
use Rattle.std.proofs.lemmas.List.{get_or_default, length_push}
use Rattle.std.specs.List.{Contains}
use Rattle.life_model.proofs.Moves.{moved-origin}
use Rattle.life_model.specs.Cell.{origin}
use Rattle.life_growth.specs.Things.{Thing}
use Rattle.life_growing.specs.Settled.Settling.{Settling}
use Rattle.life_growing.specs.Settled.Things.{placed, things_of}
use Rattle.life_tracks.proofs.Pushing.{each_more}
use Rattle.life_growing.specs.Emissions.{AreAll, Emission, IsEmissionThing}
use Rattle.life_growing.specs.Meeting.{AreThingsOfEach, IsThingAt}

placed_there : (it : Thing) → placed 0 origin [] it ≡ it
placed_there it =
    let now : 0 + it.time ≡ it.time = omega arith in
    λ i. record { time = now i; set = moved-origin it.set i; ways = it.ways }

-- things that are placed where they are
pub all_there : (its : List Thing) → map (placed 0 origin []) its ≡ its
all_there [] = λ i. []
all_there (it ∷ its) = λ i. placed_there it i ∷ all_there its i

all_of_list : (things its : List Thing) → things ≡ its → AreAll things (Contains its)
all_of_list things its same = record {
  each = λ it one. subst (λ xs. Contains xs it) same one;
  all = λ it one. subst (λ xs. Contains xs it) (sym same) one;
}

module _ (engines : List Emission) (debris : Settling) where
  -- the things of the debris and of the first k engines
  pub record AreFirstThings (k : ℕ) (lists : List (List Thing)) : Type 0 where
    pub count : length lists ≡ k + 1
    pub each : (n : ℕ) (d : List Thing) → n < k + 1 → AreAll (get_or lists n d) (IsThingAt engines debris n)

  pub first_list : (things : List Thing) (lists : List (List Thing)) → lists ≡ things ∷ [] → things ≡ things_of debris →
      AreFirstThings 0 lists
  first_list things lists is same = record {
    count = ap length is;
    each = λ n d h.
        let e : 0 ≡ n = omega arith in
        subst (λ m. AreAll (get_or lists m d) (IsThingAt engines debris m)) e
        (subst (λ xs. AreAll xs (IsThingAt engines debris 0)) (sym (ap (λ xs. get_or xs 0 d) is))
        (all_of_list things (things_of debris) same));
  }

  module _ (k : ℕ) (lists more : List (List Thing)) (things : List Thing) (e : Emission) (h : k < length engines)
      (is : e ≡ get_or engines k e) (all : AreAll things (IsEmissionThing e)) where
    here : AreAll things (IsThingAt engines debris (suc k))
    here = record {
      each = λ it one. (h, λ d. subst (λ f. IsEmissionThing f it) (is ∙ get_or_default engines k e d h) (all.each it one));
      all = λ it one. all.all it (subst (λ f. IsEmissionThing f it) (sym is) (one.1 e));
    }

    pub one_list_more : AreFirstThings k lists → more ≡ lists ++ things ∷ [] → AreFirstThings (k + 1) more
    one_list_more are last =
        let count = are.count in
        let long = ap length last ∙ length_push lists things in
        record {
          count = omega (arith, long);
          each = λ n d h'.
              each_more lists more things (k + 1) count last (λ m xs. AreAll xs (IsThingAt engines debris m)) are.each
              (subst (λ m. AreAll things (IsThingAt engines debris m)) (let e' : suc k ≡ k + 1 = omega arith in e') here)
              n d h';
        }

  pub are_of_each : (k : ℕ) (lists : List (List Thing)) → AreFirstThings k lists → k ≡ length engines →
      AreThingsOfEach engines debris lists
  are_of_each k lists are end =
      let count = are.count in
      record {
        count = omega arith;
        each = λ n h. are.each n [] (omega arith);
      }
