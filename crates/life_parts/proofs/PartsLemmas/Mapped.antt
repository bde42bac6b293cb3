-- A generation that is mapped: what stands around a place, and what groups bear there, goes along.
use Rattle.std.proofs.Common.{◌≡◌, ℕ, ◌==◌, ◌&&◌, sym, ap, subst, ◌∙◌}
use Rattle.life_model.specs.Cell.{Cell, IsNear}
use Rattle.life_model.specs.Rule.{Rule, born}
use Rattle.life_model.specs.Generation.{Generation, contains}
use Rattle.life_model.specs.Evolution.{count_at, next}
use Rattle.life_model.specs.Symmetry.{image}
use Rattle.life_model.proofs.Symmetries.{KeepNeighbours, contains-image, next-image}
use Rattle.life_parts.specs.Parts.Groups.{ColoursIslands, IsAround, IsFair, bears, in_group}

-- G' is G, mapped
pub record IsMapped (G G' : Generation) (forth back : Cell → Cell) : Type 0 where
  pub keeps : KeepNeighbours forth back
  pub near_forth : (c d : Cell) → IsNear c d → IsNear (forth c) (forth d)
  pub near_back : (c d : Cell) → IsNear c d → IsNear (back c) (back d)
  pub is : G' ≡ image forth G

module _ (R : Rule) (G G' : Generation) (forth back : Cell → Cell) (mapped : IsMapped G G' forth back) where
  pub there : (c : Cell) → contains G (back c) ≡ contains G' c
  there c = sym (contains-image forth back mapped.keeps.inverse G c) ∙ ap (λ H. contains H c) (sym mapped.is)

  pub here : (c : Cell) → contains G' (forth c) ≡ contains G c
  here c = sym (there (forth c)) ∙ ap (contains G) (mapped.keeps.inverse.there c)

  module _ (x : Cell) (colour : Cell → ℕ) where
    abbrev pub colour_back : Cell → ℕ
    colour_back c = colour (forth c)

    group_there : (k : ℕ) (y : Cell) → in_group G colour_back k (back y) ≡ in_group G' colour k y
    group_there k y = λ i. there y i && (colour (mapped.keeps.inverse.here y i) == k)

    pub bears_there : (k : ℕ) → bears R G colour_back k (back x) ≡ bears R G' colour k x
    bears_there k =
        ap (born R) (sym (mapped.keeps.neighbours (in_group G colour_back k) (back x))
        ∙ (λ i. count_at (λ q. group_there k q i) (mapped.keeps.inverse.here x i)))

    pub next_there : contains (next R G) (back x) ≡ contains (next R G') x
    next_there =
        sym (contains-image forth back mapped.keeps.inverse (next R G) x)
        ∙ ap (λ H. contains H x) (sym (ap (next R) mapped.is ∙ next-image forth back mapped.keeps R G))

    pub islands_there : ColoursIslands G' colour → ColoursIslands G colour_back
    islands_there islands c d h k near =
        islands (forth c) (forth d) (here c ∙ h) (here d ∙ k) (mapped.near_forth c d near)

    pub around_there : (c : Cell) → IsAround G' x c → IsAround G (back x) (back c)
    around_there c at = record { live = there c ∙ at.live; near = mapped.near_back c x at.near }

    pub around_here : (c : Cell) → IsAround G (back x) c → IsAround G' x (forth c)
    around_here c at = record {
      live = here c ∙ at.live;
      near = subst (IsNear (forth c)) (mapped.keeps.inverse.here x) (mapped.near_forth c (back x) at.near);
    }

    pub fair_there : IsFair R G' colour x → IsFair R G colour_back (back x)
    fair_there fair = record {
      borne = λ h. let k = fair.borne (sym next_there ∙ h) in (k.0, bears_there k.0 ∙ k.1);
      born = λ k h. next_there ∙ fair.born k (sym (bears_there k) ∙ h);
      one = λ k l h g. fair.one k l (sym (bears_there k) ∙ h) (sym (bears_there l) ∙ g);
    }

    pub fair_here : IsFair R G colour_back (back x) → IsFair R G' colour x
    fair_here fair = record {
      borne = λ h. let k = fair.borne (next_there ∙ h) in (k.0, sym (bears_there k.0) ∙ k.1);
      born = λ k h. sym next_there ∙ fair.born k (bears_there k ∙ h);
      one = λ k l h g. fair.one k l (bears_there k ∙ h) (bears_there l ∙ g);
    }
