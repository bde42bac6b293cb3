-- The cells of a set that pass a test.
use Rattle.std.proofs.Common.{◌≡◌, Bool, ◌&&◌, filter, sym, ap, ◌∙◌}
use Rattle.life_model.specs.Cell.{Cell}
use Rattle.life_model.specs.Generation.{Generation, cells, from_list, keep}
use Rattle.life_model.proofs.Generations.{contains-cells, contains-from_list, contains-keep, same_members}
use Rattle.life_plane.proofs.Later.{has-filter}

pub from_list-filter : (p : Cell → Bool) (G : Generation) → from_list (filter p (cells G)) ≡ keep G p
from_list-filter p G = same_members _ _ (λ c.
    contains-from_list (filter p (cells G)) c ∙ has-filter p (cells G) c
    ∙ ap (λ b. b && p c) (sym (contains-cells G c)) ∙ sym (contains-keep G p c))
