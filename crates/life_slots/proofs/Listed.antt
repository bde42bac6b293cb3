-- The tiles of slots, one after another.
use Rattle.std.proofs.Common.{◌≡◌, ℕ, suc, ℤ, All, List, [], ◌∷◌, subst, ap, arith}
use Rattle.life_plane.specs.declared.tile.Tile.{Tile}
use Rattle.life_slots.specs.Slots.{tile_of, placed_tiles}

pub shown_more : (tiles : List Tile) (all : List ((ℤ × ℤ) × ℕ)) (e : (ℤ × ℤ) × ℕ) (rest : List ((ℤ × ℤ) × ℕ)) → all ≡ e ∷ rest → placed_tiles all tiles ≡ (e.0, tile_of tiles e.1) ∷ placed_tiles rest tiles
shown_more tiles all e rest is = ap (λ (es : List ((ℤ × ℤ) × ℕ)). placed_tiles es tiles) is

pub shown_none : (tiles : List Tile) (all : List ((ℤ × ℤ) × ℕ)) → all ≡ [] → placed_tiles all tiles ≡ []
shown_none tiles all is = ap (λ (es : List ((ℤ × ℤ) × ℕ)). placed_tiles es tiles) is

pub all_first : (P : (ℤ × ℤ) × ℕ → Type 0) (all : List ((ℤ × ℤ) × ℕ)) (e : (ℤ × ℤ) × ℕ) (rest : List ((ℤ × ℤ) × ℕ)) → all ≡ e ∷ rest → All P all → P e
all_first P all e rest is each = let h : All P (e ∷ rest) = subst (λ (es : List ((ℤ × ℤ) × ℕ)). All P es) is each in h 0 e (omega arith)

pub all_rest : (P : (ℤ × ℤ) × ℕ → Type 0) (all : List ((ℤ × ℤ) × ℕ)) (e : (ℤ × ℤ) × ℕ) (rest : List ((ℤ × ℤ) × ℕ)) → all ≡ e ∷ rest → All P all → All P rest
all_rest P all e rest is each = let h : All P (e ∷ rest) = subst (λ (es : List ((ℤ × ℤ) × ℕ)). All P es) is each in λ k d below. h (suc k) d (omega arith)
