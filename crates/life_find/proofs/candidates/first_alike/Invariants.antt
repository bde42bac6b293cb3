use Rattle.std.proofs.Common.{◌≡◌, ℕ, ◌+◌, ◌≤◌, false}
use Rattle.life_find.specs.Search.{changes_at}
use Rattle.life_find.proofs.candidates.first_alike.Given as goal

-- no place from the end on has a change
abbrev pub invariant-places : goal.invariant-places
invariant-places l = record {
  end : l.end ≤ l.last + 1;
  rest : (i : ℕ) → l.end ≤ i → i ≤ l.last → changes_at l.fingerprints l.places i ≡ false;
}

abbrev pub decreases-places : goal.decreases-places
decreases-places l = l.end
