-- One slot of a list of slots with another link.
use Rattle.std.proofs.Common.{◌≡◌, ◌≢◌, ℕ, ◌+◌, ◌-◌, ◌<◌, ⊎_elim, List, length, slice_index, slice_set, sym, ap, ◌∙◌, arith}
use Rattle.std.proofs.lemmas.Bool.{cases_eq}
use Rattle.life_slots.specs.declared.slot.Slot.{Slot}
use Rattle.life_slots.specs.Slots.{place_of, links_of, link_of, no_slot}
use Rattle.life_slots.proofs.Lists.{set_here, set_there}

-- the slots around a place that come before direction n are connected
pub record IsConnected (links : List ℕ) (slot : ℕ) (first slots : List Slot) (n : ℕ) : Type 0 where
  pub place : (k : ℕ) → place_of slots k ≡ place_of first k
  pub here : (k m : ℕ) → k < length first → m < 9 → 8 - m < n → slice_index links (8 - m) ≡ k → link_of slots k m ≡ slot
  pub others : (k m : ℕ) → m < 9 → (8 - m < n → slice_index links (8 - m) ≢ k) → link_of slots k m ≡ link_of first k m

module _ (links : List ℕ) (slot : ℕ) (first slots : List Slot) (n j : ℕ) (new : List ℕ) (small : n < 9) (inside : j < length slots) (j_is : slice_index links n ≡ j)
    (here : slice_index new (8 - n) ≡ slot) (others : (m : ℕ) → m ≢ 8 - n → slice_index new m ≡ slice_index (links_of slots j) m) where
  pub connected_more : length slots ≡ length first → IsConnected links slot first slots n →
      IsConnected links slot first (slice_set slots j (record { place = place_of slots j; links = new })) (n + 1)
  connected_more count before = record {
    place = λ k.
        ⊎_elim
        (λ (same : k ≡ j). ap (place_of (slice_set slots j (record { place = place_of slots j; links = new }))) same
        ∙ ap (λ (s : Slot). s.place) (set_here slots j (record { place = place_of slots j; links = new }) no_slot inside) ∙ ap (place_of slots) (sym same) ∙ before.place k)
        (λ (apart : k ≢ j). ap (λ (s : Slot). s.place) (set_there slots j k (record { place = place_of slots j; links = new }) no_slot apart) ∙ before.place k)
        (cases_eq k j);
    here = λ k m k_inside m_small done is.
        ⊎_elim
        (λ (now : 8 - m ≡ n).
        let k_is : k ≡ j = sym is ∙ ap (slice_index links) now ∙ j_is in
        let m_is : m ≡ 8 - n = omega arith in
        (λ i. link_of (slice_set slots j (record { place = place_of slots j; links = new })) (k_is i) (m_is i))
        ∙ ap (λ (s : Slot). slice_index s.links (8 - n)) (set_here slots j (record { place = place_of slots j; links = new }) no_slot inside) ∙ here)
        (λ (earlier : 8 - m ≢ n).
        let m_apart : m ≢ 8 - n = omega arith in
        unchanged k m (λ _. m_apart) ∙ before.here k m k_inside m_small (omega arith) is)
        (cases_eq (8 - m) n);
    others = λ k m m_small none.
        unchanged k m (λ (k_is : k ≡ j) (m_is : m ≡ 8 - n).
        let m_now : 8 - m ≡ n = omega arith in
        none (omega arith) (ap (slice_index links) m_now ∙ j_is ∙ sym k_is))
        ∙ before.others k m m_small (λ less. none (omega arith));
  }
    where
      unchanged : (k m : ℕ) → (k ≡ j → m ≢ 8 - n) →
          link_of (slice_set slots j (record { place = place_of slots j; links = new })) k m ≡ link_of slots k m
      unchanged k m apart =
          ⊎_elim
          (λ (same : k ≡ j). ap (λ i. link_of (slice_set slots j (record { place = place_of slots j; links = new })) i m) same
          ∙ ap (λ (s : Slot). slice_index s.links m) (set_here slots j (record { place = place_of slots j; links = new }) no_slot inside)
          ∙ others m (apart same) ∙ ap (λ i. link_of slots i m) (sym same))
          (λ (other : k ≢ j). ap (λ (s : Slot). slice_index s.links m) (set_there slots j k (record { place = place_of slots j; links = new }) no_slot other))
          (cases_eq k j)
