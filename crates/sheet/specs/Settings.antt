-- What a list must be to be taken, said without the check.
use Rattle.std.specs.Prelude.{ℕ, ◌<◌, ◌≤◌, ◌≡◌, List, ◌⊎◌, length}
use Rattle.slots.specs.Slots.{slot, slots, tap_source, n_pos, n_r, n_l, continuous}
use Rattle.sheet_ranges.specs.Table.{Taking, module_factor}

pub record Settings (s : List ℕ) : Type 0 where
  pub size : length s ≡ slots
  pub ranges : (i : ℕ) → i < slots → Taking (module_factor s) i (slot s i)
  pub ends : slot s n_l < slot s n_r
  pub above : slot s n_l ≤ slot s n_pos
  pub below : slot s n_pos ≤ slot s n_r
  -- 02, ticket 2: "the settings taken are then exactly those that pass it as well"
  pub counted : slot s continuous ≡ 1 → (slot s tap_source ≡ 3) ⊎ (slot s tap_source ≡ 4) → ⊥
