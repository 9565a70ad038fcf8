-- Rule 6 of 01: how the voltage stands to U_supp; of rule 9, what asks for T3. Definitions only.
use Rattle.std.specs.Prelude.{ℕ, ◌+◌, Bool, false, Option, None, Some, List, ℤ, pos, ◌+ℤ◌, ◌-ℤ◌, ◌*ℤ◌}
use Rattle.std.specs.Int.Signed.{le_z, lt_z}
use Rattle.common.specs.Choice.{choose}
use Rattle.slots.specs.Slots.{slot, u_supp, d_u, u_set5}
use Rattle.busbar_level.specs.declared.Level.{Level}
use Rattle.busbar_level.specs.declared.Level.TheVariants as level

-- "U_supp: highest set bit of 18, 17, 16, else 1"
unfoldable pub supply_of : List ℕ → Bool → Bool → Bool → ℕ
supply_of s second third fourth =
    choose fourth (slot s (u_supp + 3)) (choose third (slot s (u_supp + 2)) (choose second (slot s (u_supp + 1)) (slot s u_supp)))

-- "low if 2U ≤ 2U_supp − dU"
unfoldable pub low_of : ℤ → ℕ → ℕ → Bool
low_of u supp d = le_z (pos 2 *ℤ u) (pos 2 *ℤ pos supp -ℤ pos d)

-- "high if 2U ≥ 2U_supp + dU"
unfoldable pub high_of : ℤ → ℕ → ℕ → Bool
high_of u supp d = le_z (pos 2 *ℤ pos supp +ℤ pos d) (pos 2 *ℤ u)

-- both hold only with dU 0, which no taken sheet has: low then
unfoldable pub band_of : ℤ → ℕ → ℕ → Level
band_of u supp d = choose (low_of u supp d) level.Low (choose (high_of u supp d) level.High level.InBand)

-- "U is missing, and neither low nor high"
unfoldable pub level_of : List ℕ → Option ℤ → ℕ → Option Level
level_of s None supp = None
level_of s (Some u) supp = Some (band_of u supp (slot s d_u))

-- "U > U_set5"
unfoldable pub far_above : List ℕ → Option ℤ → Bool
far_above s None = false
far_above s (Some u) = lt_z (pos (slot s u_set5)) u
