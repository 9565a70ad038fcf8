-- What a fault blocks.
-- Assumes nothing.
use mathlib.Core.Path.{◌≡◌}
use mathlib.Core.Bool.{Bool, true, false, not, ◌&&◌, ◌||◌}
use mathlib.Core.List.{List}
use Prim.Native.Nat.{ℕ}
use Rattle.common.proofs.Joined.{or_left, or_right, or_true}
use Rattle.input.specs.declared.Contacts.{Contacts}
use Rattle.blocks.specs.declared.Found.{Found}
use Rattle.slots.specs.Slots.{slot, organs_block_manual, n_l, n_r}
use lib.Dec.{eqb}
use Rattle.blocks.specs.declared.Blocks.{Blocks}
use Rattle.blocks.specs.Blocked.{common_of, end_of, organs_automatic_of, any_trip_of, tap_lost_of, blocks_of}

module _ (s : List ℕ) (c : Contacts) (f : Found) (e : f.fault ≡ true) where
  common : common_of c f.fault ≡ true
  common =
      rw e
      (or_true (c.supply_off || c.oil_cold || c.oil_low || c.oil_high || c.overcurrent || c.external_block || c.local_drive))

  -- a fault blocks both modes
  pub fault_blocks_automatic : (blocks_of s c f).automatic ≡ true
  unfolding blocks_of
  fault_blocks_automatic = rw common

  pub fault_blocks_manual : (blocks_of s c f).manual ≡ true
  unfolding blocks_of
  fault_blocks_manual = rw common

-- where automatic is not blocked, there is no local drive and no fault
module _ (s : List ℕ) (c : Contacts) (f : Found) (e : (blocks_of s c f).automatic ≡ false) where
  common_free : common_of c f.fault ≡ false
  unfolding blocks_of
  common_free = or_left _ _ (or_left _ _ (or_left _ _ (or_left _ _ e)))

  pub automatic_no_fault : f.fault ≡ false
  automatic_no_fault =
      or_right (c.supply_off || c.oil_cold || c.oil_low || c.oil_high || c.overcurrent || c.external_block || c.local_drive) _ common_free

  pub automatic_not_local : c.local_drive ≡ false
  automatic_not_local =
      or_right (c.supply_off || c.oil_cold || c.oil_low || c.oil_high || c.overcurrent || c.external_block) _
      (or_left _ f.fault common_free)

-- the parts of rule 8 make it, over plain values, as the function has them
module _ (s : List ℕ) (c : Contacts) (f : Found) where
  pub blocks_made : {common organs lost tripped raise lower : Bool} → common ≡ common_of c f.fault → organs ≡ organs_automatic_of s f.trips
      → lost ≡ tap_lost_of s f.tap → tripped ≡ any_trip_of f.trips → raise ≡ end_of s f.tap (slot s n_r) (slot s n_l)
      → lower ≡ end_of s f.tap (slot s n_l) (slot s n_r)
      → ◌≡◌ {A = Blocks}
      (record {
        automatic = common || not f.section || f.u_missing || organs || lost;
        manual = common || eqb (slot s organs_block_manual) 1 && tripped;
        raise = common || c.end_up || c.raise_block || raise;
        lower = common || c.end_down || c.lower_block || lower;
      })
      (blocks_of s c f)
  unfolding blocks_of
  blocks_made p o l t r w = rw (p, o, l, t, r, w)
