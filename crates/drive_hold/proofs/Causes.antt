-- What ends a held automatic command (02, ticket 2): "in band, on the other side, manual or blocked for it", in its mode or in its direction.
-- Each is enough by itself, of every command and tick without local drive: the command ends, and counts as one operation.
-- Assumes nothing.
use mathlib.Core.Path.{◌≡◌, refl, sym}
use mathlib.Core.Bool.{Bool, true, false, not, ◌||◌}
use Prim.Native.Nat.{ℕ}
use Rattle.common.proofs.Cases.{yes, no}
use Rattle.common.proofs.Joined.{or_true}
use Rattle.ways.specs.declared.Direction.{Direction}
use Rattle.std.specs.Prelude.{Some}
use Rattle.ways.specs.Ways.{other_of}
use Rattle.blocks.specs.Blocked.{opposed_of}
use Rattle.drive.specs.declared.Drive.TheVariants.{Asked}
use Rattle.drive_hold.specs.declared.Holding.{Holding}
use Rattle.drive_hold.specs.Hold.{released_of, ends_of, automatic_of, held_from, hold_of}

module _ (d : Direction) (age : ℕ) (x : Holding) (attended : x.local ≡ false) where
  abbrev Ends : Type 0
  Ends = hold_of (Asked d age true) x ≡ released_of

  so : ends_of d x ≡ true → Ends
  unfolding hold_of held_from automatic_of
  so e = sym (no _ _ _ _ attended (yes _ _ _ _ refl (yes _ _ _ _ e refl)))

  pub ends_in_band : x.in_band ≡ true → Ends
  unfolding ends_of
  ends_in_band e = so (rw e refl)

  pub ends_on_the_other_side : other_of x.side (Some d) ≡ true → Ends
  unfolding ends_of
  ends_on_the_other_side e = so (rw (e, or_true x.in_band) refl)

  abbrev off : Bool
  off = x.in_band || other_of x.side (Some d)

  pub ends_in_manual : x.automatic ≡ false → Ends
  unfolding ends_of
  ends_in_manual e = so (rw (e, or_true off) refl)

  pub ends_with_its_mode : x.blocks.automatic ≡ true → Ends
  unfolding ends_of
  ends_with_its_mode e = so (rw (e, or_true (off || not x.automatic)) refl)

  pub ends_with_its_direction : opposed_of x.blocks d ≡ true → Ends
  unfolding ends_of
  ends_with_its_direction e = so (rw (e, or_true x.blocks.automatic, or_true (off || not x.automatic)) refl)
