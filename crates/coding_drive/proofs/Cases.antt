-- Each case has its numbers and is given back by them; numbers that are some case's are those of the case that they give.
-- Assumes nothing.
use mathlib.Core.Path.{◌≡◌, refl}
use mathlib.Core.Bool.{true, false, not, ◌&&◌, ◌||◌}
use Prim.Native.Nat.{ℕ, zero, suc, ◌≤◌}
use native.Mathlib.Omega.{arith}
use borrow.Author.Tests.{leb-true, eqb-true}
use lib.Dec.{leb, eqb}
use Rattle.common.specs.Choice.{choose}
use Rattle.common.proofs.Joined.{and_left, and_right}
use Rattle.ways.specs.declared.Direction.TheVariants.{Raise, Lower}
use Rattle.drive.specs.declared.Drive.{Drive}
use Rattle.drive.specs.declared.Drive.TheVariants.{Resting, Asked, Moving}
use Rattle.coding_drive.specs.declared.DriveImage.{DriveImage}
use Rattle.coding_drive.specs.Numbers.{drive_image, drive_of, is_drive}
use Rattle.coding_ways.proofs.Cases.{direction_back, direction_same}

pub drive_back : (d : Drive) → drive_of (drive_image d) ≡ d
unfolding drive_of drive_image choose
drive_back Resting = refl
drive_back (Asked d n true) = rw direction_back
drive_back (Asked d n false) = rw direction_back
drive_back (Moving d n true) = rw direction_back
drive_back (Moving d n false) = rw direction_back

pub drive_is : (d : Drive) → is_drive (drive_image d) ≡ true
unfolding drive_image
drive_is Resting = refl
drive_is (Asked Raise n true) = refl
drive_is (Asked Lower n true) = refl
drive_is (Asked Raise n false) = refl
drive_is (Asked Lower n false) = refl
drive_is (Moving Raise n true) = refl
drive_is (Moving Lower n true) = refl
drive_is (Moving Raise n false) = refl
drive_is (Moving Lower n false) = refl

abbrev drive_at_lem : ℕ → ℕ → ℕ → DriveImage
drive_at_lem k d n = record { kind = k; direction = d; ticks = n }

-- at rest both other numbers are 0
rest_zeros : (d n : ℕ) → is_drive (drive_at_lem 0 d n) ≡ true → (d ≡ 0) × (n ≡ 0)
rest_zeros d n p =
    let q : (eqb d 0 && eqb n 0) ≡ true = and_right (leb d 1) (eqb d 0 && eqb n 0) p in
    (eqb-true d 0 (and_left (eqb d 0) (eqb n 0) q), eqb-true n 0 (and_right (eqb d 0) (eqb n 0) q))

drive_kinds : (k d n : ℕ) → is_drive (drive_at_lem k d n) ≡ true → (k ≤ 4) × (leb d 1 ≡ true)
drive_kinds k d n p =
    let q : (leb k 4 && leb d 1) ≡ true = and_left (leb k 4 && leb d 1) (not (eqb k 0) || (eqb d 0 && eqb n 0)) p in
    (leb-true k 4 (and_left (leb k 4) (leb d 1) q), and_right (leb k 4) (leb d 1) q)

drive_at : (k d n : ℕ) → is_drive (drive_at_lem k d n) ≡ true → drive_image (drive_of (drive_at_lem k d n)) ≡ drive_at_lem k d n
unfolding drive_of drive_image choose
drive_at zero d n p = rw ((rest_zeros d n p).0, (rest_zeros d n p).1)
drive_at (suc zero) d n p = rw (direction_same d (drive_kinds 1 d n p).1)
drive_at (suc (suc zero)) d n p = rw (direction_same d (drive_kinds 2 d n p).1)
drive_at (suc (suc (suc zero))) d n p = rw (direction_same d (drive_kinds 3 d n p).1)
drive_at (suc (suc (suc (suc zero)))) d n p = rw (direction_same d (drive_kinds 4 d n p).1)
drive_at (suc (suc (suc (suc (suc k))))) d n p = absurd (omega (arith, (drive_kinds (suc (suc (suc (suc (suc k))))) d n p).0))

pub drive_same : (m : DriveImage) → is_drive m ≡ true → drive_image (drive_of m) ≡ m
drive_same m p = drive_at m.kind m.direction m.ticks p
