-- The bound on a reading's number acts on no reading that `measure` gives, and which numbers are needed.
-- Assumes nothing.
use mathlib.Core.Path.{◌≡◌, refl, sym}
use mathlib.Core.Bool.{◌||◌}
use Prim.Native.Nat.{ℕ, ◌*◌, ◌≤◌}
use native.Mathlib.Nat.{le_trans}
use borrow.Author.Tests.{le-leb}
use lib.Dec.{lit≤}
use lib.IntN.{ℤ}
use Rattle.common.proofs.Cases.{yes}
use Rattle.measure.proofs.Laws.{measured}
use Rattle.measure.specs.Readings.{limit_of, measured_of, AtMost}
use Rattle.measure.specs.declared.Channel.{Channel}
use Rattle.measure.specs.declared.Channel.TheVariants.{Voltage, Current1A, Current5A}
use Rattle.measure.specs.declared.Measured.{Measured}
use Rattle.measure.specs.declared.Measured.TheVariants.{Good, Held, Missing}
use Rattle.measure.specs.declared.Reading.{Reading}
use Rattle.busbar_current.specs.Current.{most_reading, good_of, number_of, is_missing, both}
use Rattle.std.specs.Prelude.{Option, None, Some}

-- a number that is not above the bound is left as it is
uncut : (n : ℕ) (m : Measured) → n ≤ most_reading → AtMost n m → good_of m ≡ number_of m
unfolding good_of number_of AtMost
uncut n (Good k) l h = sym (yes _ _ _ _ (le-leb _ _ (le_trans h l)) refl)
uncut n (Held k) l h = refl
uncut n Missing l h = refl

-- no channel's range goes beyond it
within : (c : Channel) → 1000 * limit_of c ≤ most_reading
within Voltage = lit≤ tt
within Current1A = lit≤ tt
within Current5A = lit≤ tt

-- of every channel and reading: the number is there wherever the reading is Good and in range
pub no_cut_off : (c : Channel) (r : Reading) → good_of (measured_of (limit_of c) r) ≡ number_of (measured_of (limit_of c) r)
no_cut_off c r = uncut (1000 * limit_of c) (measured_of (limit_of c) r) (within c) (measured (limit_of c) r refl).1

-- of two numbers that are needed, none may be missing
pub both_missing : (f : ℤ → ℤ → ℤ) (a b : Option ℤ) → is_missing (both f a b) ≡ (is_missing a || is_missing b)
unfolding both
both_missing f None b = refl
both_missing f (Some x) None = refl
both_missing f (Some x) (Some y) = refl
