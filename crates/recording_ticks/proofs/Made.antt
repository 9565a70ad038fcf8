-- The parts make the whole: each law is over plain values, as the function has them, and `search` finds it.
-- Assumes nothing.
use mathlib.Core.Path.{◌≡◌, refl}
use mathlib.Core.Bool.{true}
use mathlib.Core.List.{List}
use Prim.Native.Nat.{ℕ, ◌+◌, ◌-◌, ◌<◌, ◌≤◌}
use native.Mathlib.Omega.{arith}
use borrow.Author.Tests.{le-leb, lt-leb}
use lib.Dec.{leb}
use lib.ListN.{length, get_or}
use Rattle.std.specs.Prelude.{None, Some, Ok, Err}
use Rattle.common.proofs.Cases.{yes, no}
use Rattle.measure.specs.declared.Reading.{Reading}
use Rattle.phasor.specs.declared.Phasor.{Phasor}
use Rattle.phasor.specs.declared.Phasors.{Phasors}
use Rattle.input.specs.declared.Input.{Input}
use Rattle.recording_numbers.specs.Numbers.{number_at}
use Rattle.recording_ticks.specs.Recorded.{contacts_at, bcd_at, sensor_at, tick_bytes, nth_reading, phasor_at, phasors_at, input_at, bad_place, tick_but_for, decoded_of}
use Rattle.recording_ticks.specs.declared.DecodeError.TheVariants.{BadQuality, CutShort}

module _ (s : List ℕ) (at : ℕ) where
  pub pair_made : (i : ℕ) {a b : Reading} → a ≡ nth_reading s at i → b ≡ nth_reading s at (i + 1)
      → ◌≡◌ {A = Phasor} (record { re = a; im = b }) (phasor_at s at i)
  unfolding phasor_at
  pair_made i pa pb = rw (pa, pb)

  pub pairs_made : {u b c : Phasor} → u ≡ phasor_at s at 6 → b ≡ phasor_at s at 8 → c ≡ phasor_at s at 10
      → ◌≡◌ {A = Phasors} (record { u_ab = u; i_bus = b; i_coupler = c }) (phasors_at s at)
  unfolding phasors_at
  pairs_made pu pb pc = rw (pu, pb, pc)

  pub input_made : {a b c d e f : Reading} {v : Phasors} {n : ℕ}
      → a ≡ nth_reading s at 0
      → b ≡ nth_reading s at 1
      → c ≡ nth_reading s at 2
      → d ≡ nth_reading s at 3
      → e ≡ nth_reading s at 4
      → f ≡ nth_reading s at 5
      → v ≡ phasors_at s at
      → n ≡ number_at s (at + contacts_at)
      → ◌≡◌ {A = Input}
      (record { u_ab = a; u0 = b; u2 = c; i_high = d; i_bus = e; i_coupler = f; phasors = v; contacts = n; bcd = get_or s (at + bcd_at) 0; sensor = get_or s (at + sensor_at) 0 })
      (input_at s at)
  unfolding input_at
  input_made pa pb pc pd pe pf pv pn = rw (pa, pb, pc, pd, pe, pf, pv, pn)

  -- too few bytes
  pub cut_short : length s < at + tick_bytes → Err CutShort ≡ decoded_of s at
  unfolding decoded_of
  cut_short h = no _ _ _ _ (lt-leb _ _ h) refl

  module _ (l : at ≤ length s) (h : tick_bytes ≤ length s - at) where
    whole : leb (at + tick_bytes) (length s) ≡ true
    whole = le-leb (at + tick_bytes) (length s) (omega arith)

    pub bad_quality : {p : ℕ} → Some p ≡ bad_place s at → Err (BadQuality p (get_or s (at + p) 0)) ≡ decoded_of s at
    unfolding decoded_of tick_but_for
    bad_quality e = rw (← e) (yes _ _ _ _ whole refl)

    pub a_tick : {i : Input} → None ≡ bad_place s at → i ≡ input_at s at → Ok i ≡ decoded_of s at
    unfolding decoded_of tick_but_for
    a_tick e j = rw (← e, ← j) (yes _ _ _ _ whole refl)

pub ruleset decoded = (cut_short, bad_quality, a_tick)
