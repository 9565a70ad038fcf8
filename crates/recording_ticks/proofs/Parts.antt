-- A tick is what its own bytes say: it is the same in a list and in a part of that list.
-- Assumes nothing.
use mathlib.Core.Path.{◌≡◌, refl, sym, ◌∙◌, ap}
use mathlib.Core.Bool.{Bool, true, false}
use mathlib.Core.List.{List, ◌++◌}
use Prim.Native.Nat.{ℕ, zero, suc, ◌+◌, ◌*◌, ◌<◌, ◌≤◌}
use native.Mathlib.Nat.{add_assoc}
use native.Mathlib.Omega.{arith}
use borrow.Author.Tests.{le-leb, leb-true, leb-false}
use lib.Dec.{leb}
use lib.ListN.{length, get_or, length-append, get_or-append}
use lib.Seq.{get_or-append-add}
use Rattle.std.specs.Prelude.{Option, None, Some, IfSome, Ok, Err}
use Rattle.common.proofs.Cases.{yes}
use Rattle.input.specs.declared.Input.{Input}
use Rattle.recording_numbers.specs.Numbers.{number_bytes, number_at, float_at}
use Rattle.recording_ticks.specs.Recorded.{readings, reading_bytes, contacts_at, bcd_at, sensor_at, tick_bytes, reading_at, nth_reading, phasor_at, phasors_at, input_at, bad_from, bad_place, tick_but_for, decoded_of}
use Rattle.recording_ticks.specs.declared.DecodeError.TheVariants.{BadQuality, CutShort}
use Rattle.recording_ticks.proofs.Bad.{bad_within}
use Rattle.recording_ticks.proofs.Made.{cut_short}

-- two places of two lists with the same bytes from there on, as many as a tick has
module _ (s t : List ℕ) (a b : ℕ) (same : (k : ℕ) → k < tick_bytes → get_or s (a + k) 0 ≡ get_or t (b + k) 0) where
  same_on : (c k : ℕ) → c + k < tick_bytes → get_or s (a + c + k) 0 ≡ get_or t (b + c + k) 0
  same_on c k h = rw (add_assoc a c k, add_assoc b c k) (same (c + k) h)

  same_number : (c : ℕ) → c + number_bytes ≤ tick_bytes → number_at s (a + c) ≡ number_at t (b + c)
  unfolding number_at
  same_number c h =
      rw (same c (omega arith), same_on c 1 (omega arith), same_on c 2 (omega arith), same_on c 3 (omega arith))

  same_reading : (i : ℕ) → i < readings → nth_reading s a i ≡ nth_reading t b i
  unfolding reading_at float_at
  same_reading i h =
      rw (same (reading_bytes * i) (omega arith), add_assoc a (reading_bytes * i) 1, add_assoc b (reading_bytes * i) 1, same_number (reading_bytes * i + 1) (omega arith))

  same_phasor : (i : ℕ) → i + 1 < readings → phasor_at s a i ≡ phasor_at t b i
  unfolding phasor_at
  same_phasor i h = rw (same_reading i (omega arith), same_reading (i + 1) h)

  same_phasors : phasors_at s a ≡ phasors_at t b
  unfolding phasors_at
  same_phasors = rw (same_phasor 6 (omega arith), same_phasor 8 (omega arith), same_phasor 10 (omega arith))

  same_input : input_at s a ≡ input_at t b
  unfolding input_at
  same_input =
      rw (same_reading 0 (omega arith), same_reading 1 (omega arith), same_reading 2 (omega arith), same_reading 3 (omega arith), same_reading 4 (omega arith), same_reading 5 (omega arith), same_phasors, same_number contacts_at (omega arith), same bcd_at (omega arith), same sensor_at (omega arith))

  same_from : (n i : ℕ) → i + n ≤ readings → bad_from s a n i ≡ bad_from t b n i
  unfolding bad_from
  same_from zero i h = refl
  same_from (suc n) i h = rw (same (reading_bytes * i) (omega arith), same_from n (suc i) (omega arith))

  same_place : bad_place s a ≡ bad_place t b
  unfolding bad_place
  same_place = same_from readings 0 (omega arith)

  same_but_for : (o : Option ℕ) → IfSome o (λ (p : ℕ). p < contacts_at) → tick_but_for s a o ≡ tick_but_for t b o
  unfolding tick_but_for
  same_but_for None h = ap Ok same_input
  same_but_for (Some p) h = ap (λ (x : ℕ). Err (BadQuality p x)) (same p (omega arith))

  same_decoded : a + tick_bytes ≤ length s → b + tick_bytes ≤ length t → decoded_of s a ≡ decoded_of t b
  unfolding decoded_of bad_place
  same_decoded p q =
      rw (le-leb (a + tick_bytes) (length s) p, le-leb (b + tick_bytes) (length t) q, same_place)
      (yes _ _ _ _ refl (sym (yes _ _ _ _ refl (sym (same_but_for (bad_place t b) (bad_within t b readings 0 (omega arith)))))))

-- a tick has all of its bytes
whole_case : (s : List ℕ) (at : ℕ) (i : Input) (x : Bool) → leb (at + tick_bytes) (length s) ≡ x → Ok i ≡ decoded_of s at → at + tick_bytes ≤ length s
whole_case s at i true e d = leb-true (at + tick_bytes) (length s) e
whole_case s at i false e d =
    let c : Err CutShort ≡ decoded_of s at = cut_short s at (leb-false (at + tick_bytes) (length s) e) in
    let z : ◌≡◌ {A = ℕ} 0 1 = cc in omega arith

pub whole_tick : (s : List ℕ) (at : ℕ) (i : Input) → Ok i ≡ decoded_of s at → at + tick_bytes ≤ length s
whole_tick s at i d = whole_case s at i (leb (at + tick_bytes) (length s)) refl d

module _ (first second : List ℕ) (at : ℕ) where
  -- a tick of the first of two parts
  pub decoded_first : at + tick_bytes ≤ length first → decoded_of (first ++ second) at ≡ decoded_of first at
  decoded_first h =
      same_decoded (first ++ second) first at at (λ k l. get_or-append first second 0 (at + k) (omega arith))
      (simp length-append (omega arith))
      h

  second_case : (x : Bool) → leb (at + tick_bytes) (length second) ≡ x → decoded_of (first ++ second) (length first + at) ≡ decoded_of second at
  second_case true e =
      let h : at + tick_bytes ≤ length second = leb-true (at + tick_bytes) (length second) e in
      same_decoded (first ++ second) second (length first + at) at
      (λ k l. rw (add_assoc (length first) at k) (get_or-append-add first second (at + k) 0))
      (simp length-append (omega arith))
      h
  second_case false e =
      let h : length second < at + tick_bytes = leb-false (at + tick_bytes) (length second) e in
      sym (cut_short (first ++ second) (length first + at) (simp length-append (omega arith))) ∙ cut_short second at h

  -- what stands at a place of the second
  pub decoded_second : decoded_of (first ++ second) (length first + at) ≡ decoded_of second at
  decoded_second = second_case (leb (at + tick_bytes) (length second)) refl
