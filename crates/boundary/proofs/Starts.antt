-- The start of an image: its number is 0 exactly for a list that is taken, and then the image is accepted.
-- Assumes nothing.
use mathlib.Core.Path.{◌≡◌, refl, sym, ap, ◌∙◌}
use mathlib.Core.Bool.{true, false≢true}
use mathlib.Core.List.{List}
use mathlib.Core.Logic.{◌↔◌}
use Prim.Native.Nat.{ℕ}
use native.Mathlib.Omega.{arith}
use Rattle.std.specs.Prelude.{Result, Ok, Err, IsOk, IfOk}
use Rattle.record.specs.declared.Regulator.{Regulator}
use Rattle.record_limits.specs.Limits.{within_of}
use Rattle.sheet.specs.declared.Refusal.{Refusal}
use Rattle.sheet.specs.declared.Refusal.TheVariants.{WrongLength, OutOfRange, TapOrder, CountedTap}
use Rattle.sheet.specs.Settings.{Settings}
use Rattle.sheet.specs.Sheet.{number_of, slot_of}
use Rattle.record_starting.specs.Starting.{Start, record_of, replied_of}
use Rattle.image.specs.declared.Image.{Image}
use Rattle.image.specs.Images.{image_of}
use Rattle.hosting.specs.Hosting.{is_accepted}
use Rattle.boundary.specs.declared.Started as host
use Rattle.boundary.specs.Starting.{started_image}
use Rattle.hosting.proofs.Lists.{accepted_of}

-- number 0 is that of a list that is taken
taken_of : (a : Result Regulator Refusal) → number_of a ≡ 0 → IsOk a
taken_of (Ok r) p = refl
taken_of (Err WrongLength) p = absurd (omega arith)
taken_of (Err (OutOfRange i)) p = absurd (omega arith)
taken_of (Err (TapOrder i)) p = absurd (omega arith)
taken_of (Err CountedTap) p = absurd (omega arith)

number_taken : (a : Result Regulator Refusal) → IsOk a → number_of a ≡ 0
number_taken (Ok r) p = refl
number_taken (Err e) p = absurd (false≢true p)

within_taken : (a : Result Regulator Refusal) → number_of a ≡ 0 → IfOk a (λ r. within_of r ≡ true) → within_of (record_of a) ≡ true
within_taken (Ok r) p h = h
within_taken (Err e) p h = absurd (false≢true (taken_of (Err e) p))

module _ (s : Result Regulator Refusal) {n : ℕ} (e : n ≡ number_of s) where
  pub started_exactly : {l : List ℕ} → IsOk s ↔ Settings l → (n ≡ 0) ↔ Settings l
  started_exactly h = ((λ z. h.0 (taken_of s (sym e ∙ z))), (λ p. e ∙ number_taken s (h.1 p)))

  pub started_lasts : {m : Image} {r : Regulator} → IfOk s (λ r. within_of r ≡ true) → r ≡ record_of s → m ≡ image_of r → n ≡ 0 → is_accepted m ≡ true
  started_lasts h p q z = ap is_accepted (q ∙ ap image_of p) ∙ accepted_of (record_of s) ∙ within_taken s (sym e ∙ z) h

  -- the number, the slot and the image, of what a list is answered with
  pub started_made : {k : ℕ} {m : Image} {r : Regulator} {t : Start} → k ≡ slot_of s → r ≡ record_of s → m ≡ image_of r → replied_of s ≡ t
      → ◌≡◌ {A = host.Started} (record { number = n; slot = k; image = m }) (started_image t)
  unfolding started_image
  started_made p u q r = rw (e, p, q, u) (ap started_image r)
