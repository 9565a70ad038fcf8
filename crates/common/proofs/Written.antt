-- One text written after the other.
-- Assumes nothing.
use mathlib.Core.Path.{◌≡◌, sym, ◌∙◌, ap}
use mathlib.Core.List.{List, [], ◌∷◌, ◌++◌}
use Prim.Native.Nat.{ℕ, suc, ◌+◌}
use native.Mathlib.Nat.{add-suc, suc-add, add-zero}
use native.Mathlib.Omega.{arith}
use lib.ListN.{length, set, length-append}
use lib.Seq.{sets, length-sets}
use Rattle.common.specs.Written.{Written}

pub sets-append : (l : List ℕ) (i : ℕ) (s t : List ℕ) → sets l i (s ++ t) ≡ sets (sets l i s) (i + length s) t
sets-append l i [] t = rw add-zero
sets-append l i (a ∷ s) t = rw add-suc (sets-append (set l i a) (suc i) s t ∙ rw suc-add)

module _ {old mid new : List ℕ} {at e r : ℕ} {s t : List ℕ} where
  pub both_written : Written old at s mid e → Written mid e t new r → Written old at (s ++ t) new r
  both_written p q =
      record {
        bytes = q.bytes ∙ ap (λ (l : List ℕ). sets l e t) p.bytes ∙ ap (λ (i : ℕ). sets (sets old at s) i t) p.past ∙ sym (sets-append old at s t);
        past = simp length-append (omega (arith, p.past, q.past));
      }

pub written_length : {old new text : List ℕ} {at r : ℕ} → Written old at text new r → length new ≡ length old
written_length {old} {new} {text} {at} p = ap length p.bytes ∙ length-sets old at text
