-- The counted tap after a list of ticks, none of them out: the tap before, one more for each move that steps it up, one less for each
-- that steps it down.
-- Assumes nothing.
use Prim.Native.Nat.{ℕ, ◌+◌, ◌-◌, ◌<◌}
use native.Mathlib.Omega.{arith}
use mathlib.Core.Path.{◌≡◌, refl, sym, ap, ◌∙◌, subst}
use mathlib.Core.Bool.{Bool, true, false, not, ◌&&◌, ◌||◌}
use mathlib.Core.List.{List, [], ◌∷◌}
use borrow.Author.Tests.{ltb-true}
use lib.Dec.{ltb, eqb}
use Rattle.common.specs.Choice.{choose}
use Rattle.common.proofs.Cases.{yes}
use Rattle.slots.specs.Slots.{slot, tap_source, n_l, n_r}
use Rattle.ways.specs.declared.Direction.{Direction}
use Rattle.ways.specs.declared.Direction.TheVariants.{Raise, Lower}
use Rattle.std.specs.Prelude.{Option}
use Rattle.std.specs.Prelude.{None, Some}
use Rattle.tap_counted.specs.declared.Counted.{Counted}
use Rattle.tap_counted.specs.Counted.{tap_of, up_of, down_of, step_of, moved_of, counted_of}
use Rattle.input.specs.declared.Input.{Input}
use Rattle.acting_accounting.specs.declared.Wear.{Wear}
use Rattle.acting_accounting.specs.Accounting.{accounted_of}
use Rattle.record.specs.declared.Regulator.{Regulator}
use Rattle.record_limits.specs.Limits.{within_of}
use Rattle.claim.specs.Runs.{run_of, after_of}
use Rattle.rules.specs.Acting.{acted_of}
use Rattle.rules.specs.Lists.{left_by, starts_on}
use Rattle.rules.specs.Ticks.{is_out}
use Rattle.rules.proofs.Shown.{contacts_at}
use Rattle.rules.proofs.Steps.{next_at, rest_at, settings_kept, within_kept}
use Rattle.history.specs.Kept.{Each}
use Rattle.history.specs.Pasts.{Past, past_on, pasts_from, Out}
use Rattle.history.specs.Memories.{upward, downward, ups_of, downs_of}
use Rattle.history.proofs.Fields.{live_wear, live_next, not_out_lem}

-- what a step adds and takes
abbrev one_if : Bool → ℕ
one_if b = choose b 1 0

pub record Balanced (s : List ℕ) (tap : ℕ) (w : Option Direction) (c : Counted) : Type 0 where
  pub balance :
      c.tap + one_if (downward s w && not c.range_error) ≡ tap + one_if (upward s w && not c.range_error)

module _ (s : List ℕ) (tap : ℕ) where
  stays : (w : Option Direction) (error : Bool) → (downward s w && not error) ≡ false → (upward s w && not error) ≡ false → Balanced s tap w (tap_of tap error)
  unfolding choose
  stays w error p q = record { balance = rw (p, q) }

  and_not_true : (b : Bool) → (b && not true) ≡ false
  and_not_true true = refl
  and_not_true false = refl

  up_balanced : (w : Option Direction) → upward s w ≡ true → downward s w ≡ false → (end : ℕ) → Balanced s tap w (up_of tap end)
  unfolding up_of choose
  up_balanced w u d end = go (ltb tap end) refl
    where
      go : (b : Bool) → ltb tap end ≡ b → Balanced s tap w (choose b (tap_of (tap + 1) false) (tap_of tap true))
      go true e = record { balance = rw (u, d) (omega arith) }
      go false e = stays w true (and_not_true (downward s w)) (and_not_true (upward s w))

  down_balanced : (w : Option Direction) → upward s w ≡ false → downward s w ≡ true → (end : ℕ) → Balanced s tap w (down_of tap end)
  unfolding down_of choose
  down_balanced w u d end = go (ltb end tap) refl
    where
      go : (b : Bool) → ltb end tap ≡ b → Balanced s tap w (choose b (tap_of (tap - 1) false) (tap_of tap true))
      go true e = let m : end < tap = ltb-true end tap e in record { balance = rw (u, d) (omega arith) }
      go false e = stays w true (and_not_true (downward s w)) (and_not_true (upward s w))

  step_balanced : (d : Direction) (b : Bool) → eqb (slot s tap_source) 4 ≡ b → Balanced s tap (Some d) (step_of s tap d)
  unfolding step_of choose
  step_balanced Raise true e = rw e (down_balanced (Some Raise) (rw e) (rw e) (slot s n_l))
  step_balanced Raise false e = rw e (up_balanced (Some Raise) (rw e) (rw e) (slot s n_r))
  step_balanced Lower true e = rw e (up_balanced (Some Lower) (rw e) (rw e) (slot s n_r))
  step_balanced Lower false e = rw e (down_balanced (Some Lower) (rw e) (rw e) (slot s n_l))

  moved_balanced : (w : Option Direction) → Balanced s tap w (moved_of s tap w)
  unfolding moved_of choose
  moved_balanced None = go (eqb (slot s tap_source) 4) refl
    where
      go : (b : Bool) → eqb (slot s tap_source) 4 ≡ b → Balanced s tap None (tap_of tap false)
      go true e = stays None false (rw e) (rw e)
      go false e = stays None false (rw e) (rw e)
  moved_balanced (Some d) = step_balanced d (eqb (slot s tap_source) 4) refl

-- "if slot 5 is 3 or 4"
abbrev pub Counts : List ℕ → Type 0
Counts s = (eqb (slot s tap_source) 3 || eqb (slot s tap_source) 4) ≡ true

counted_balanced : (s : List ℕ) (tap : ℕ) (w : Option Direction) → Counts s → Balanced s tap w (counted_of s tap w)
unfolding counted_of
counted_balanced s tap w c = go (counted_of s tap w) (sym (yes _ _ _ _ c refl))
  where
    go : (k : Counted) → k ≡ moved_of s tap w → Balanced s tap w k
    go k e = rw e (moved_balanced s tap w)

abbrev tap_in : Regulator → ℕ
tap_in r = r.state.wear.counted_tap

module _ (rest : Bool) (r : Regulator) (i : Input) (h : within_of r ≡ true) (o : is_out r (contacts_at i) ≡ false) where
  abbrev p : Past
  p = past_on (record { rest = rest; got = r }) i

  tap_is : tap_in (next_at r i) ≡ (counted_of r.settings (tap_in r) p.ended).tap
  unfolding accounted_of acted_of
  tap_is = ap tap_in (live_next r i h o) ∙ ap (λ (w : Wear). w.counted_tap) (live_wear r i)

  error_is : p.past_end ≡ (counted_of r.settings (tap_in r) p.ended).range_error
  unfolding accounted_of acted_of
  error_is = refl

  abbrev Step : List ℕ → Type 0
  Step s = tap_in (next_at r i) + one_if (downward s p.ended && not p.past_end) ≡ tap_in r + one_if (upward s p.ended && not p.past_end)

  tap_step : (s : List ℕ) → r.settings ≡ s → Counts s → Step s
  tap_step s e c = subst Step e (rw (tap_is, error_is) (counted_balanced r.settings (tap_in r) p.ended (subst Counts (sym e) c)).balance)

-- no tick of a list is out
abbrev pub NeverOut : List Past → Type 0
NeverOut past = Each (λ p. Out p.tick → ⊥) past

taps_from : (rest : Bool) (r : Regulator) (is : List Input) → within_of r ≡ true → (s : List ℕ) → r.settings ≡ s → Counts s
    → NeverOut (run_of left_by past_on (record { rest = rest; got = r }) is)
    → tap_in (after_of left_by (record { rest = rest; got = r }) is).got + downs_of s (run_of left_by past_on (record { rest = rest; got = r }) is)
    ≡ tap_in r + ups_of s (run_of left_by past_on (record { rest = rest; got = r }) is)
taps_from rest r [] h s e c n = refl
taps_from rest r (i ∷ is) h s e c n =
    let t = tap_step rest r i h (not_out_lem r i rest n.0) s e c in
    let g = taps_from (rest_at r i) (next_at r i) is (within_kept r i ∙ h) s (settings_kept r i ∙ e) c n.1 in
    omega arith

-- the tap after the list and the steps down are together the tap before and the steps up
pub taps : (r : Regulator) (is : List Input) → within_of r ≡ true → Counts r.settings → NeverOut (pasts_from r is)
    → tap_in (after_of left_by (starts_on r) is).got + downs_of r.settings (pasts_from r is) ≡ tap_in r + ups_of r.settings (pasts_from r is)
taps r is h c n = taps_from _ r is h r.settings refl c n
