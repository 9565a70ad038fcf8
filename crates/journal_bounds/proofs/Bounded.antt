-- Every output of every tick is within its field's bound.
-- Assumes nothing.
use Prim.Native.Nat.{ℕ, ◌+◌, ◌*◌, ◌/◌, ◌%◌, ◌≤◌}
use native.Mathlib.Omega.{arith}
use mathlib.Core.Path.{◌≡◌, refl, sym, ap, ◌∙◌}
use mathlib.Core.Bool.{Bool, true, false, not, ◌&&◌, ◌||◌}
use mathlib.Core.List.{List}
use borrow.Author.Tests.{le-leb, leb-true}
use lib.Dec.{eqb, leb}
use lib.ListN.{get_or}
use Rattle.common.specs.Choice.{choose}
use Rattle.common.proofs.Cases.{chosen}
use Rattle.common.proofs.Joined.{and_right, and_four}
use Rattle.slots.specs.Slots.{slot, n_l, n_r, n_max}
use Rattle.sheet.specs.Sheet.{passes_of}
use Rattle.sheet.proofs.Laws.{taps_range}
use Rattle.tap_position.specs.Positions.{Position, tap_of, is_wrong_code, is_range_error, ranged_of, bcd_of, position_of}
use Rattle.sensing_observing.specs.Observing.{observed_of}
use Rattle.sensing.specs.Sensing.{sensed_of}
use Rattle.showing.specs.declared.Shown.{Shown}
use Rattle.showing.specs.Showing.{bit_of, counted_of, counts_of, signals_of, fields_of, outputs_of}
use Rattle.acting_accounting.specs.Accounting.{most_operations}
use Rattle.input.specs.declared.Input.{Input}
use Rattle.organ_limits.specs.Limits.{organs_within}
use Rattle.record.specs.declared.Regulator.{Regulator}
use Rattle.record_limits.specs.Limits.{delays_of, motion_within, press_within, counts_within, within_of}
use Rattle.rules.specs.declared.Ticked.{Ticked}
use Rattle.rules.specs.Acting.{acted_of}
use Rattle.rules.specs.Ticks.{outputs_in, end_of, ran_of, is_out, out_of, refused_of, tick_of}
use Rattle.rules.proofs.Next.{pass, tick_lasting}
use Rattle.rules.proofs.Shown.{contacts_at, sensed_at, live_at}
use Rattle.rules.proofs.Steps.{tick_cases, live_is}
use Rattle.journal.specs.Rules.{highest_tap, highest_value}
use Rattle.journal_bounds.specs.Bounds.{bounded_from}

-- ---- a flag, the tap, the operations

flag : (b : Bool) → leb (bit_of b) 1 ≡ true
flag true = refl
flag false = refl

-- the fields of any outputs, once the tap and the operations are bounded
fields_bounded : (s : List ℕ) (x : Shown) → leb (tap_of x.position) highest_tap ≡ true → leb (signals_of s x).operations most_operations ≡ true
    → bounded_from 0 (outputs_of s x) ≡ true
unfolding bounded_from highest_value fields_of outputs_of choose
fields_bounded s x tap operations =
    let g = signals_of s x in
    rw (
      flag g.raise,
      flag g.lower,
      flag x.section,
      tap,
      flag (is_wrong_code x.position),
      flag (is_range_error x.position || x.counted_error),
      flag (get_or x.trips 0 false),
      flag (get_or x.trips 1 false),
      flag (get_or x.trips 2 false),
      flag (get_or x.trips 3 false),
      flag (get_or x.trips 4 false),
      flag (get_or x.trips 5 false),
      flag (get_or x.trips 6 false),
      flag x.blocks.automatic,
      flag x.blocks.manual,
      flag x.blocks.raise,
      flag x.blocks.lower,
      flag g.low,
      flag g.high,
      flag (eqb g.field 19),
      flag (eqb g.field 20),
      flag (eqb g.field 21),
      flag (eqb g.field 22),
      flag g.supply,
      flag (not g.rests),
      operations,
      flag (counts_of s && leb (slot s n_max) x.operations),
      flag x.automatic,
    )
    refl

-- the tap is none, or one of the sheet's
module _ (s : List ℕ) (p : passes_of s ≡ true) where
  ranged_most : (n : ℕ) → tap_of (ranged_of s n) ≤ highest_tap
  unfolding ranged_of
  ranged_most n =
      let m : slot s n_r ≤ highest_tap = (taps_range s p).2 in
      chosen (λ (q : Position). tap_of q ≤ highest_tap) _ _ _ (λ e. let l : n ≤ slot s n_r = leb-true _ _ (and_right (leb (slot s n_l) n) _ e) in omega arith) (λ e. omega arith)

  bcd_most : (n : ℕ) → tap_of (bcd_of s n) ≤ highest_tap
  unfolding bcd_of
  bcd_most n = chosen (λ (q : Position). tap_of q ≤ highest_tap) _ _ _ (λ e. omega arith) (λ e. ranged_most (10 * (n / 16 % 8) + n % 16))

  position_most : (bcd sensor counted : ℕ) → counted ≤ slot s n_r → tap_of (position_of s bcd sensor counted) ≤ highest_tap
  unfolding position_of
  position_most bcd sensor counted h =
      let m : slot s n_r ≤ highest_tap = (taps_range s p).2 in
      chosen (λ (q : Position). tap_of q ≤ highest_tap) _ _ _ (λ e. bcd_most bcd)
      (λ e. chosen (λ (q : Position). tap_of q ≤ highest_tap) _ _ _ (λ f. ranged_most sensor) (λ f. chosen (λ (q : Position). tap_of q ≤ highest_tap) _ _ _ (λ g. omega arith) (λ g. omega arith)))

counted_most : (counts : Bool) (n : ℕ) → n ≤ most_operations → counted_of counts n ≤ most_operations
unfolding counted_of
counted_most counts n h = chosen (λ (m : ℕ). m ≤ most_operations) _ _ _ (λ e. h) (λ e. omega arith)

-- an accepted record's counted tap and operations
module _ (r : Regulator) (h : within_of r ≡ true) where
  within_counts : (slot r.settings n_l ≤ r.state.wear.counted_tap) × (r.state.wear.counted_tap ≤ slot r.settings n_r) × (r.state.wear.operations ≤ most_operations)
  unfolding within_of counts_within
  within_counts =
      let c =
      and_right
      (passes_of r.settings && motion_within r.settings r.state.drive r.state.memory.wait r.state.latch && press_within r.state.latch.fault r.state.memory.remembered)
      _ h in
      let q =
      and_four (organs_within (delays_of r.settings) r.state.organs) (leb (slot r.settings n_l) r.state.wear.counted_tap)
      (leb r.state.wear.counted_tap (slot r.settings n_r)) (leb r.state.wear.operations most_operations) c in
      (leb-true _ _ q.1, leb-true _ _ q.2, leb-true _ _ q.3)

-- a tick in service
module _ (r : Regulator) (i : Input) (h : within_of r ≡ true) (o : is_out r (contacts_at i) ≡ false) where
  tap_most : tap_of (sensed_at r i).observed.position ≤ highest_tap
  unfolding sensed_of observed_of
  tap_most = position_most r.settings (pass r h) i.bcd i.sensor r.state.wear.counted_tap (within_counts r h).1

  next_operations : (live_at r i).next.state.wear.operations ≤ most_operations
  next_operations =
      let w : within_of (live_at r i).next ≡ true = ap (λ (t : Ticked Regulator). within_of t.next) (sym (live_is r i h o)) ∙ tick_lasting r i ∙ h in
      (within_counts (live_at r i).next w).2

  live_bounded : bounded_from 0 (outputs_in (live_at r i).reply) ≡ true
  unfolding ran_of end_of acted_of signals_of
  live_bounded =
      fields_bounded r.settings _ (le-leb _ highest_tap tap_most) (le-leb _ most_operations (counted_most (counts_of r.settings) _ next_operations))

-- every output of every tick
pub outputs_bounded : (r : Regulator) (i : Input) → bounded_from 0 (outputs_in (tick_of r i).reply) ≡ true
unfolding refused_of out_of bounded_from highest_value choose
outputs_bounded r i =
    tick_cases r i (λ (t : Ticked Regulator). bounded_from 0 (outputs_in t.reply) ≡ true) (λ h. refl) (λ h o. refl) (λ h o. live_bounded r i h o)
