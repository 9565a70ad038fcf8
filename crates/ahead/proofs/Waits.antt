-- A waiting tick, repeated: demand 3 says when its command comes.
-- Assumes nothing.
use Prim.Native.Nat.{ℕ, zero, suc, ◌+◌, ◌-◌, ◌≤◌, ◌<◌}
use native.Mathlib.Omega.{arith}
use mathlib.Core.Path.{◌≡◌, refl, sym, ap, ◌∙◌, subst}
use mathlib.Core.Bool.{Bool, true, false, not, ◌&&◌, true≢false}
use mathlib.Core.List.{List, [], ◌∷◌, ◌++◌}
use mathlib.Core.Logic.{⊎_elim, ◌↔◌}
use borrow.Author.Tests.{leb-true, leb-false}
use lib.Dec.{leb}
use lib.ListN.{length, replicate}
use Rattle.common.specs.Choice.{choose}
use Rattle.common.proofs.Joined.{split, and_left}
use Rattle.slots.specs.Slots.{slot, t1, t2, t3, is_continuous}
use Rattle.ways.specs.declared.Direction.{Direction}
use Rattle.ways.specs.declared.Direction.TheVariants.{Raise, Lower}
use Rattle.std.specs.Prelude.{Option, None, Some}
use Rattle.ways.specs.Ways.{lowers, is_to, newer_of}
use Rattle.busbar_level.specs.declared.Level.{Level}
use Rattle.busbar_level.specs.declared.Level.TheVariants.{Low, InBand, High}
use Rattle.busbar_level.specs.Levels.{side_of, is_in_band}
use Rattle.input.specs.declared.Input.{Input}
use Rattle.command_automatic.specs.Automatic.{delay_of, kept_of, repeat_of}
use Rattle.sensing_observing.specs.Observing.{observed_of}
use Rattle.sensing.specs.Sensing.{sensed_of}
use Rattle.record.specs.declared.Regulator.{Regulator}
use Rattle.record_limits.specs.Limits.{within_of}
use Rattle.claim.specs.Claim.{Tick, All, Some as Somewhere, Begins, Command, Waiting, InForce, Kept, longest, wait_for}
use Rattle.claim.specs.Runs.{At}
use Rattle.claim.proofs.Lists.{all_front, all_join, all_back, all_map, some_none}
use Rattle.rules.specs.declared.Ticked.{Ticked}
use Rattle.rules.specs.Ticks.{is_out}
use Rattle.rules.specs.Lists.{left_by, seen_on, delay_in, opening, starts_on}
use Rattle.rules.proofs.Claim.{kept}
use Rattle.rules.proofs.Shown.{contacts_at, sensed_at, decided_at}
use Rattle.rules.proofs.Steps.{tick_at, next_at, Linked, Live, live_of, settings_kept, accepted_within, never_both_lem}
use Rattle.rules.proofs.Rows.{linked_step}
use Rattle.rules.proofs.Waits.{wait_step, begun_moves, force_is, force_least, force_most}
use Rattle.history.proofs.Fields.{live_repeat, not_out_lem}
use Rattle.history.proofs.Steps.{command_of, none_decided}
use Rattle.ahead.specs.Looking.{Answer, begun_by, as_given, is_horizon, ahead_of}
use Rattle.ahead.specs.Words.{repeated_ticks, after_ticks, NoCommand, WaitsOn}
use Rattle.ahead.proofs.Begun.{no_way, begins_to, way_of}
use Rattle.ahead.proofs.Found.{Found, looked}
use Rattle.ahead.proofs.Laws.{linked_after, length_repeated, ticks_cut, look_is}

-- ---- the delay in force stays from a waiting tick to the next

kept_side : (d : Direction) (old : Option Direction) → is_to d (repeat_of true false (Some d) None old) ≡ is_to d old
unfolding repeat_of kept_of newer_of choose
kept_side Raise None = refl
kept_side Raise (Some Raise) = refl
kept_side Raise (Some Lower) = refl
kept_side Lower None = refl
kept_side Lower (Some Raise) = refl
kept_side Lower (Some Lower) = refl

not_in_band_lem : (d : Direction) (l : Option Level) → side_of l ≡ Some d → is_in_band l ≡ false
unfolding side_of
not_in_band_lem d None e = refl
not_in_band_lem d (Some Low) e = refl
not_in_band_lem d (Some InBand) e = absurd (no_way d e)
not_in_band_lem d (Some High) e = refl

delay_by : (s : List ℕ) (d : Direction) (far : Bool) (a b : Option Direction) → is_to d a ≡ is_to d b → delay_of s d far a ≡ delay_of s d far b
unfolding delay_of
delay_by s d far a b e =
    ap (λ (x : Bool). choose (lowers (Some d) && far) (slot s t3) (choose (x && not (is_continuous s)) (slot s t2) (slot s t1))) e

module _ (d : Direction) (rest : Bool) (r : Regulator) (i : Input) (k : Linked rest r) (w : Waiting d (tick_at rest r i)) (n : Command (tick_at rest r i) → ⊥) where
  l : Live d r i
  l = live_of d rest r i w.lasting

  in_service_lem : is_out r (contacts_at i) ≡ false
  in_service_lem =
      not_out_lem r i rest
      (λ o. ⊎_elim (λ z. let e = w.lasting.in_service in let y : ◌≡◌ {A = ℕ} 0 1 = sym z ∙ e in omega arith) (λ b. true≢false (sym b ∙ w.lasting.not_out)) o)

  same_repeat : is_to d (next_at r i).state.memory.repeat ≡ is_to d r.state.memory.repeat
  same_repeat =
      ap (λ (t : Ticked Regulator). is_to d t.next.state.memory.repeat) l.is ∙ ap (is_to d) (live_repeat r i)
      ∙ ap (λ (a : Bool). is_to d (repeat_of a (is_in_band (sensed_at r i).assessed.level) (side_of (sensed_at r i).assessed.level) (decided_at r i).command r.state.memory.repeat)) l.automatic
      ∙ ap (λ (b : Bool). is_to d (repeat_of true b (side_of (sensed_at r i).assessed.level) (decided_at r i).command r.state.memory.repeat))
      (not_in_band_lem d (sensed_at r i).assessed.level l.side)
      ∙ ap (λ (v : Option Direction). is_to d (repeat_of true false v (decided_at r i).command r.state.memory.repeat)) l.side
      ∙ ap (λ (v : Option Direction). is_to d (repeat_of true false (Some d) v r.state.memory.repeat)) (none_decided rest r i k l.within in_service_lem n)
      ∙ kept_side d r.state.memory.repeat

  same_far : (sensed_at (next_at r i) i).assessed.far ≡ (sensed_at r i).assessed.far
  unfolding sensed_of observed_of
  same_far =
      ap (λ (s : List ℕ). (sensed_of s r.state.organs r.state.wear.counted_tap i (contacts_at i)).assessed.far) (settings_kept r i)

  pub same_delay : delay_in d (next_at r i) i ≡ delay_in d r i
  same_delay =
      ap (λ (s : List ℕ). delay_of s d (sensed_at (next_at r i) i).assessed.far (next_at r i).state.memory.repeat) (settings_kept r i)
      ∙ ap (λ (b : Bool). delay_of r.settings d b (next_at r i).state.memory.repeat) same_far
      ∙ delay_by r.settings d (sensed_at r i).assessed.far _ _ same_repeat

-- ---- along the ticks

module _ (d : Direction) (i : Input) where
  on_from : (a : At Regulator) (n : ℕ) → WaitsOn d a i (suc n) → (Command (seen_on a i) → ⊥) → WaitsOn d (left_by a i) i n
  on_from a n w c k h none = w (suc k) (omega arith) (c, none)

  fewer : (a : At Regulator) (m n : ℕ) → m ≤ n → WaitsOn d a i n → WaitsOn d a i m
  fewer a m n h w k p none = w k (omega arith) none

  all_waiting : (a : At Regulator) (n : ℕ) → WaitsOn d a i n → NoCommand (repeated_ticks a i n) → All (Waiting d) (repeated_ticks a i n)
  all_waiting a zero w none = tt
  all_waiting a (suc n) w none = (w 0 (omega arith) tt, all_waiting (left_by a i) n (on_from a n w none.0) none.1)

  in_force : (delay : ℕ) (a : At Regulator) (n : ℕ) → Linked a.rest a.got → delay_in d a.got i ≡ delay → WaitsOn d a i n → NoCommand (repeated_ticks a i n)
      → All (InForce d delay) (repeated_ticks a i n) × (delay_in d (after_ticks a i n).got i ≡ delay)
  in_force delay a zero k e w none = (tt, e)
  in_force delay a (suc n) k e w none =
      let f =
      in_force delay (left_by a i) n (linked_step a.rest a.got i)
      (same_delay d a.rest a.got i k (w 0 (omega arith) tt) none.0 ∙ e)
      (on_from a n w none.0) none.1 in
      ((force_is d a.rest a.got i ∙ e, f.0), f.1)

  -- a waiting tick begins a command to its side, or none
  to_its_side : (a : At Regulator) → Linked a.rest a.got → Waiting d (seen_on a i) → (e : Direction) → begun_by (seen_on a i) ≡ Some e → Begins d (seen_on a i)
  to_its_side a k w e b =
      ⊎_elim (λ c. c.begins) (λ g. absurd (true≢false (sym g.rests ∙ begun_moves e a.rest a.got i k (begins_to _ e b))))
      (wait_step d a.rest a.got i k w)

  no_begins : (l : List Tick) → NoCommand l → Somewhere (Begins d) l → ⊥
  no_begins l none s = some_none (Begins d) l (all_map l (λ t c b. c (command_of t d b)) none) s

-- ---- the answer

module _ (d : Direction) (r : Regulator) (i : Input) (n : ℕ) (w : WaitsOn d (starts_on r) i n) (h : is_horizon n ≡ true) where
  abbrev A : At Regulator
  A = starts_on r

  linked : (k : ℕ) → Linked (after_ticks A i k).rest (after_ticks A i k).got
  linked k = linked_after i A k (λ _. refl)

  some_tick : 1 ≤ n
  some_tick = leb-true _ _ (and_left (leb 1 n) _ h)

  within : within_of r ≡ true
  within = let p = some_tick in accepted_within r i (w 0 (omega arith) tt).lasting.accepted

  promise : Kept (opening r) (repeated_ticks A i n)
  promise = kept r (replicate n i)

  -- the list, cut at the tick after k of them
  cut_at : (k : ℕ) → k < n → repeated_ticks A i n ≡ repeated_ticks A i k ++ (seen_on (after_ticks A i k) i ∷ repeated_ticks (left_by (after_ticks A i k) i) i (n - k - 1))
  cut_at k p =
      let z : n ≡ k + suc (n - k - 1) = omega arith in
      ticks_cut i A k (n - k - 1) n z

  none_before : (k m : ℕ) → k < m → NoCommand (repeated_ticks A i m) → NoCommand (repeated_ticks A i k ++ (seen_on (after_ticks A i k) i ∷ []))
  none_before k m p none =
      let z : m ≡ k + suc (m - k - 1) = omega arith in
      let c = subst NoCommand (ticks_cut i A k (m - k - 1) m z) none in
      all_join _ (repeated_ticks A i k) _ (all_front _ (repeated_ticks A i k) _ c) ((all_back _ (repeated_ticks A i k) _ c).0, tt)

  -- by the longest delay, at the latest
  due : (m : ℕ) → longest r.settings ≤ m → m ≤ n → 1 ≤ longest r.settings → NoCommand (repeated_ticks A i m) → ⊥
  due m p q some none =
      let k = longest r.settings - 1 in
      let before = none_before k m (omega arith) none in
      let free = all_front _ (repeated_ticks A i k) _ before in
      let e : length (repeated_ticks A i k) ≡ k = length_repeated i A k in
      no_begins d i (repeated_ticks A i k ++ (seen_on (after_ticks A i k) i ∷ [])) before
      (promise.latest d [] (repeated_ticks A i k) (seen_on (after_ticks A i k) i) _ (cut_at k (omega arith))
      (all_waiting d i A k (fewer d i A k n (omega arith) w) free) (w k (omega arith) free) (omega arith))

  abbrev AtMost : Answer → Type 0
  AtMost o = (o.way ≡ Some d) × (1 ≤ o.tick) × (o.tick ≤ longest r.settings)

  found_way : (o : Answer) (f : Found i A n 0 o) → o.way ≡ Some d
  found_way o f =
      let p : n ≡ f.before + suc f.later = f.whole in
      let a = after_ticks A i f.before in
      let b = to_its_side d i a (linked f.before) (w f.before (omega arith) f.none) f.direction f.begins in
      ap (λ (q : Answer). q.way) f.is ∙ sym f.begins ∙ way_of _ (never_both_lem a.got i) d b

  longest_some : 1 ≤ longest r.settings
  longest_some =
      let p : 20 ≤ delay_in d r i = force_least d r i within in
      let q : delay_in d r i ≤ longest r.settings = force_most d r i in
      omega arith

  at_most_found : longest r.settings ≤ n → (o : Answer) → Found i A n 0 o → AtMost o
  at_most_found p o f =
      let t : o.tick ≡ 0 + f.before + 1 = ap (λ (q : Answer). q.tick) f.is in
      let z : n ≡ f.before + suc f.later = f.whole in (
        found_way o f,
        omega arith,
        ⊎_elim (λ y. let x : f.before + 1 ≤ longest r.settings = leb-true _ _ y in omega arith)
            (λ y.
            let x : longest r.settings < f.before + 1 = leb-false _ _ y in
            absurd (due f.before (omega arith) (omega arith) longest_some f.none))
            (split (leb (f.before + 1) (longest r.settings))),
      )

  -- at most the longest of T1, T2 and T3
  pub at_most : longest r.settings ≤ n → AtMost (ahead_of r i n)
  at_most p =
      subst AtMost (sym (look_is r i n within h))
      (⊎_elim (λ f. at_most_found p _ f) (λ f. absurd (due n p (omega arith) longest_some f.none)) (looked i A n 0 (as_given 0 r)))

  -- ---- where waiting began at zero

  module _ (zero-wait : wait_for d (opening r) ≡ 0) where
    exact : (k : ℕ) → k < n → NoCommand (repeated_ticks A i k) → Begins d (seen_on (after_ticks A i k) i) ↔ (length (repeated_ticks A i k) + 1 ≡ delay_in d r i)
    exact k p none =
        let f = in_force d i (delay_in d r i) A k (λ _. refl) refl (fewer d i A k n (omega arith) w) none in
        let a = after_ticks A i k in
        promise.exactly d (delay_in d r i) [] (repeated_ticks A i k) (seen_on a i) _ (cut_at k p) zero-wait
        (all_waiting d i A k (fewer d i A k n (omega arith) w) none) (w k p none) f.0 (force_is d a.rest a.got i ∙ f.1)

    abbrev Exactly : Answer → Type 0
    Exactly o = (o.way ≡ Some d) × (o.tick ≡ delay_in d r i)

    exactly_found : (o : Answer) → Found i A n 0 o → Exactly o
    exactly_found o f =
        let t : o.tick ≡ 0 + f.before + 1 = ap (λ (q : Answer). q.tick) f.is in
        let z : n ≡ f.before + suc f.later = f.whole in
        let m : length (repeated_ticks A i f.before) ≡ f.before = length_repeated i A f.before in
        let b =
        to_its_side d i (after_ticks A i f.before) (linked f.before) (w f.before (omega arith) f.none) f.direction f.begins in
        let e : length (repeated_ticks A i f.before) + 1 ≡ delay_in d r i = (exact f.before (omega arith) f.none).0 b in
        (found_way o f, omega arith)

    exactly_none : delay_in d r i ≤ n → NoCommand (repeated_ticks A i n) → ⊥
    exactly_none p none =
        let q : 20 ≤ delay_in d r i = force_least d r i within in
        let k = delay_in d r i - 1 in
        let before = none_before k n (omega arith) none in
        let m : length (repeated_ticks A i k) ≡ k = length_repeated i A k in
        let b = (exact k (omega arith) (all_front _ (repeated_ticks A i k) _ before)).1 (omega arith) in
        (all_back _ (repeated_ticks A i k) _ before).0 (command_of _ d b)

    -- exactly the delay in force
    pub exactly : delay_in d r i ≤ n → Exactly (ahead_of r i n)
    exactly p =
        subst Exactly (sym (look_is r i n within h))
        (⊎_elim (λ f. exactly_found _ f) (λ f. absurd (exactly_none p f.none)) (looked i A n 0 (as_given 0 r)))
