-- The last direction, the fault, the press and the keys that a record holds after a list are those that the list says.
-- Assumes nothing.
use mathlib.Core.Path.{◌≡◌, refl, sym, ap, ◌∙◌}
use mathlib.Core.Bool.{Bool, true, false, ◌||◌, true≢false, false≢true}
use mathlib.Core.List.{List, [], ◌∷◌, ◌++◌}
use mathlib.Core.Logic.{◌⊎◌, inl, inr, ⊎_elim, ◌↔◌}
use Rattle.common.specs.Choice.{choose}
use Rattle.common.proofs.Cases.{yes, no}
use Rattle.common.proofs.Joined.{split, or_left, or_right}
use Rattle.ways.specs.declared.Direction.{Direction}
use Rattle.std.specs.Prelude.{Option}
use Rattle.std.specs.Prelude.{None, Some}
use Rattle.ways.specs.Ways.{is_to, newer_of}
use Rattle.ways.proofs.Cases.{is_to_self, is_to_is, is_to_none}
use Rattle.fault.specs.declared.Fault.{Fault}
use Rattle.fault.specs.declared.Fault.TheVariants.{RunAway, NotStarted, Long, Fast}
use Rattle.fault.specs.declared.Latch.{Latch}
use Rattle.fault.specs.Latches.{is_fault, reset_of, later_of, latched_of}
use Rattle.drive_follow.specs.Follow.{rests_of}
use Rattle.input.specs.declared.Input.{Input}
use Rattle.command_manual.specs.Manual.{remembered_of}
use Rattle.command_pairs.specs.Pairs.{heard_of}
use Rattle.acting_accounting.specs.declared.Wear.{Wear}
use Rattle.acting_accounting.specs.Accounting.{accounted_of}
use Rattle.acting_supervising.specs.Supervising.{cleared_of, supervised_of}
use Rattle.acting_commanding.specs.Commanding.{drops_of, kept_press_of}
use Rattle.record.specs.declared.Regulator.{Regulator}
use Rattle.record_limits.specs.Limits.{within_of}
use Rattle.record_starting.specs.Starting.{fresh_of}
use Rattle.claim.specs.Claim.{Accepted}
use Rattle.claim.specs.Runs.{after_of}
use Rattle.rules.specs.Acting.{acted_of}
use Rattle.rules.specs.Lists.{left_by, starts_on}
use Rattle.rules.specs.Ticks.{is_out}
use Rattle.rules.proofs.Shown.{given, contacts_at, supervised_at, live_at, live_run_away, live_not_started, live_long, live_fast, no_fault, no_field}
use Rattle.rules.proofs.Steps.{tick_at, next_at, Linked, live_is, within_kept}
use Rattle.rules.proofs.Rows.{record_after}
use Rattle.history.specs.Pasts.{Past, past_on, pasts_from, Ran, Faultless}
use Rattle.history.specs.Memories.{Ends, EndsNone, LastMove, Arises, ArisesNone, Latched, Remembering, Presses, PressesNone, PressedLast}
use Rattle.history.proofs.Fields.{live_keys, live_remembered, live_latch, live_wear, live_next, not_told, accepts}
use Rattle.history.proofs.Kept.{remembers_from_none}
use Rattle.history.proofs.Steps.{Along, along, stepped}

-- a newer way, or the old one
newer_by : (d : Direction) (new old : Option Direction) → is_to d (newer_of new old) ≡ true → (new ≡ Some d) ⊎ ((is_to d old ≡ true) × (new ≡ None))
unfolding newer_of
newer_by d None old e = inr (e, refl)
newer_by d (Some f) old e = inl (ap Some (is_to_is d f e))

newer_some : (d : Direction) (new old : Option Direction) → new ≡ Some d → is_to d (newer_of new old) ≡ true
unfolding newer_of
newer_some d new old e = rw e (is_to_self d)

newer_old : (d : Direction) (new old : Option Direction) → new ≡ None → is_to d old ≡ true → is_to d (newer_of new old) ≡ true
unfolding newer_of
newer_old d new old e q = rw e q

none_to : (d : Direction) → is_to d None ≡ true → ⊥
none_to d e = false≢true (sym (is_to_none d) ∙ e)

-- a tick that ran
ran : (rest : Bool) (r : Regulator) (i : Input) → within_of r ≡ true → is_out r (contacts_at i) ≡ false → Ran (tick_at rest r i)
ran rest r i h o = record { accepted = accepts r i rest h; not_out = not_told r i rest o }

-- ---- the last direction

abbrev pub LastIs : Direction → Regulator → Type 0
LastIs d r = is_to d r.state.wear.last ≡ true

module _ (d : Direction) (rest : Bool) (r : Regulator) (i : Input) where
  abbrev moved : Past
  moved = past_on (record { rest = rest; got = r }) i

  -- the field after a tick in service
  last_is : (live_at r i).next.state.wear.last ≡ newer_of moved.ended r.state.wear.last
  unfolding accounted_of acted_of
  last_is = ap (λ (w : Wear). w.last) (live_wear r i)

  last_step : LastIs d (left_by (record { rest = rest; got = r }) i).got ↔ (Ends d moved ⊎ (LastIs d r × (Accepted moved.tick → EndsNone moved)))
  unfolding fresh_of
  last_step =
      stepped rest r i (LastIs d) (Ends d moved) (EndsNone moved) (λ s. s.ran) (λ k. k.not_out) (none_to d)
      (λ h o. (
        λ e.
            ⊎_elim (λ q. inl (record { ran = ran rest r i h o; ended = q }))
            (λ q. inr (q.0, record { not_out = not_told r i rest o; ended = q.1 }))
            (newer_by d moved.ended _ (ap (is_to d) (sym last_is) ∙ e)),
        λ q.
            ap (is_to d) last_is
            ∙ ⊎_elim (λ s. newer_some d moved.ended _ s.ended) (λ k. newer_old d moved.ended _ k.1.ended k.0) q,
      ))

pub last_move : (d : Direction) (r : Regulator) (is : List Input) → r.state.wear.last ≡ None
    → LastIs d (after_of left_by (starts_on r) is).got ↔ LastMove d (pasts_from r is)
last_move d r is e =
    remembers_from_none left_by past_on Along along (λ a. LastIs d a.got) (Ends d) (λ q. Accepted q.tick → EndsNone q)
    (λ a i k. last_step d a.rest a.got i) (starts_on r) is (λ _. refl) (λ b. none_to d (ap (is_to d) (sym e) ∙ b))

-- ---- the fault

abbrev pub FaultIs : Option Fault → Regulator → Type 0
FaultIs f r = r.state.latch.fault ≡ f

none_is : (f : Option Fault) → is_fault f ≡ false → f ≡ None
none_is None e = refl
none_is (Some RunAway) e = absurd (true≢false e)
none_is (Some NotStarted) e = absurd (true≢false e)
none_is (Some Long) e = absurd (true≢false e)
none_is (Some Fast) e = absurd (true≢false e)

module _ (f : Option Fault) (is-fault : is_fault f ≡ true) where
  no_none : None ≡ f → ⊥
  no_none e = false≢true (ap is_fault e ∙ is-fault)

  -- reset, and then a fault that arises
  later_by_lem : (l : Latch) (reset : Bool) (new : Option Fault) → later_of (reset_of l reset).fault new ≡ f
      → (new ≡ f) ⊎ ((l.fault ≡ f) × (reset ≡ false) × (new ≡ None))
  unfolding later_of reset_of
  later_by_lem l reset new e =
      ⊎_elim (λ p. inl (yes _ _ _ _ p refl ∙ e))
      (λ p.
      let g : (choose reset (record { fault = None; age = 0 }) l).fault ≡ f = no _ _ _ _ p refl ∙ e in
      ⊎_elim (λ q. absurd (no_none (ap (λ (k : Latch). k.fault) (yes _ _ _ _ q refl) ∙ g)))
      (λ q. inr (ap (λ (k : Latch). k.fault) (no _ _ _ _ q refl) ∙ g, q, none_is new p)) (split reset))
      (split (is_fault new))

  later_new : (old new : Option Fault) → new ≡ f → later_of old new ≡ f
  unfolding later_of
  later_new old new e = sym (yes _ _ _ _ (ap is_fault e ∙ is-fault) refl) ∙ e

  later_old : (l : Latch) (reset : Bool) (new : Option Fault) → reset ≡ false → new ≡ None → l.fault ≡ f → later_of (reset_of l reset).fault new ≡ f
  unfolding later_of reset_of choose
  later_old l reset new q n e = rw (q, n) e

  module _ (rest : Bool) (r : Regulator) (i : Input) where
    abbrev faulted : Past
    faulted = past_on (record { rest = rest; got = r }) i

    fault_is : (live_at r i).next.state.latch.fault ≡ later_of (reset_of r.state.latch (contacts_at i).reset).fault faulted.arose
    unfolding supervised_of latched_of cleared_of
    fault_is = ap (λ (l : Latch). l.fault) (live_latch r i)

    pub fault_step : FaultIs f (left_by (record { rest = rest; got = r }) i).got ↔ (Arises f faulted ⊎ (FaultIs f r × (Accepted faulted.tick → ArisesNone faulted)))
    unfolding fresh_of
    fault_step =
        stepped rest r i (FaultIs f) (Arises f faulted) (ArisesNone faulted) (λ s. s.ran) (λ k. k.not_out) no_none
        (λ h o. (
          λ e.
              ⊎_elim (λ q. inl (record { ran = ran rest r i h o; arose = q }))
              (λ q. inr (q.0, record { not_out = not_told r i rest o; not_reset = q.1; arose = q.2 }))
              (later_by_lem r.state.latch (contacts_at i).reset faulted.arose (sym fault_is ∙ e)),
          λ q.
              fault_is
              ∙ ⊎_elim (λ s. later_new _ faulted.arose s.arose) (λ k. later_old r.state.latch _ faulted.arose k.1.not_reset k.1.arose k.0) q,
        ))

  pub latched : (r : Regulator) (is : List Input) → r.state.latch.fault ≡ None
      → FaultIs f (after_of left_by (starts_on r) is).got ↔ Latched f (pasts_from r is)
  latched r is e =
      remembers_from_none left_by past_on Along along (λ a. FaultIs f a.got) (Arises f) (λ q. Accepted q.tick → ArisesNone q)
      (λ a i k. fault_step a.rest a.got i) (starts_on r) is (λ _. refl) (λ b. no_none (sym e ∙ b))

-- ---- the press that is remembered

abbrev pub PressIs : Direction → Regulator → Type 0
PressIs d r = is_to d r.state.memory.remembered ≡ true

pub record Held (d : Direction) (rested dropped changed : Bool) (press old : Option Direction) : Type 0 where
  pub unfinished : rested ≡ false
  pub not_dropped : dropped ≡ false
  pub by : (press ≡ Some d) ⊎ ((is_to d old ≡ true) × (press ≡ None) × (changed ≡ false))

module _ (d : Direction) (rested dropped changed : Bool) (press old : Option Direction) where
  abbrev after : Option Direction
  after = choose (rested || dropped) None (newer_of press (choose changed None old))

  press_by : is_to d after ≡ true → Held d rested dropped changed press old
  press_by e =
      ⊎_elim (λ p. absurd (none_to d (ap (is_to d) (yes _ _ _ _ p refl) ∙ e)))
      (λ p.
      record {
        unfinished = or_left _ _ p;
        not_dropped = or_right rested _ p;
        by =
            ⊎_elim (λ q. inl q)
            (λ q.
            ⊎_elim (λ c. absurd (none_to d (ap (is_to d) (yes _ _ _ _ c refl) ∙ q.0))) (λ c. inr (ap (is_to d) (no _ _ _ _ c refl) ∙ q.0, q.1, c)) (split changed))
            (newer_by d press _ (ap (is_to d) (no _ _ _ _ p refl) ∙ e));
      })
      (split (rested || dropped))

  press_is : Held d rested dropped changed press old → is_to d after ≡ true
  press_is k =
      ap (is_to d) (sym (no _ _ _ _ (rw k.unfinished k.not_dropped) refl))
      ∙ ⊎_elim (λ q. newer_some d press _ q) (λ q. newer_old d press _ q.1 (ap (is_to d) (sym (no _ _ _ _ q.2 refl)) ∙ q.0)) k.by

module _ (d : Direction) (rest : Bool) (r : Regulator) (i : Input) (k : Linked rest r) where
  abbrev pressed : Past
  pressed = past_on (record { rest = rest; got = r }) i

  abbrev fault : Option Fault
  fault = (supervised_at r i).latch.fault

  remembered_is : (live_at r i).next.state.memory.remembered
      ≡ after d (rests_of r.state.drive) (drops_of (contacts_at i) fault) pressed.changed pressed.press r.state.memory.remembered
  unfolding kept_press_of remembered_of heard_of
  remembered_is = live_remembered r i

  module _ (h : within_of r ≡ true) (o : is_out r (contacts_at i) ≡ false) where
    faultless : is_fault fault ≡ false → Faultless pressed.tick
    faultless e =
        let z = no_field fault e in
        let l = live_is r i h o in (
          ap (given 19) l ∙ live_run_away r i ∙ z.0,
          ap (given 20) l ∙ live_not_started r i ∙ z.1,
          ap (given 21) l ∙ live_long r i ∙ z.2,
          ap (given 22) l ∙ live_fast r i ∙ z.3,
        )

    no_fault_shown : Faultless pressed.tick → is_fault fault ≡ false
    no_fault_shown q =
        let l = live_is r i h o in
        no_fault fault (sym (ap (given 19) l ∙ live_run_away r i) ∙ q.0) (sym (ap (given 20) l ∙ live_not_started r i) ∙ q.1)
        (sym (ap (given 21) l ∙ live_long r i) ∙ q.2) (sym (ap (given 22) l ∙ live_fast r i) ∙ q.3)

    remembering : rests_of r.state.drive ≡ false → drops_of (contacts_at i) fault ≡ false → Remembering pressed.tick
    unfolding drops_of
    remembering u n =
        record {
          unfinished = k h ∙ u;
          manual = or_right (is_fault fault) _ (or_left _ _ n);
          not_local = or_right (is_fault fault || (contacts_at i).automatic) _ n;
          faultless = faultless (or_left _ _ (or_left _ _ n));
          not_out = not_told r i rest o;
        }

    held : Remembering pressed.tick → (rests_of r.state.drive ≡ false) × (drops_of (contacts_at i) fault ≡ false)
    unfolding drops_of
    held q = (sym (k h) ∙ q.unfinished, rw (no_fault_shown q.faultless, q.manual, q.not_local))

    forth : PressIs d (live_at r i).next → Presses d pressed ⊎ (PressIs d r × PressesNone pressed)
    forth e =
        let q = press_by d _ _ _ pressed.press _ (ap (is_to d) (sym remembered_is) ∙ e) in
        let m = remembering q.unfinished q.not_dropped in
        ⊎_elim (λ p. inl (record { accepted = accepts r i rest h; remembering = m; press = p }))
        (λ p. inr (p.0, record { remembering = m; press = p.1; same_mode = p.2 })) q.by

    back : Presses d pressed ⊎ (PressIs d r × PressesNone pressed) → PressIs d (live_at r i).next
    back (inl s) =
        let m = held s.remembering in
        ap (is_to d) remembered_is ∙ press_is d _ _ _ pressed.press _ (record { unfinished = m.0; not_dropped = m.1; by = inl s.press })
    back (inr s) =
        let m = held s.1.remembering in
        ap (is_to d) remembered_is
        ∙ press_is d _ _ _ pressed.press _ (record { unfinished = m.0; not_dropped = m.1; by = inr (s.0, s.1.press, s.1.same_mode) })

  press_step : PressIs d (left_by (record { rest = rest; got = r }) i).got ↔ (Presses d pressed ⊎ (PressIs d r × (Accepted pressed.tick → PressesNone pressed)))
  unfolding fresh_of
  press_step =
      stepped rest r i (PressIs d) (Presses d pressed) (PressesNone pressed)
      (λ s. record { accepted = s.accepted; not_out = s.remembering.not_out }) (λ q. q.remembering.not_out) (none_to d) (λ h o. (forth h o, back h o))

pub pressed_last : (d : Direction) (r : Regulator) (is : List Input) → r.state.memory.remembered ≡ None
    → PressIs d (after_of left_by (starts_on r) is).got ↔ PressedLast d (pasts_from r is)
pressed_last d r is e =
    remembers_from_none left_by past_on Along along (λ a. PressIs d a.got) (Presses d) (λ q. Accepted q.tick → PressesNone q)
    (λ a i k. press_step d a.rest a.got i k) (starts_on r) is (λ _. refl) (λ b. none_to d (ap (is_to d) (sym e) ∙ b))

-- ---- the keys: those of the tick before; after one that was out, those of the fresh record

pub keys_are : (r : Regulator) (is : List Input) (i : Input) → within_of r ≡ true → is_out (record_after r is) (contacts_at i) ≡ false
    → (record_after r (is ++ (i ∷ []))).state.memory.keys ≡ (contacts_at i).keys
keys_are r [] i h o = ap (λ (q : Regulator). q.state.memory.keys) (live_next r i h o) ∙ live_keys r i
keys_are r (j ∷ is) i h o = keys_are (next_at r j) is i (within_kept r j ∙ h) o
