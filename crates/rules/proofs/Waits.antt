-- One-step laws of rule 9: what begins a command, and how the wait goes on.
-- Assumes nothing.
use mathlib.Core.Path.{◌≡◌, refl, sym, ap, ◌∙◌}
use mathlib.Core.Bool.{Bool, true, false, false≢true}
use mathlib.Core.List.{List}
use mathlib.Core.Logic.{◌⊎◌, inl, inr, ⊎_elim}
use Prim.Native.Nat.{ℕ, ◌+◌, ◌≤◌, ◌<◌}
use native.Mathlib.Nat.{eq-zero-or-pos}
use native.Mathlib.Omega.{arith}
use borrow.Author.Tests.{leb-true, leb-false, eqb-false}
use lib.Dec.{leb, eqb}
use Rattle.common.specs.Choice.{choose}
use Rattle.common.proofs.Cases.{yes, no, chosen}
use Rattle.slots.specs.Slots.{slot, in_service, t7}
use Rattle.sheet.specs.Sheet.{passes_of}
use Rattle.sheet_ranges.specs.Table.{row_of, row_in}
use Rattle.common.proofs.Joined.{split, and_left, and_right, or_left, or_right}
use Rattle.sheet.proofs.Laws.{in_run, t1_range, t2_range, t3_range}
use Rattle.ways.specs.declared.Direction.{Direction}
use Rattle.ways.specs.declared.Direction.TheVariants.{Raise, Lower}
use Rattle.drive.specs.declared.Drive.{Drive}
use Rattle.drive.specs.declared.Drive.TheVariants.{Resting, Asked}
use Rattle.std.specs.Prelude.{Option, None, Some}
use Rattle.drive_follow.specs.declared.Followed.{Followed}
use Rattle.drive_follow.specs.Follow.{rests_of}
use Rattle.drive_shown.specs.Shown.{on_of}
use Rattle.ways.specs.Ways.{is_to}
use Rattle.ways.proofs.Cases.{is_to_self, is_to_is, is_to_none}
use Rattle.acting_supervising.proofs.EachKind.{rest_silent, rest_free, rest_needs_free}
use Rattle.input.specs.declared.Input.{Input}
use Rattle.command.specs.Idling.{waits_for}
use Rattle.command.specs.declared.Decided.{Decided}
use Rattle.command.specs.declared.Wait.{Wait}
use Rattle.command_automatic.specs.Automatic.{ticks_of, waited_of, delay_of, wait_on_of}
use Rattle.command_deciding.proofs.Sound.{Waits, decided_sound, decided_waits}
use Rattle.record.specs.declared.Regulator.{Regulator}
use Rattle.record_limits.specs.Limits.{within_of}
use Rattle.record_starting.specs.Starting.{fresh_of}
use Rattle.acting_commanding.specs.Commanding.{ask_of, situation_of}
use Rattle.showing.specs.Showing as showing
use Rattle.rules.specs.declared.Ticked.{Ticked}
use Rattle.rules.specs.Ticks.{is_out, out_of, tick_of}
use Rattle.claim.specs.Claim.{command_field, block_field, side_field, mode_field, delay_to, wait_for, Begins, Waiting, longest}
use Rattle.rules.specs.Lists.{delay_in, held_for, opening}
use Rattle.rules.proofs.Next.{pass}
use Rattle.rules.proofs.Shown.{given, contacts_at, supervised_at, blocks_at, situation_at, decided_at, live_at, on_to, live_drive, live_wait, live_on, live_automatic, live_manual, live_opposed, live_level, live_run_away, live_not_started, live_long, live_fast, flag_on, no_field, side_level}
use Rattle.rules.proofs.Steps.{tick_at, next_at, rest_at, wait_to, Linked, live_is, out_is, accepted_is, accepted_within, linked_kept, finding_at, cleared_at, followed_at, followed_is, no_fault_before, blocks_no_fault, blocks_not_local, Live, live_of}

-- ---- a command that begins

-- from rest, a command is on only if one was decided
on_decided : (d : Direction) (r : Regulator) (i : Input) (n : ℕ) → rests_of r.state.drive ≡ true → (w : Option Direction)
    → on_to d (ask_of (supervised_at r i).drive (contacts_at i).automatic w) n ≡ true → w ≡ Some d
unfolding ask_of on_of
on_decided d r i n e None p =
    absurd
    (false≢true
    (sym (is_to_none d) ∙ ap (is_to d) (sym (rest_silent r.settings (contacts_at i) (finding_at r i) r.state.drive (cleared_at r i) r.state.wear.last n e) ∙ ap (λ (g : Drive). on_of g n) (sym (followed_is r i))) ∙ p))
on_decided d r i n e (Some f) p = ap Some (is_to_is d f p)

pub record Begun (d : Direction) (r : Regulator) (i : Input) : Type 0 where
  pub within : within_of r ≡ true
  pub is : tick_of r i ≡ live_at r i
  pub command : (decided_at r i).command ≡ Some d

nothing_out : (d : Direction) (r : Regulator) → given (command_field d) (out_of r) ≡ 0
unfolding out_of
nothing_out Raise r = refl
nothing_out Lower r = refl

module _ (d : Direction) (rest : Bool) (r : Regulator) (i : Input) (k : Linked rest r) (b : Begins d (tick_at rest r i)) where
  pub begun : Begun d r i
  begun =
      let w = accepted_within r i b.accepted in
      ⊎_elim
      (λ o. absurd (zero_one (sym (nothing_out d r) ∙ sym (ap (given (command_field d)) (out_is r i w o)) ∙ b.on)))
      (λ o.
      let e = live_is r i w o in
      record {
        within = w;
        is = e;
        command =
            on_decided d r i (slot r.settings t7) (sym (k w) ∙ b.from_rest) (decided_at r i).command
            (flag_on _ (sym (live_on r i d) ∙ sym (ap (given (command_field d)) e) ∙ b.on));
      })
      (split (is_out r (contacts_at i)))
    where
      zero_one : ◌≡◌ {A = ℕ} 0 1 → ⊥
      zero_one z = omega arith

  pub begun_asked : (next_at r i).state.drive ≡ Asked d 0 (contacts_at i).automatic
  unfolding ask_of
  begun_asked =
      ap (λ (t : Ticked Regulator). t.next.state.drive) begun.is ∙ live_drive r i ∙ ap (ask_of (supervised_at r i).drive (contacts_at i).automatic) begun.command

  pub begun_moves : rest_at r i ≡ false
  begun_moves = linked_kept r i begun.within ∙ ap rests_of begun_asked

  mode_free_lem : (m : Bool) → (contacts_at i).automatic ≡ m → choose m (blocks_at r i).automatic (blocks_at r i).manual ≡ false → given (choose m 13 14) (live_at r i) ≡ 0
  unfolding choose
  mode_free_lem true e f = live_automatic r i ∙ ap showing.bit_of f
  mode_free_lem false e f = live_manual r i ∙ ap showing.bit_of f

  pub begun_free : (given (mode_field i.contacts) (tick_of r i) ≡ 0) × (given (block_field d) (tick_of r i) ≡ 0)
  unfolding situation_of
  begun_free =
      let s = (decided_sound r.settings (situation_at r i)).begins d begun.command in (
        ap (given (mode_field i.contacts)) begun.is ∙ mode_free_lem (contacts_at i).automatic refl s.mode,
        ap (given (block_field d)) begun.is ∙ live_opposed r i d ∙ ap showing.bit_of s.direction,
      )

-- ---- the delay in force

pub force_is : (d : Direction) (rest : Bool) (r : Regulator) (i : Input) → delay_to d (tick_at rest r i) ≡ delay_in d r i
force_is Raise rest r i = refl
force_is Lower rest r i = refl

delay_most : (s : List ℕ) (d : Direction) (far : Bool) (w : Option Direction) → delay_of s d far w ≤ longest s
unfolding delay_of
delay_most s d far w =
    chosen (λ n. n ≤ longest s) _ _ _ (λ p. omega arith) (λ p. chosen (λ n. n ≤ longest s) _ _ _ (λ q. omega arith) (λ q. omega arith))

pub force_most : (d : Direction) (r : Regulator) (i : Input) → delay_in d r i ≤ longest r.settings
force_most d r i = delay_most r.settings d _ _

delay_least : (s : List ℕ) → passes_of s ≡ true → (d : Direction) (far : Bool) (w : Option Direction) → 20 ≤ delay_of s d far w
unfolding delay_of
delay_least s e d far w =
    chosen (λ n. 20 ≤ n) _ _ _ (λ p. (t3_range s e).0) (λ p. chosen (λ n. 20 ≤ n) _ _ _ (λ q. (t2_range s e).0) (λ q. (t1_range s e).0))

pub force_least : (d : Direction) (r : Regulator) (i : Input) → within_of r ≡ true → 20 ≤ delay_in d r i
force_least d r i h = delay_least r.settings (pass r h) d _ _

-- ---- a waiting tick

-- the wait that a record holds to a side, as a list's opening has it, is the one that rule 9 goes by
held_to : (d e : Direction) (n : ℕ) → waited_of d (waits_for e n) ≡ held_for d (waits_for e n)
unfolding waited_of ticks_of choose
held_to Raise Raise n = refl
held_to Raise Lower n = refl
held_to Lower Raise n = refl
held_to Lower Lower n = refl

held_is : (d : Direction) (w : Option Wait) → waited_of d w ≡ held_for d w
unfolding waited_of ticks_of choose
held_is d None = refl
held_is d (Some w) = held_to d w.direction w.ticks

pub no_wait_is : (d : Direction) (r : Regulator) → wait_for d (opening r) ≡ 0 → wait_to d r ≡ 0
no_wait_is Raise r h = held_is Raise r.state.memory.wait ∙ h
no_wait_is Lower r h = held_is Lower r.state.memory.wait ∙ h

waited_self : (d : Direction) (n : ℕ) → waited_of d (waits_for d n) ≡ n
unfolding waited_of ticks_of
waited_self d n = sym (yes _ _ _ _ (is_to_self d) refl)

-- where the wait goes on with this tick
pub record Goes (d : Direction) (rest : Bool) (r : Regulator) (i : Input) : Type 0 where
  pub none : Begins d (tick_at rest r i) → ⊥
  pub early : wait_to d r + 1 < delay_in d r i
  pub more : wait_to d (next_at r i) ≡ wait_to d r + 1
  pub rests : rest_at r i ≡ true

-- where it has reached the delay
pub record Comes (d : Direction) (rest : Bool) (r : Regulator) (i : Input) : Type 0 where
  pub begins : Begins d (tick_at rest r i)
  pub due : delay_in d r i ≤ wait_to d r + 1

module _ (d : Direction) (rest : Bool) (r : Regulator) (i : Input) (k : Linked rest r) (w : Waiting d (tick_at rest r i)) where
  l : Live d r i
  l = live_of d rest r i w.lasting

  rested : rests_of r.state.drive ≡ true
  rested = sym (k l.within) ∙ w.rest

  still : (supervised_at r i).drive ≡ Resting
  still =
      followed_is r i
      ∙ ap (λ (o : Followed). o.drive)
      (sym (rest_free r.settings (contacts_at i) (finding_at r i) r.state.drive (cleared_at r i) r.state.wear.last rested w.contact))

  resting : (situation_at r i).resting ≡ true
  unfolding situation_of
  resting = rw (rested, still)

  decision : wait_on_of d (wait_to d r) (delay_in d r i) ≡ decided_at r i
  unfolding situation_of
  decision = decided_waits r.settings (situation_at r i) d resting l.automatic l.side l.mode l.direction

  comes : delay_in d r i ≤ wait_to d r + 1 → (decided_at r i).command ≡ Some d → Comes d rest r i
  unfolding ask_of on_of
  comes h c =
      record {
        begins =
            record {
              accepted = w.lasting.accepted;
              from_rest = w.rest;
              on =
                  ap (given (command_field d)) l.is ∙ live_on r i d
                  ∙ ap showing.bit_of (ap (λ (v : Option Direction). on_to d (ask_of (supervised_at r i).drive (contacts_at i).automatic v) (slot r.settings t7)) c ∙ is_to_self d);
            };
        due = h;
      }

  goes : wait_to d r + 1 < delay_in d r i → (decided_at r i).command ≡ None → (decided_at r i).wait ≡ waits_for d (wait_to d r + 1) → Goes d rest r i
  unfolding ask_of
  goes h c q =
      record {
        none = λ b. let z : Some d ≡ None = sym (begun d rest r i k b).command ∙ c in let y : ◌≡◌ {A = ℕ} 0 1 = cc in omega arith;
        early = h;
        more = ap (λ (t : Ticked Regulator). wait_to d t.next) l.is ∙ ap (waited_of d) (live_wait r i ∙ q) ∙ waited_self d (wait_to d r + 1);
        rests =
            linked_kept r i l.within
            ∙ ap rests_of (ap (λ (t : Ticked Regulator). t.next.state.drive) l.is ∙ live_drive r i ∙ ap (ask_of (supervised_at r i).drive (contacts_at i).automatic) c ∙ still);
      }

  pub wait_step : Comes d rest r i ⊎ Goes d rest r i
  unfolding wait_on_of
  wait_step =
      ⊎_elim
      (λ t.
      let e = yes _ _ _ _ t refl ∙ decision in
      inl (comes (leb-true _ _ t) (sym (ap (λ (o : Decided). o.command) e))))
      (λ f.
      let e = no _ _ _ _ f refl ∙ decision in
      inr (goes (leb-false _ _ f) (sym (ap (λ (o : Decided). o.command) e)) (sym (ap (λ (o : Decided). o.wait) e))))
      (split (leb (delay_in d r i) (wait_to d r + 1)))

-- ---- a tick that leaves a wait is a waiting tick

one_left : (n : ℕ) → n ≤ 1 → (n ≡ 0 → ⊥) → n ≡ 1
one_left n h k = ⊎_elim (λ z. absurd (k z)) (λ p. omega arith) (eq-zero-or-pos n)

in_service_lem : (s : List ℕ) → passes_of s ≡ true → eqb (slot s in_service) 0 ≡ false → slot s in_service ≡ 1
unfolding row_of row_in choose
in_service_lem s p e = one_left (slot s in_service) (in_run s p in_service 1 0 1 refl 0 (omega arith)).1 (eqb-false _ _ e)

module _ (d : Direction) (rest : Bool) (r : Regulator) (i : Input) (k : Linked rest r) (h : within_of r ≡ true) (o : is_out r (contacts_at i) ≡ false) where
  waits_at : (n : ℕ) → Waits r.settings (situation_at r i) (decided_at r i) d n → Waiting d (tick_at rest r i)
  unfolding situation_of is_out
  waits_at n q =
      let e = live_is r i h o in
      let f = blocks_no_fault r i q.mode in
      let z = no_field (supervised_at r i).latch.fault f in
      let b = no_fault_before r i f in
      let was : rests_of r.state.drive ≡ true = and_left _ _ q.resting in
      let now : rests_of (followed_at r.state.drive r i).drive ≡ true =
      ap rests_of (sym (followed_is r i)) ∙ and_right (rests_of r.state.drive) _ q.resting in
      record {
        lasting =
            record {
              accepted = accepted_is r i ∙ sym (yes _ _ _ _ h refl);
              in_service = in_service_lem r.settings (pass r h) (or_left _ _ o);
              not_out = or_right (eqb (slot r.settings in_service) 0) _ o;
              automatic = q.automatic;
              deviates = ap (given (side_field d)) e ∙ live_level r i d ∙ ap showing.bit_of (side_level d _ q.side);
              mode_free = ap (given 13) e ∙ live_automatic r i ∙ ap showing.bit_of q.mode;
              side_free = ap (given (block_field d)) e ∙ live_opposed r i d ∙ ap showing.bit_of q.direction;
              no_run_away = ap (given 19) e ∙ live_run_away r i ∙ z.0;
              no_not_started = ap (given 20) e ∙ live_not_started r i ∙ z.1;
              no_long = ap (given 21) e ∙ live_long r i ∙ z.2;
              no_fast = ap (given 22) e ∙ live_fast r i ∙ z.3;
            };
        rest = k h ∙ was;
        contact =
            rest_needs_free r.settings (contacts_at i) (finding_at r i) r.state.drive (cleared_at r i) r.state.wear.last was (blocks_not_local r i q.mode)
            b.1 b.0 now;
      }

  left_at : (w : Option Wait) → (decided_at r i).wait ≡ w → Waiting d (tick_at rest r i) ⊎ (waited_of d w ≡ 0)
  unfolding waited_of ticks_of
  left_at None q = inr refl
  left_at (Some w) q =
      ⊎_elim
      (λ p. inl (waits_at w.ticks ((decided_sound r.settings (situation_at r i)).waits d w.ticks (q ∙ ap (λ (f : Direction). waits_for f w.ticks) (is_to_is d w.direction p)))))
      (λ p. inr (sym (no _ _ _ _ p refl)))
      (split (is_to d (Some w.direction)))

fresh_waits : (d : Direction) (s : List ℕ) → waited_of d (fresh_of s).state.memory.wait ≡ 0
unfolding waited_of fresh_of
fresh_waits d s = refl

pub wait_or_zero : (d : Direction) (rest : Bool) (r : Regulator) (i : Input) → Linked rest r → within_of r ≡ true
    → Waiting d (tick_at rest r i) ⊎ (wait_to d (next_at r i) ≡ 0)
unfolding out_of
wait_or_zero d rest r i k h =
    ⊎_elim (λ o. inr (ap (λ (t : Ticked Regulator). wait_to d t.next) (out_is r i h o) ∙ fresh_waits d r.settings))
    (λ o.
    ⊎_elim (λ w. inl w) (λ z. inr (ap (λ (t : Ticked Regulator). wait_to d t.next) (live_is r i h o) ∙ ap (waited_of d) (live_wait r i) ∙ z))
    (left_at d rest r i k h o (decided_at r i).wait refl))
    (split (is_out r (contacts_at i)))
