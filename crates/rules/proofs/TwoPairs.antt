-- Panel and dispatcher (02, ticket 7), of every tick: of the keys and the remembered press it goes by what is heard alone. `Worked` has
-- worked lists.
-- Assumes nothing.
use mathlib.Core.Path.{◌≡◌, refl, sym, ap, subst, ◌∙◌}
use mathlib.Core.Bool.{Bool, true, false}
use mathlib.Core.Logic.{⊎_elim}
use Prim.Native.Nat.{ℕ, ◌^◌, ◌<◌}
use Rattle.common.specs.Choice.{choose}
use Rattle.common.proofs.Joined.{split, and_four, and_false}
use Rattle.fault.specs.declared.Fault.{Fault}
use Rattle.fault.specs.Latches.{is_fault}
use Rattle.std.specs.Prelude.{Option, None}
use Rattle.ways.specs.declared.Direction.{Direction}
use Rattle.input.specs.declared.Contacts.{Contacts}
use Rattle.input.specs.declared.Input.{Input}
use Rattle.input.specs.Brought.{contacts_of, readings_of}
use Rattle.input.proofs.Numbers.{contact_number, brings_them, of_32_bits}
use Rattle.blocks.specs.Blocked.{blocks_of}
use Rattle.keys.specs.declared.Buttons.{Buttons}
use Rattle.keys.specs.declared.Keys.{Keys}
use Rattle.command_pairs.specs.Pairs.{pair_of, changed_of, heard_of}
use Rattle.command_pairs.proofs.TwoPairs.{with_other, other_unheard, change_forgets}
use Rattle.sheet.specs.Sheet.{passes_of}
use Rattle.record.specs.declared.Regulator.{Regulator}
use Rattle.record.specs.Whole.{regulator_of}
use Rattle.record_limits.specs.Limits.{motion_within, press_within, counts_within, within_of}
use Rattle.record_starting.specs.Starting.{local_keys, fresh_of}
use Rattle.sensing_observing.specs.Observing.{observed_of}
use Rattle.sensing_assessing.specs.Assessing.{assessed_of}
use Rattle.acting_supervising.specs.declared.Supervised.{Supervised}
use Rattle.acting_judging.specs.Judging.{blocked_of}
use Rattle.acting_supervising.specs.Supervising.{contact_of, cleared_of, holding_of, followed_of, supervised_of}
use Rattle.acting_commanding.specs.Commanding.{heard_in, regulated_of}
use Rattle.acting_commanding.proofs.TwoPairs.{contacts_with, memory_with, regulated_by_heard, held_begins_nothing}
use Rattle.rules.specs.declared.Ticked.{Ticked}
use Rattle.sensing.specs.declared.Sensed.{Sensed}
use Rattle.sensing.specs.Sensing.{sensed_of}
use Rattle.rules.specs.Acting.{acted_of}
use Rattle.rules.specs.Ticks.{memory_in, sensed_in, end_of, ran_of, is_out, out_of, refused_of, tick_of}
use Rattle.rules.proofs.Values.{supervised_in, blocked_in}
use Rattle.rules.proofs.Steps.{live_is, out_is}

-- the record with these keys of the previous tick, and this press remembered
abbrev pub recalling : Keys → Option Direction → Regulator → Regulator
recalling k press r =
    regulator_of r.settings
    (record {
      organs = r.state.organs;
      drive = r.state.drive;
      latch = r.state.latch;
      memory = memory_with k press r.state.memory;
      wear = r.state.wear;
    })

-- the record with these keys, and all else as it is
abbrev pub rekeyed : Keys → Regulator → Regulator
rekeyed k r = recalling k r.state.memory.remembered r

-- the tick with these contacts
abbrev pub with_contacts : ℕ → Input → Input
with_contacts n i =
    record {
      u_ab = i.u_ab;
      u0 = i.u0;
      u2 = i.u2;
      i_high = i.i_high;
      i_bus = i.i_bus;
      i_coupler = i.i_coupler;
      phasors = i.phasors;
      contacts = n;
      bcd = i.bcd;
      sensor = i.sensor;
    }

module _ (r : Regulator) (i : Input) (c : Contacts) (n : ℕ) (now before : Keys) (press : Option Direction) where
  abbrev r' : Regulator
  r' = recalling before press r

  abbrev i' : Input
  i' = with_contacts n i

  abbrev c' : Contacts
  c' = contacts_with now c

  sensed_same : sensed_in r' i' c' ≡ sensed_in r i c
  unfolding sensed_of observed_of assessed_of readings_of
  sensed_same = refl

  supervised_same : (x : Sensed) → supervised_in r' c' x ≡ supervised_in r c x
  unfolding supervised_of followed_of holding_of contact_of cleared_of blocked_of blocks_of
  supervised_same x = refl

  blocked_same : (x : Sensed) (v : Supervised) → blocked_in r' c' x v ≡ blocked_in r c x v
  unfolding blocked_of blocks_of
  blocked_same x v = refl

  module _ (h : heard_of now before press ≡ heard_in c (memory_in r)) where
    -- the same outputs, and the same next record but for the keys, which are this tick's
    pub ran_same : ran_of r' i' c' ≡ record { reply = (ran_of r i c).reply; next = rekeyed now (ran_of r i c).next }
    unfolding ran_of end_of acted_of
    ran_same =
        let x = sensed_in r i c in
        let v = supervised_in r c x in
        rw (
          sensed_same,
          supervised_same x,
          blocked_same x v,
          regulated_by_heard c (memory_in r) now before press h r.settings x.assessed (blocked_in r c x v) r.state.drive v.drive v.latch.fault,
        ) refl

-- ---- the other pair

-- the same reply, and the same next record but for the keys
abbrev pub Alike : Ticked Regulator → Ticked Regulator → Type 0
Alike t u = (t.reply ≡ u.reply) × ((k : Keys) → rekeyed k t.next ≡ rekeyed k u.next)

alike_chosen : (b : Bool) (t u v w : Ticked Regulator) → Alike t u → Alike v w → Alike (choose b t v) (choose b u w)
unfolding choose
alike_chosen true t u v w p q = p
alike_chosen false t u v w p q = q

-- a tick by its contacts
abbrev tick_by_lem : Regulator → Input → Contacts → Ticked Regulator
tick_by_lem r i c = choose (within_of r) (choose (is_out r c) (out_of r) (ran_of r i c)) (refused_of r)

tick_by : (r : Regulator) (i : Input) → tick_of r i ≡ tick_by_lem r i (contacts_of i.contacts)
unfolding tick_of
tick_by r i = refl

module _ (r : Regulator) (i : Input) (b b' : Buttons) where
  abbrev c : Contacts
  c = contacts_of i.contacts

  abbrev now : Keys
  now = with_other c.keys.remote b c.keys

  abbrev before : Keys
  before = with_other c.keys.remote b' r.state.memory.keys

  abbrev r'' : Regulator
  r'' = rekeyed before r

  by_contacts : (n : ℕ) → Alike (tick_by_lem r'' (with_contacts n i) (contacts_with now c)) (tick_by_lem r i c)
  unfolding within_of is_out out_of refused_of
  by_contacts n =
      let ran = ran_same r i c n now before r.state.memory.remembered (other_unheard c.keys r.state.memory.keys r.state.memory.remembered b b') in
      alike_chosen (within_of r) _ _ _ _
      (alike_chosen (is_out r c) _ _ _ _ (refl, (λ k. refl)) (ap (λ (t : Ticked Regulator). t.reply) ran, (λ k. ap (λ (t : Ticked Regulator). rekeyed k t.next) ran)))
      (refl, (λ k. refl))

  -- a button of the other pair, held or pressed, neither commands nor stops a command of the mode's pair: whatever its bits are on this
  -- tick, and were on the previous one, the reply is the same, and so is the next record but for the keys
  pub other_pair_unheard : (n : ℕ) → contacts_of n ≡ contacts_with now c → Alike (tick_of r'' (with_contacts n i)) (tick_of r i)
  other_pair_unheard n e =
      rw (tick_by r'' (with_contacts n i), tick_by r i) (subst (λ (d : Contacts). Alike (tick_by_lem r'' (with_contacts n i) d) (tick_by_lem r i c)) (sym e) (by_contacts n))

  -- and there is such a tick, whatever those bits are: a contact number of 32 bits that brings them
  pub such_contacts : (contacts_of (contact_number (contacts_with now c)) ≡ contacts_with now c) × (contact_number (contacts_with now c) < 2 ^ 32)
  such_contacts = (brings_them (contacts_with now c), of_32_bits (contacts_with now c))

-- ---- the mode, and what each pair remembers

no_press : (f : Option Fault) → press_within f None ≡ true
unfolding press_within
no_press f = rw (and_false (is_fault f)) refl

module _ (r : Regulator) (i : Input) (w : within_of r ≡ true) where
  abbrev cᵢ : Contacts
  cᵢ = contacts_of i.contacts

  -- a record that remembers no press, and is as it was otherwise
  abbrev forgetful : Regulator
  forgetful = recalling r.state.memory.keys None r

  forgetful_within : within_of forgetful ≡ true
  unfolding within_of
  forgetful_within =
      let passed = passes_of r.settings in
      let moved = motion_within r.settings r.state.drive r.state.memory.wait r.state.latch in
      let pressed = press_within r.state.latch.fault r.state.memory.remembered in
      let counted = counts_within r.settings r.state.organs r.state.wear in
      let all = and_four passed moved pressed counted w in
      rw (all.0, all.1, no_press r.state.latch.fault, all.3)

  -- "a change of mode drops a remembered press": the tick is that of the record which remembers none
  pub dropped_by_change : changed_of cᵢ.keys r.state.memory.keys ≡ true → tick_of r i ≡ tick_of forgetful i
  unfolding ran_of end_of acted_of regulated_of is_out out_of
  dropped_by_change e =
      let ran = ran_same r i cᵢ i.contacts cᵢ.keys r.state.memory.keys None (sym (change_forgets cᵢ.keys r.state.memory.keys r.state.memory.remembered e)) in
      ⊎_elim (λ o. out_is r i w o ∙ sym (out_is forgetful i forgetful_within o))
      (λ o. live_is r i w o ∙ (sym ran ∙ sym (live_is forgetful i forgetful_within o)))
      (split (is_out r cᵢ))

  -- "each pair remembers its own previous tick in both modes"
  pub both_remembered : is_out r cᵢ ≡ false → (tick_of r i).next.state.memory.keys ≡ cᵢ.keys
  unfolding ran_of end_of acted_of regulated_of
  both_remembered o = ap (λ (t : Ticked Regulator). t.next.state.memory.keys) (live_is r i w o)

  -- "pressed when fresh"
  pub pressed_when_out : is_out r cᵢ ≡ true → (tick_of r i).next.state.memory.keys ≡ local_keys true
  unfolding out_of fresh_of
  pressed_when_out o = ap (λ (t : Ticked Regulator). t.next.state.memory.keys) (out_is r i w o)

  -- so a button that is held through a change of mode is no press of its pair: the tick begins no command, and leaves the drive as rule 7
  -- did
  pub held_begins_none : is_out r cᵢ ≡ false → cᵢ.automatic ≡ false → changed_of cᵢ.keys r.state.memory.keys ≡ true
      → ((pair_of cᵢ.keys.remote cᵢ.keys).raise ≡ true → (pair_of cᵢ.keys.remote r.state.memory.keys).raise ≡ true)
      → ((pair_of cᵢ.keys.remote cᵢ.keys).lower ≡ true → (pair_of cᵢ.keys.remote r.state.memory.keys).lower ≡ true)
      → (tick_of r i).next.state.drive ≡ (supervised_in r cᵢ (sensed_in r i cᵢ)).drive
  unfolding ran_of end_of acted_of
  held_begins_none o a e p q =
      ap (λ (t : Ticked Regulator). t.next.state.drive) (live_is r i w o) ∙ held_begins_nothing cᵢ (memory_in r) a e p q _ _ _ _ _ _
