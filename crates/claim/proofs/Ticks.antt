-- Ticks of worked lists, by all that can be seen of them, and what they are in the words of demand 3, to either side. The sheet is
-- `varied_sheet`: T1 23, T2 25, T3 21, T4 24, T5 22, T6 3, or `varied_by` another T6; and for a drive without a switching contact
-- `held_sheet`: T1 25, T2 23.
-- Assumes nothing.
use Prim.Native.Nat.{ℕ, ◌+◌, ◌≤◌, ◌<◌}
use native.Mathlib.Omega.{arith}
use mathlib.Core.Path.{◌≡◌, refl}
use mathlib.Core.Bool.{Bool, true, false, true≢false, false≢true}
use mathlib.Core.List.{List, [], ◌∷◌, ◌++◌}
use mathlib.Core.Logic.{inl, inr, ⊎_elim}
use lib.ListN.{length, replicate, length-replicate, set}
use Rattle.slots.specs.Slots.{slot, in_service, t4, t5, t6}
use Rattle.showing.specs.Showing.{field_count}
use Rattle.ways.specs.declared.Direction.{Direction}
use Rattle.ways.specs.declared.Direction.TheVariants.{Raise, Lower}
use Rattle.input.specs.Brought.{bit_of}
use Rattle.claim.specs.Claim.{Tick, Opening, All, Begins, Command, Lasting, Waiting, BeganAtZero, InForce, Serves, Kept, closed}
use Rattle.claim.specs.Scenes.{varied_sheet, held_sheet}
use Rattle.claim.proofs.Lists.{all_join, all_same}

-- ---- ticks

-- the list with these numbers at these places
abbrev with : List ℕ → List (ℕ × ℕ) → List ℕ
with s [] = s
with s (p ∷ ps) = with (set s p.0 p.1) ps

-- the outputs that are 0 but for these fields
abbrev pub shows : List (ℕ × ℕ) → List ℕ
shows fields = with (replicate field_count 0) fields

abbrev pub tick_under : (sheet : List ℕ) (rest : Bool) (low_delay high_delay contacts refusal : ℕ) (outputs : List ℕ) → Tick
tick_under sheet rest low high contacts refusal outputs =
    record {
      rest = rest;
      settings = sheet;
      low_delay = low;
      high_delay = high;
      contacts = contacts;
      refusal = refusal;
      outputs = outputs;
    }

abbrev pub tick_on : (rest : Bool) (low_delay high_delay contacts refusal : ℕ) (outputs : List ℕ) → Tick
tick_on = tick_under varied_sheet

-- contacts: breaker closed, automatic, an external block of the direction that the side does not ask for; and with the switching contact
-- closed
abbrev pub open_to : Direction → ℕ
open_to Raise = 0x4801
open_to Lower = 0x4401

abbrev pub closed_to : Direction → ℕ
closed_to Raise = 0x4803
closed_to Lower = 0x4403

-- a voltage in band: section, lower blocked, automatic
abbrev pub in_band : Tick
in_band = tick_on true 23 23 (open_to Raise) 0 (shows ((2, 1) ∷ (16, 1) ∷ (27, 1) ∷ []))

-- a voltage off to a side, with the delay to that side and to the other. Low: section, an organ's trip, manual and lower blocked, low,
-- automatic; high: section, raise blocked, high, automatic. With the output of the side's command, and 24, asked or moving.
abbrev pub toward : Direction → (sheet : List ℕ) (rest : Bool) (delay other contacts on moving : ℕ) → Tick
toward Raise sheet rest delay other contacts on moving =
    tick_under sheet rest delay other contacts 0
    (shows ((0, on) ∷ (2, 1) ∷ (10, 1) ∷ (14, 1) ∷ (16, 1) ∷ (17, 1) ∷ (24, moving) ∷ (27, 1) ∷ []))
toward Lower sheet rest delay other contacts on moving =
    tick_under sheet rest other delay contacts 0 (shows ((1, on) ∷ (2, 1) ∷ (15, 1) ∷ (18, 1) ∷ (24, moving) ∷ (27, 1) ∷ []))

-- waiting under a delay; the tick on which the command begins; asked; moving; the move's end
abbrev pub waits : List ℕ → Direction → ℕ → Tick
waits sheet d delay = toward d sheet true delay 23 (open_to d) 0 0

abbrev pub commands : List ℕ → Direction → ℕ → Tick
commands sheet d delay = toward d sheet true delay 23 (open_to d) 1 1

abbrev pub asked : List ℕ → Direction → Tick
asked sheet d = toward d sheet false 25 23 (open_to d) 1 1

abbrev pub moves : List ℕ → Direction → Tick
moves sheet d = toward d sheet false 25 23 (closed_to d) 0 1

abbrev pub ends : List ℕ → Direction → Tick
ends sheet d = toward d sheet false 25 23 (open_to d) 0 0

-- the ticks after a command's first: asked for b of them, the contact closed for h; the move's end, and what comes after
abbrev pub served_row_lem : List ℕ → Direction → ℕ → ℕ → List Tick → List Tick
served_row_lem sheet d b h after = replicate b (asked sheet d) ++ (replicate h (moves sheet d) ++ (ends sheet d ∷ after))

-- without a switching contact, so under T1, or T3, after a command too. Contacts as above, with bit 1 set; and with reset.
abbrev pub reset_contact : ℕ
reset_contact = 0x5803

-- off to a side, under a delay; the command held; its end as 'long', with all blocked and the supply tripped; its end in band, where the
-- organ has not cleared yet
abbrev pub held_to : Direction → (rest : Bool) (delay contacts on moving : ℕ) → Tick
held_to d rest delay contacts on moving = toward d held_sheet rest delay 25 contacts on moving

abbrev pub held : Tick
held = held_to Raise false 25 (closed_to Raise) 1 1

abbrev pub held_long : Tick
held_long =
    tick_under held_sheet false 25 25 (closed_to Raise) 0
    (shows ((2, 1) ∷ (10, 1) ∷ (13, 1) ∷ (14, 1) ∷ (15, 1) ∷ (16, 1) ∷ (17, 1) ∷ (21, 1) ∷ (23, 1) ∷ (27, 1) ∷ []))

abbrev pub held_band : Tick
held_band = tick_under held_sheet false 25 25 (closed_to Raise) 0 (shows ((2, 1) ∷ (10, 1) ∷ (14, 1) ∷ (16, 1) ∷ (27, 1) ∷ []))

-- ---- what they are

pub zero_one : ◌≡◌ {A = ℕ} 0 1 → ⊥
zero_one e = omega arith

pub one_zero : ◌≡◌ {A = ℕ} 1 0 → ⊥
one_zero e = omega arith

module _ (sheet : List ℕ) where
  in_force : (d : Direction) (rest : Bool) (delay other contacts on moving : ℕ) → InForce d delay (toward d sheet rest delay other contacts on moving)
  in_force Raise rest delay other contacts on moving = refl
  in_force Lower rest delay other contacts on moving = refl

  -- a tick that starts at rest begins its side's command if it shows it; one that shows none, or does not start at rest, begins none
  pub begins_shown : (d : Direction) (delay other contacts moving : ℕ) → Begins d (toward d sheet true delay other contacts 1 moving)
  begins_shown Raise delay other contacts moving = record { accepted = refl; from_rest = refl; on = refl }
  begins_shown Lower delay other contacts moving = record { accepted = refl; from_rest = refl; on = refl }

  pub none_shown : (d : Direction) (rest : Bool) (delay other contacts moving : ℕ) → Command (toward d sheet rest delay other contacts 0 moving) → ⊥
  none_shown Raise rest delay other contacts moving c = ⊎_elim (λ b. zero_one b.on) (λ b. zero_one b.on) c
  none_shown Lower rest delay other contacts moving c = ⊎_elim (λ b. zero_one b.on) (λ b. zero_one b.on) c

  pub none_moving : (d : Direction) (delay other contacts on moving : ℕ) → Command (toward d sheet false delay other contacts on moving) → ⊥
  none_moving Raise delay other contacts on moving c = ⊎_elim (λ b. false≢true b.from_rest) (λ b. false≢true b.from_rest) c
  none_moving Lower delay other contacts on moving c = ⊎_elim (λ b. false≢true b.from_rest) (λ b. false≢true b.from_rest) c

pub is_command : (d : Direction) (t : Tick) → Begins d t → Command t
is_command Raise t b = inl b
is_command Lower t b = inr b

module _ (sheet : List ℕ) (s : slot sheet in_service ≡ 1) where
  lasts : (d : Direction) (rest : Bool) (delay other contacts on moving : ℕ) → bit_of contacts 13 ≡ false → bit_of contacts 14 ≡ true
      → Lasting d (toward d sheet rest delay other contacts on moving)
  lasts Raise rest delay other contacts on moving o a =
      record {
        accepted = refl;
        in_service = s;
        not_out = o;
        automatic = a;
        deviates = refl;
        mode_free = refl;
        side_free = refl;
        no_run_away = refl;
        no_not_started = refl;
        no_long = refl;
        no_fast = refl;
      }
  lasts Lower rest delay other contacts on moving o a =
      record {
        accepted = refl;
        in_service = s;
        not_out = o;
        automatic = a;
        deviates = refl;
        mode_free = refl;
        side_free = refl;
        no_run_away = refl;
        no_not_started = refl;
        no_long = refl;
        no_fast = refl;
      }

  pub open_lasts : (d : Direction) (rest : Bool) (delay on moving : ℕ) → Lasting d (toward d sheet rest delay 23 (open_to d) on moving)
  open_lasts Raise rest delay on moving = lasts Raise rest delay 23 (open_to Raise) on moving refl refl
  open_lasts Lower rest delay on moving = lasts Lower rest delay 23 (open_to Lower) on moving refl refl

  pub moves_lasts : (d : Direction) → Lasting d (moves sheet d)
  moves_lasts Raise = lasts Raise false 25 23 (closed_to Raise) 0 1 refl refl
  moves_lasts Lower = lasts Lower false 25 23 (closed_to Lower) 0 1 refl refl

  -- a waiting tick, with a command or without: with an open contact
  pub open_waits : (d : Direction) (delay on moving : ℕ) → Waiting d (toward d sheet true delay 23 (open_to d) on moving)
  open_waits Raise delay on moving = record { lasting = open_lasts Raise true delay on moving; rest = refl; contact = inr refl }
  open_waits Lower delay on moving = record { lasting = open_lasts Lower true delay on moving; rest = refl; contact = inr refl }

-- without a switching contact, whatever bit 1 is
pub held_waits : (d : Direction) (delay contacts on moving : ℕ) → bit_of contacts 13 ≡ false → bit_of contacts 14 ≡ true
    → Waiting d (held_to d true delay contacts on moving)
held_waits Raise delay contacts on moving o a =
    record { lasting = lasts held_sheet refl Raise true delay 25 contacts on moving o a; rest = refl; contact = inl refl }
held_waits Lower delay contacts on moving o a =
    record { lasting = lasts held_sheet refl Lower true delay 25 contacts on moving o a; rest = refl; contact = inl refl }

-- the switching contact
pub is_open : (d : Direction) (sheet : List ℕ) (rest : Bool) (delay on moving : ℕ) → closed (toward d sheet rest delay 23 (open_to d) on moving) ≡ false
is_open Raise sheet rest delay on moving = refl
is_open Lower sheet rest delay on moving = refl

pub is_closed : (d : Direction) (sheet : List ℕ) → closed (moves sheet d) ≡ true
is_closed Raise sheet = refl
is_closed Lower sheet = refl

-- no waiting ticks: in band; at the move's end, which did not start at rest; a closed contact, where the drive has one; the end as 'long'
pub band_not : (d : Direction) → Waiting d in_band → ⊥
band_not Raise w = zero_one w.lasting.deviates
band_not Lower w = zero_one w.lasting.deviates

pub ends_not : (d : Direction) (sheet : List ℕ) → Waiting d (ends sheet d) → ⊥
ends_not Raise sheet w = false≢true w.rest
ends_not Lower sheet w = false≢true w.rest

pub closed_not : (d : Direction) (delay : ℕ) → Waiting d (toward d varied_sheet true delay 23 (closed_to d) 0 0) → ⊥
closed_not Raise delay w = ⊎_elim (λ e. zero_one e) (λ e. true≢false e) w.contact
closed_not Lower delay w = ⊎_elim (λ e. zero_one e) (λ e. true≢false e) w.contact

pub long_not : Waiting Raise held_long → ⊥
long_not w = false≢true w.rest

-- ---- a command that is served in the words of demand 3, and what each tick of its row has

module _ (sheet : List ℕ) (d : Direction) (b h : ℕ) (after : List Tick) where
  pub all_served : (P : Tick → Type 0) → P (asked sheet d) → P (moves sheet d) → P (ends sheet d) → All P after → All P (served_row_lem sheet d b h after)
  all_served P p q r s =
      all_join P (replicate b (asked sheet d)) (replicate h (moves sheet d) ++ (ends sheet d ∷ after)) (all_same P b (asked sheet d) p)
      (all_join P (replicate h (moves sheet d)) (ends sheet d ∷ after) (all_same P h (moves sheet d) q) (r, s))

  pub serves : All (λ t. closed t ≡ false) after → b < slot sheet t5 → 0 < h → slot sheet t6 ≤ h → h ≤ slot sheet t4 → Serves sheet (served_row_lem sheet d b h after)
  serves open_after in_time closes long_enough short_enough =
      let m : length (replicate b (asked sheet d)) ≡ b = length-replicate b (asked sheet d) in
      let n : length (replicate h (moves sheet d)) ≡ h = length-replicate h (moves sheet d) in
      record {
        before = replicate b (asked sheet d);
        held = replicate h (moves sheet d);
        after = ends sheet d ∷ after;
        whole = refl;
        open_before = all_same (λ t. closed t ≡ false) b (asked sheet d) (is_open d sheet false 25 1 1);
        closed_held = all_same (λ t. closed t ≡ true) h (moves sheet d) (is_closed d sheet);
        open_after = (is_open d sheet false 25 0 0, open_after);
        in_time = omega arith;
        closes = omega arith;
        long_enough = omega arith;
        short_enough = omega arith;
      }

-- ---- a row of n + 1 ticks to a side under one delay and from zero, each as a waiting tick must be: its last tick begins the command
-- exactly if its number is the delay

module _ (o : Opening) (pre post : List Tick) (d : Direction) (zero : BeganAtZero d o pre) (sheet : List ℕ) (delay other contacts : ℕ)
    (w : (on moving : ℕ) → Waiting d (toward d sheet true delay other contacts on moving)) where
  pub exactly_to : (n on moving : ℕ)
      → Kept o (pre ++ (replicate n (toward d sheet true delay other contacts 0 0) ++ (toward d sheet true delay other contacts on moving ∷ post)))
      → (Begins d (toward d sheet true delay other contacts on moving) → n + 1 ≡ delay)
      × (n + 1 ≡ delay → Begins d (toward d sheet true delay other contacts on moving))
  exactly_to n on moving k =
      let t : Tick = toward d sheet true delay other contacts 0 0 in
      let e =
      k.exactly d delay pre (replicate n t) (toward d sheet true delay other contacts on moving) post refl zero
      (all_same (Waiting d) n t (w 0 0)) (w on moving)
      (all_same (InForce d delay) n t (in_force sheet d true delay other contacts 0 0)) (in_force sheet d true delay other contacts on moving) in
      let c : length (replicate n t) ≡ n = length-replicate n t in
      (λ b. let q = e.0 b in omega arith, λ q. e.1 (omega arith))
