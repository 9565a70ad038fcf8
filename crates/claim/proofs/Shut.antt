-- Lists that demand 3 shuts out: where it is kept, there is no such list. What a list may hold beside the fault is left open, so that a
-- hypothesis more, or a conclusion less, lets one of them in.
-- Assumes nothing.
use Prim.Native.Nat.{ℕ, ◌+◌, ◌≤◌, ◌<◌}
use native.Mathlib.Omega.{arith}
use mathlib.Core.Path.{◌≡◌, refl, ◌∙◌}
use mathlib.Core.Bool.{Bool, true, false}
use mathlib.Core.List.{List, [], ◌∷◌, ◌++◌}
use lib.ListN.{length, length-append, replicate, length-replicate}
use Rattle.common.specs.Choice.{choose}
use Rattle.ways.specs.declared.Direction.{Direction}
use Rattle.ways.specs.declared.Direction.TheVariants.{Raise, Lower}
use Rattle.input.specs.Brought.{bit_of}
use Rattle.claim.specs.Claim.{Tick, Opening, All, Begins, Command, Lasting, Waiting, BeganAtZero, longest, command_field, Serves, Kept, closed}
use Rattle.claim.specs.Scenes.{varied_by, varied_sheet, held_sheet}
use Rattle.claim.proofs.Lists.{all_same, all_join, some_none}
use Rattle.claim.proofs.Ticks.{shows, tick_on, open_to, closed_to, in_band, toward, waits, commands, asked, moves, ends, served_row_lem, held_to, one_zero, begins_shown, none_shown, none_moving, is_command, open_lasts, moves_lasts, open_waits, held_waits, is_open, band_not, all_served, serves, exactly_to}

-- a list begins on a record within its limits, or not, that holds these waits
abbrev begun_on : (sheet : List ℕ) (within : Bool) (low_wait high_wait : ℕ) → Opening
begun_on sheet within l h = record { within = within; settings = sheet; low_wait = l; high_wait = h }

abbrev begun : (within : Bool) (low_wait high_wait : ℕ) → Opening
begun = begun_on varied_sheet

-- on one that holds this wait to a side, and this to the other
abbrev begun_to : Direction → (sheet : List ℕ) (within : Bool) (wait other : ℕ) → Opening
begun_to Raise sheet within wait other = begun_on sheet within wait other
begun_to Lower sheet within wait other = begun_on sheet within other wait

-- ---- refusals

-- a tick that runs on a record outside its limits; one that is refused on another; each after a tick that is as it must be
pub run_outside : (l h : ℕ) (rest : Bool) (outputs : List ℕ) (post : List Tick)
    → Kept (begun false l h) (tick_on rest 23 23 (open_to Raise) 4 outputs ∷ (in_band ∷ post)) → ⊥
unfolding choose
run_outside l h rest outputs post k = let e : ◌≡◌ {A = ℕ} 0 4 = k.refused.1.0 in absurd (omega arith)

pub refused_within : (l h : ℕ) (rest : Bool) (outputs : List ℕ) (post : List Tick)
    → Kept (begun true l h) (in_band ∷ (tick_on rest 23 23 (open_to Raise) 4 outputs ∷ post)) → ⊥
unfolding choose
refused_within l h rest outputs post k = let e : ◌≡◌ {A = ℕ} 4 0 = k.refused.1.0 in absurd (omega arith)

-- ---- raise and lower together, on any tick, refused or not, at rest or not

pub both_on : (o : Opening) (t : Tick) (rest : Bool) (contacts refusal : ℕ) (post : List Tick)
    → Kept o (t ∷ (tick_on rest 23 23 contacts refusal (shows ((0, 1) ∷ (1, 1) ∷ [])) ∷ post)) → ⊥
both_on o t rest contacts refusal post k = k.never_both.1.0 refl refl

-- ---- a command against a block: of its mode, of its direction

-- an accepted tick at rest with these contacts, that shows a command and a block, after another tick
module _ (o : Opening) (t : Tick) where
  abbrev Blocked : Direction → (contacts block : ℕ) → Type 0
  Blocked d contacts block = Kept o (t ∷ (tick_on true 23 23 contacts 0 (shows ((command_field d, 1) ∷ (block, 1) ∷ [])) ∷ []))

  pub automatic_blocked : (d : Direction) → Blocked d (open_to Raise) 13 → ⊥
  unfolding choose
  automatic_blocked Raise k = one_zero ((k.unblocked Raise).1.0 (record { accepted = refl; from_rest = refl; on = refl })).0
  automatic_blocked Lower k = one_zero ((k.unblocked Lower).1.0 (record { accepted = refl; from_rest = refl; on = refl })).0

  pub manual_blocked : (d : Direction) → Blocked d 1 14 → ⊥
  unfolding choose
  manual_blocked Raise k = one_zero ((k.unblocked Raise).1.0 (record { accepted = refl; from_rest = refl; on = refl })).0
  manual_blocked Lower k = one_zero ((k.unblocked Lower).1.0 (record { accepted = refl; from_rest = refl; on = refl })).0

  -- in either mode
  pub raise_blocked : (contacts : ℕ) → Blocked Raise contacts 15 → ⊥
  raise_blocked contacts k = one_zero ((k.unblocked Raise).1.0 (record { accepted = refl; from_rest = refl; on = refl })).1

  pub lower_blocked : (contacts : ℕ) → Blocked Lower contacts 16 → ⊥
  lower_blocked contacts k = one_zero ((k.unblocked Lower).1.0 (record { accepted = refl; from_rest = refl; on = refl })).1

-- ---- a command that is late: rows of 25 waiting ticks, the longest delay, and none; whatever stands before and after, holds a wait or
-- changes the delay

none_to : (sheet : List ℕ) (d : Direction) (rest : Bool) (delay other contacts moving : ℕ) → Begins d (toward d sheet rest delay other contacts 0 moving) → ⊥
none_to sheet d rest delay other contacts moving b =
    none_shown sheet d rest delay other contacts moving (is_command d (toward d sheet rest delay other contacts 0 moving) b)

module _ (within : Bool) (l h : ℕ) (pre post : List Tick) (d : Direction) where
  late : (sheet : List ℕ) → 25 ≡ longest sheet → (t u : Tick) → Waiting d t → Waiting d u → (Begins d t → ⊥) → (Begins d u → ⊥)
      → Kept (begun_on sheet within l h) (pre ++ (replicate 24 t ++ (u ∷ post))) → ⊥
  late sheet e t u v w n m k =
      some_none (Begins d) (replicate 24 t ++ (u ∷ []))
      (all_join (λ x. Begins d x → ⊥) (replicate 24 t) (u ∷ []) (all_same (λ x. Begins d x → ⊥) 24 t n) (m, tt))
      (k.latest d pre (replicate 24 t) u post refl (all_same (Waiting d) 24 t v) w e)

  pub late_row : (delay : ℕ) → Kept (begun within l h) (pre ++ (replicate 24 (waits varied_sheet d delay) ++ (waits varied_sheet d 21 ∷ post))) → ⊥
  late_row delay =
      late varied_sheet refl (waits varied_sheet d delay) (waits varied_sheet d 21) (open_waits varied_sheet refl d delay 0 0) (open_waits varied_sheet refl d 21 0 0)
      (none_to varied_sheet d true delay 23 (open_to d) 0) (none_to varied_sheet d true 21 23 (open_to d) 0)

  -- without a switching contact, whatever bit 1 is
  pub late_held : (delay contacts : ℕ) → bit_of contacts 13 ≡ false → bit_of contacts 14 ≡ true
      → Kept (begun_on held_sheet within l h) (pre ++ (replicate 24 (held_to d true delay contacts 0 0) ++ (held_to d true delay contacts 0 0 ∷ post))) → ⊥
  late_held delay contacts p q =
      let w = held_waits d delay contacts 0 0 p q in
      let n = none_to held_sheet d true delay 25 contacts 0 in
      late held_sheet refl (held_to d true delay contacts 0 0) (held_to d true delay contacts 0 0) w w n n

-- ---- a command that does not begin exactly on its tick

-- a row that follows a tick in band, whatever stood before it
after_band : (d : Direction) (o : Opening) (pre : List Tick) → BeganAtZero d o (pre ++ (in_band ∷ []))
after_band d o [] = band_not d
after_band d o (t ∷ []) = band_not d
after_band d o (t ∷ (u ∷ ts)) = after_band d o (u ∷ ts)

-- a row that opens the list on a record that holds no wait to its side, whatever it holds to the other
at_first : (d : Direction) (sheet : List ℕ) (within : Bool) (other : ℕ) → BeganAtZero d (begun_to d sheet within 0 other) []
at_first Raise sheet within other = refl
at_first Lower sheet within other = refl

module _ (o : Opening) (pre post : List Tick) (d : Direction) (zero : BeganAtZero d o pre) (sheet : List ℕ) (delay other contacts : ℕ)
    (w : (on moving : ℕ) → Waiting d (toward d sheet true delay other contacts on moving)) where
  pub never_on_its_tick : (n : ℕ) → n + 1 ≡ delay → Kept o (pre ++ (replicate n (toward d sheet true delay other contacts 0 0) ++ (toward d sheet true delay other contacts 0 0 ∷ post))) → ⊥
  never_on_its_tick n e k = none_to sheet d true delay other contacts 0 ((exactly_to o pre post d zero sheet delay other contacts w n 0 0 k).1 e)

  pub on_another_tick : (n : ℕ) → (n + 1 ≡ delay → ⊥) → Kept o (pre ++ (replicate n (toward d sheet true delay other contacts 0 0) ++ (toward d sheet true delay other contacts 1 1 ∷ post))) → ⊥
  on_another_tick n e k = e ((exactly_to o pre post d zero sheet delay other contacts w n 1 1 k).0 (begins_shown sheet d delay other contacts 1))

-- each after a tick in band, and where the row opens the list; to either side, under any delay
module _ (d : Direction) (delay n : ℕ) (post : List Tick) where
  waiting : (on moving : ℕ) → Waiting d (toward d varied_sheet true delay 23 (open_to d) on moving)
  waiting = open_waits varied_sheet refl d delay

  pub late_after_band : (o : Opening) (pre : List Tick) → n + 1 ≡ delay
      → Kept o ((pre ++ (in_band ∷ [])) ++ (replicate n (waits varied_sheet d delay) ++ (waits varied_sheet d delay ∷ post))) → ⊥
  late_after_band o pre e k =
      never_on_its_tick o (pre ++ (in_band ∷ [])) post d (after_band d o pre) varied_sheet delay 23 (open_to d) waiting n e k

  pub early_after_band : (o : Opening) (pre : List Tick) → (n + 1 ≡ delay → ⊥)
      → Kept o ((pre ++ (in_band ∷ [])) ++ (replicate n (waits varied_sheet d delay) ++ (commands varied_sheet d delay ∷ post))) → ⊥
  early_after_band o pre e k =
      on_another_tick o (pre ++ (in_band ∷ [])) post d (after_band d o pre) varied_sheet delay 23 (open_to d) waiting n e k

  module _ (within : Bool) (other : ℕ) where
    pub late_at_first : n + 1 ≡ delay
        → Kept (begun_to d varied_sheet within 0 other) (replicate n (waits varied_sheet d delay) ++ (waits varied_sheet d delay ∷ post)) → ⊥
    late_at_first e k =
        never_on_its_tick (begun_to d varied_sheet within 0 other) [] post d (at_first d varied_sheet within other) varied_sheet delay 23 (open_to d) waiting n e k

    pub early_at_first : (n + 1 ≡ delay → ⊥)
        → Kept (begun_to d varied_sheet within 0 other) (replicate n (waits varied_sheet d delay) ++ (commands varied_sheet d delay ∷ post)) → ⊥
    early_at_first e k =
        on_another_tick (begun_to d varied_sheet within 0 other) [] post d (at_first d varied_sheet within other) varied_sheet delay 23 (open_to d) waiting n e k

    -- without a switching contact, whatever bit 1 is
    module _ (contacts : ℕ) (p : bit_of contacts 13 ≡ false) (q : bit_of contacts 14 ≡ true) where
      held_waiting : (on moving : ℕ) → Waiting d (held_to d true delay contacts on moving)
      held_waiting on moving = held_waits d delay contacts on moving p q

      pub held_late : n + 1 ≡ delay
          → Kept (begun_to d held_sheet within 0 other) (replicate n (held_to d true delay contacts 0 0) ++ (held_to d true delay contacts 0 0 ∷ post)) → ⊥
      held_late e k =
          never_on_its_tick (begun_to d held_sheet within 0 other) [] post d (at_first d held_sheet within other) held_sheet delay 25 contacts held_waiting n e k

      pub held_early : (n + 1 ≡ delay → ⊥)
          → Kept (begun_to d held_sheet within 0 other) (replicate n (held_to d true delay contacts 0 0) ++ (held_to d true delay contacts 1 1 ∷ post)) → ⊥
      held_early e k =
          on_another_tick (begun_to d held_sheet within 0 other) [] post d (at_first d held_sheet within other) held_sheet delay 25 contacts held_waiting n e k

-- it says nothing of a row that opens the list on a record with a wait to its side
pub held_says_nothing : (d : Direction) (within : Bool) (other : ℕ) → BeganAtZero d (begun_to d varied_sheet within 10 other) [] → ⊥
held_says_nothing Raise within other e = omega arith
held_says_nothing Lower within other e = omega arith

-- ---- a command that does not come again, whenever the drive starts in time and holds its contact for T6 to T4 ticks, whatever T6 is

module _ (t6 : ℕ) (d : Direction) where
  abbrev sheet : List ℕ
  sheet = varied_by t6

  abbrev idle_row : ℕ → ℕ → ℕ → List Tick
  idle_row b h a = served_row_lem sheet d b h (replicate a (waits sheet d 25))

  idle_length : (b h a : ℕ) → length (idle_row b h a) ≡ b + (h + (a + 1))
  idle_length b h a =
      omega (
        arith,
        length-append (replicate b (asked sheet d)) (replicate h (moves sheet d) ++ (ends sheet d ∷ replicate a (waits sheet d 25))),
        length-append (replicate h (moves sheet d)) (ends sheet d ∷ replicate a (waits sheet d 25)),
        length-replicate b (asked sheet d),
        length-replicate h (moves sheet d),
        length-replicate a (waits sheet d 25),
      )

  -- what each tick of the row has
  all_idle : (P : Tick → Type 0) (b h a : ℕ) → P (asked sheet d) → P (moves sheet d) → P (ends sheet d) → P (waits sheet d 25) → All P (idle_row b h a)
  all_idle P b h a p q r s = all_served sheet d b h (replicate a (waits sheet d 25)) P p q r (all_same P a (waits sheet d 25) s)

  idle_serves : (b h a : ℕ) → b < 22 → 0 < h → t6 ≤ h → h ≤ 24 → Serves sheet (idle_row b h a)
  idle_serves b h a =
      serves sheet d b h (replicate a (waits sheet d 25)) (all_same (λ t. closed t ≡ false) a (waits sheet d 25) (is_open d sheet true 25 0 0))

  -- whatever the first command was
  pub never_again : (within : Bool) (l m b h a : ℕ) → b < 22 → 0 < h → t6 ≤ h → h ≤ 24 → b + (h + (a + 1)) ≡ 71
      → (first : Tick) → Begins d first → (pre post : List Tick) → Kept (begun_on sheet within l m) (pre ++ (first ∷ (idle_row b h a ++ post))) → ⊥
  never_again within l m b h a in_time closes long_enough short_enough n first begins pre post k =
      some_none Command (idle_row b h a)
      (all_idle (λ t. Command t → ⊥) b h a (none_moving sheet d 25 23 (open_to d) 1 1) (none_moving sheet d 25 23 (closed_to d) 0 1)
      (none_moving sheet d 25 23 (open_to d) 0 0) (none_shown sheet d true 25 23 (open_to d) 0))
      (k.again d pre first (idle_row b h a) post refl refl begins (idle_length b h a ∙ n)
      (λ none. (
        all_idle (Lasting d) b h a (open_lasts sheet refl d false 25 1 1) (moves_lasts sheet refl d) (open_lasts sheet refl d false 25 0 0)
            (open_lasts sheet refl d true 25 0 0),
        idle_serves b h a in_time closes long_enough short_enough,
      )))
